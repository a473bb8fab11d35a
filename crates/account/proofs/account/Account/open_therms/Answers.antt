use Rattle.std.proofs.Common.{ap, ◌∙◌}
use Rattle.ledger.specs.Prices.{open_therms}
use Rattle.ledger.proofs.Law.{runs_add_up}
use Rattle.account.specs.Holdings.{Holding}
use Rattle.account.proofs.account.Account.open_therms.Goals as goal

pub returns-clause-law : goal.returns-clause-law
returns-clause-law g c = runs_add_up

pub returns-clause-adds_up : goal.returns-clause-adds_up
returns-clause-adds_up g c =
    λ h run. rw (c.open_therms.ensures ∙ ap (λ (a : Holding _). open_therms a.state.year)
    c.self.view_is) (runs_add_up _ h c.args.self.now.state run)
