use Rattle.std.proofs.Common.{sym, ◌∙◌}
use Rattle.book.specs.Terms.{opening_numbers, settlement_numbers}
use Rattle.book.proofs.Settled.{interim_open, settles}
use Rattle.book.proofs.book.Book.settle.Goals as goal

pub returns-then-count-opening-clause-is : goal.returns-then-count-opening-clause-is
returns-then-count-opening-clause-is g c = let t = c.args.settlement.now in interim_open
    c.self.view_is (opening_numbers c.args.opening.now)
    (settlement_numbers t) _ t.final_increase.whole t.interest.whole
    (rw (sym c.count.ensures) c.if-count-opening.true)

pub returns-clause-is : goal.returns-clause-is
returns-clause-is g c = let t = c.args.settlement.now in c.true_up.ensures.is ∙
    settles c.self.view_is (opening_numbers c.args.opening.now)
    (settlement_numbers t) _ t.final_increase.whole t.interest.whole
    (rw (sym c.count.ensures) c.if-count-opening.false)
