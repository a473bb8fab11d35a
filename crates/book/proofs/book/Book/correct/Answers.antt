use Rattle.std.proofs.Common.{sym, ◌∙◌}
use Rattle.book.proofs.Outcomes.{corrects, correction_refused, handed_on, if_refused, not_posted}
use Rattle.book.proofs.Outcomes.{opened_by, refused_alike, restored}
use Rattle.book.proofs.book.Book.correct.Goals as goal

pub returns-in_err-dated-clause-is : goal.returns-in_err-dated-clause-is
returns-in_err-dated-clause-is g c =
    handed_on c.from_residual.result _ c.from_residual.ensures.0 c.from_residual.ensures.1
    (correction_refused c.self.view_is _ _ _ _ _
    (opened_by _ c.args.terms.now.settlement) c.in_err-dated.ensures.refused)

pub returns-in_default-clause-is : goal.returns-in_default-clause-is
returns-in_default-clause-is g c =
    not_posted c.self.view_is _ _ _ _ _ (opened_by _ c.args.terms.now.settlement)
    c.in_ok-dated.ensures.refused c.in_ok-dated.ensures.place c.exchange.ensures.before
    (sym c.in_default.is)

pub returns-else-is_err-clause-is : goal.returns-else-is_err-clause-is
returns-else-is_err-clause-is g c =
    c.true_up-trued_up.ensures.is
    ∙ corrects c.self.view_is _ _ _ _ _ (opened_by _ c.args.terms.now.settlement)
    c.in_ok-dated.ensures.refused c.in_ok-dated.ensures.place c.exchange.ensures.before
    (sym c.in-Some.is) c.in_ok-dated.ensures.made c.in-Some.ensures.after

pub returns-then-is_err-clause-is : goal.returns-then-is_err-clause-is
returns-then-is_err-clause-is g c =
    refused_alike c.true_up-trued_up.result _ _ c.if-is_err.ensures.value
    ∙ c.true_up-trued_up.ensures.is
    ∙ corrects c.self.view_is _ _ _ _ _ (opened_by _ c.args.terms.now.settlement)
    c.in_ok-dated.ensures.refused c.in_ok-dated.ensures.place c.exchange.ensures.before
    (sym c.in-Some.is) c.in_ok-dated.ensures.made c.in-Some.ensures.after

pub returns-then-is_err-clause-unchanged : goal.returns-then-is_err-clause-unchanged
returns-then-is_err-clause-unchanged g c =
    if_refused c.true_up-trued_up.result c.if-is_err.ensures.value
    c.true_up-trued_up.ensures.unchanged (λ stays.
    restored c.args.self.now c.exchange.new.self c.true_up-trued_up.new.self _
    c.in_ok-dated.dated.place.index c.in_ok-dated.dated.record c.in-Some.before
    c.in-Some.ensures.before c.in-Some.ensures.after stays c.store.ensures)
