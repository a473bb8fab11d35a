use Rattle.std.proofs.Common.{refl, sym, ◌∙◌}
use Rattle.book.proofs.ClosedMonths.{closed, closing_refused, lacks_day, month_refused}
use Rattle.book.proofs.ClosedMonths.{not_earliest, reopened}
use Rattle.book.proofs.Outcomes.{handed_on, if_refused, opened_by, refused_alike}
use Rattle.book.proofs.book.Book.close.Goals as goal

pub returns-in_err-month-clause-is : goal.returns-in_err-month-clause-is
returns-in_err-month-clause-is g c =
    handed_on c.from_residual.result _ c.from_residual.ensures.0 c.from_residual.ensures.1
    (month_refused {b = c.args.self.now} refl _ _ _ _ (opened_by _ c.args.terms.now.settlement)
    c.in_err-month.ensures)

pub returns-in_err-closing-clause-is : goal.returns-in_err-closing-clause-is
returns-in_err-closing-clause-is g c =
    handed_on c.from_residual-in_err-closing.result _ c.from_residual-in_err-closing.ensures.0
    c.from_residual-in_err-closing.ensures.1
    (closing_refused {b = c.args.self.now} refl _ _ _ _
    (opened_by _ c.args.terms.now.settlement) c.in_ok-month.ensures c.in_err-closing.ensures)

pub returns-then-month-count-clause-is : goal.returns-then-month-count-clause-is
returns-then-month-count-clause-is g c =
    not_earliest c.self.view_is _ _ _ _ (opened_by _ c.args.terms.now.settlement)
    c.in_ok-month.ensures c.in_ok-closing.ensures
    (λ same. c.if-month-count.true (same ∙ sym c.count.ensures))

pub returns-then-not-is_complete-clause-is : goal.returns-then-not-is_complete-clause-is
returns-then-not-is_complete-clause-is g c =
    lacks_day c.self.view_is _ _ _ _ (opened_by _ c.args.terms.now.settlement) c.in_ok-month.ensures
    c.in_ok-closing.ensures (c.if-month-count.false ∙ c.count.ensures)
    (sym c.if-not-is_complete.ensures)

pub returns-else-is_err-clause-is : goal.returns-else-is_err-clause-is
returns-else-is_err-clause-is g c =
    c.true_up-trued_up.ensures.is
    ∙ closed c.self.view_is _ _ _ _ (opened_by _ c.args.terms.now.settlement) c.in_ok-month.ensures
    c.in_ok-closing.ensures (c.if-month-count.false ∙ c.count.ensures)
    (sym c.if-not-is_complete.ensures) c.close_next.ensures

pub returns-then-is_err-clause-is : goal.returns-then-is_err-clause-is
returns-then-is_err-clause-is g c =
    refused_alike c.true_up-trued_up.result _ _ c.if-is_err.ensures.value
    ∙ c.true_up-trued_up.ensures.is
    ∙ closed c.self.view_is _ _ _ _ (opened_by _ c.args.terms.now.settlement) c.in_ok-month.ensures
    c.in_ok-closing.ensures (c.if-month-count.false ∙ c.count.ensures)
    (sym c.if-not-is_complete.ensures) c.close_next.ensures

pub returns-then-is_err-clause-unchanged : goal.returns-then-is_err-clause-unchanged
returns-then-is_err-clause-unchanged g c =
    if_refused c.true_up-trued_up.result c.if-is_err.ensures.value
    c.true_up-trued_up.ensures.unchanged (λ stays.
    reopened c.args.self.now c.close_next.new.self c.true_up-trued_up.new.self _ _
    c.close_next.ensures stays c.reopen_last.ensures)
