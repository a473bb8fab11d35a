use Rattle.ledger.specs.Year.{not_opened}
use Rattle.book.specs.Years.{year_by}
use Rattle.book.proofs.OpenMonths.{month_fits, month_more}
use Rattle.book.proofs.year.MeterYear.open_therms.Goals as goal

pub add_assign-requires : goal.add_assign-requires
add_assign-requires c = let l = c.loop-number in month_fits
    (year_by not_opened c.args.self.now) l.number c.loop-number-test.true l.sum.count _ _
    c.month_therms.ensures l.invariant.is l.invariant.within

pub loop-number-preserved : goal.loop-number-preserved
loop-number-preserved c = let l = c.loop-number in month_more
    (year_by not_opened c.args.self.now) l.number c.loop-number-test.true l.sum.count _ _
    c.month_therms.ensures l.invariant.is l.invariant.within _ c.add_assign.ensures.after
