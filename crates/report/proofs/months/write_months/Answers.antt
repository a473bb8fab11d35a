use Rattle.std.proofs.Common.{◌≡◌, arith, refl}
use Rattle.report.specs.Statements.{titled_text, months_text}
use Rattle.report.proofs.Titled.{month_next}
use Rattle.report.proofs.months.write_months.Goals as goal

pub loop-month-preserved : goal.loop-month-preserved
loop-month-preserved g c =
    month_next (titled_text c.args.account.now.state.lines) _ _ _ c.loop-month.month
    c.loop-month.invariant
    c.in_ok-write_titled.ensures

pub returns : goal.returns
unfolding months_text
returns g c =
    let l = c.loop-month in
    let last : l.month ≡ 13 = omega (arith, l.auto.month-end, c.loop-month-test.false) in
    rw (l.invariant, last) refl
