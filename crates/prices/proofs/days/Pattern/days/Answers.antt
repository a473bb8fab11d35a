use Rattle.std.proofs.Common.{rules, ◌≡◌, Ok, arith}
use Rattle.gas.specs.Day.{numbers_of}
use Rattle.gas.specs.Inputs.{checked_day}
use Rattle.prices.proofs.Months.{kth_day}
use Rattle.prices.proofs.days.Pattern.days.Goals as goal

pub loop-number-preserved : goal.loop-number-preserved
loop-number-preserved c =
    let made : Ok (numbers_of c.in_ok-day.day) ≡ checked_day c.numbers.result = search rules in
    kth_day c.args.self c.loop-number.number _ _ c.in_ok-day.day _
    (omega arith) c.loop-number.invariant c.numbers.ensures made c.in_ok-push.ensures.items
