use Rattle.std.proofs.Common.{arith, length-take, take}
use Rattle.std.proofs.lemmas.Int.{ints}
use Rattle.gas.proofs.Sums.{month_metered, month_received}
use Rattle.book.proofs.therms.net_therms.Goals as goal

pub add_assign-requires : goal.add_assign-requires
add_assign-requires c =
    let before = take c.loop-day.day-index c.args.days.now in
    let few = length-take c.loop-day.day-index c.args.days.now in
    omega (
      arith,
      ints,
      month_received before (omega arith),
      month_metered before (omega arith),
      c.day-item.result.received,
      c.day-item.result.metered,
    )
