use Rattle.std.proofs.Common.{◌≡◌, ◌-◌, map, vec_items}
use Rattle.gas.specs.Day.{numbers_of}
use Rattle.prices.specs.Patterns.{days_to}
use Rattle.prices.proofs.days.Pattern.days.Given as goal

abbrev pub invariant-loop-number : goal.invariant-loop-number
invariant-loop-number l = map numbers_of (vec_items l.days) ≡ days_to l.self (l.number - 1)
