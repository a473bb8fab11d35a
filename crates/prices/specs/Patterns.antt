-- The days of a month by their pattern.
use Rattle.std.specs.Prelude.{ℕ, zero, suc, List, [], ◌∷◌, ◌++◌}
use Rattle.gas.specs.declared.day.DayNumbers.{DayNumbers}
use Rattle.gas.specs.Day.{kind_number}
use Rattle.prices.specs.declared.days.Pattern.{Pattern}
use Rattle.prices.specs.declared.days.Pattern.TheVariants.{Mixed, Full, Idle}
use Rattle.prices.specs.Days.{full_day, idle_day, mixed_day}

-- the k-th day of a pattern
abbrev pub day_of : Pattern → ℕ → DayNumbers
day_of (Mixed base) k = mixed_day base k
day_of (Full kind) k = full_day (kind_number kind)
day_of Idle k = idle_day

-- the first n days, numbered from 1
abbrev pub days_to : Pattern → ℕ → List DayNumbers
days_to pattern zero = []
days_to pattern (suc n) = days_to pattern n ++ (day_of pattern (suc n) ∷ [])
