-- The limits of the input, held against what was laid down.
use Rattle.std.specs.Prelude.{◌≡◌, ℕ, List, [], ◌∷◌, map}
use Rattle.gas.specs.declared.amount.TheConstants.{MOST_AMOUNT}
use Rattle.gas.specs.declared.calendar.TheConstants.{LAST_MONTH}
use Rattle.gas.specs.declared.day.TheConstants.{MOST_A_DAY}
use Rattle.gas.specs.declared.facts.TheConstants.{MOST_DAYS}
use Rattle.gas.specs.declared.month.TheConstants.{MOST_A_MONTH}
use Rattle.gas.specs.declared.units.TheConstants.{MOST_PER_MILLE, MOST_PER_THERM}

-- each number of a table is the one that was expected of it
abbrev pub IsAsExpected : List (ℕ × ℕ) → Type 0
IsAsExpected table = map (λ row. row.0) table ≡ map (λ row. row.1) table

-- the limits, each with what was laid down
abbrev pub limits : List (ℕ × ℕ)
limits =
    (LAST_MONTH, 11) ∷
    (MOST_DAYS, 31) ∷
    (MOST_A_DAY, 200000) ∷
    (MOST_A_MONTH, 6200000) ∷
    (MOST_PER_THERM, 2000000) ∷
    (MOST_PER_MILLE, 1000) ∷
    (MOST_AMOUNT, 10000000000000) ∷ []
