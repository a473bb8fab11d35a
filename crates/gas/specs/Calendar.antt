-- The days of the months of a gas year, which begins in November.
use Rattle.std.specs.Prelude.{ℕ, Bool, true, false, if◌then◌else◌, ◌||◌, List, [], ◌∷◌, ◌==◌}
use Rattle.std.specs.Prelude.{slice_index}

-- November to October of a common year
abbrev pub common_year : List ℕ
common_year = 30 ∷ 31 ∷ 31 ∷ 28 ∷ 31 ∷ 30 ∷ 31 ∷ 30 ∷ 31 ∷ 31 ∷ 30 ∷ 31 ∷ []

-- of a leap year, whose February has 29 days
abbrev pub leap_year : List ℕ
leap_year = 30 ∷ 31 ∷ 31 ∷ 29 ∷ 31 ∷ 30 ∷ 31 ∷ 30 ∷ 31 ∷ 31 ∷ 30 ∷ 31 ∷ []

-- the days of a month; 0 past the twelve
abbrev pub month_length : Bool → ℕ → ℕ
month_length leap month = slice_index (if leap then leap_year else common_year) month

-- the last day of a month of which n days are given: a February ends with its 29th if n is 29, else
-- with its 28th
abbrev pub month_end : ℕ → ℕ → ℕ
month_end month n = month_length (n == 29) month

-- a month has n days, in a common year or in a leap year
abbrev pub is_month_length : ℕ → ℕ → Bool
is_month_length month n = n == month_length false month || n == month_length true month
