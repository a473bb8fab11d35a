-- The peak day of a month.
use Rattle.std.specs.Prelude.{◌≡◌, ℕ, ◌-◌, ◌≤◌, true, [], Some, None, Option, nat_le}
use Rattle.std.specs.Prelude.{slice_index_or}
use Rattle.std.specs.List.{list_all}
use Rattle.gas.specs.declared.day.DayRecord.{DayRecord}
use Rattle.gas.specs.Day.{reading_of}
use Rattle.ledger.specs.Days.{Places, posted_days}

-- a day, counted from 1, is posted among some places, and no posted day there has a greater reading
pub record HasPeak (places : Places) (day : ℕ) : Type 0 where
  pub peak : DayRecord
  pub counted : 1 ≤ day
  pub posted : slice_index_or places (day - 1) None ≡ Some peak
  pub greatest : list_all (λ d. nat_le (reading_of d) (reading_of peak)) (posted_days places) ≡ true

-- the peak day of a month's places, or none where no day is posted; where several have the greatest
-- reading, it is not laid down which
abbrev pub IsPeak : Places → Option ℕ → Type 0
IsPeak places None = posted_days places ≡ []
IsPeak places (Some day) = HasPeak places day
