-- The days of a gas year as they are known.
-- Words:
-- a place, where a day's record stands or does not stand: 31 for each month, in the order of dates
-- a day is posted where its place has a record
use Rattle.std.specs.Prelude.{◌≡◌, ℕ, ◌+◌, ◌-◌, ◌*◌, ◌≤◌, Bool, if◌then◌else◌, ◌&&◌, List, length}
use Rattle.std.specs.Prelude.{take, drop, ℤ, pos, ◌-ℤ◌, Some, None, sum_by, Option, ◌==◌, nat_le}
use Rattle.std.specs.Prelude.{nat_lt, false}
use Rattle.std.specs.List.{flat_map, position}
use Rattle.std.specs.Option.{option_to_list}
use Rattle.gas.specs.declared.day.DayRecord.{DayRecord}
use Rattle.gas.specs.Calendar.{month_length}
use Rattle.gas.specs.Day.{reading_of, receipts_of}
use Rattle.gas.specs.declared.calendar.TheConstants.{LAST_MONTH}

-- what stands at each place of a year: the record of a day, or none
abbrev pub Places : Type 0
Places = List (Option DayRecord)

-- the records that stand in some places, in order
abbrev pub posted_days : Places → List DayRecord
posted_days places = flat_map option_to_list places

-- the first place of a month, which has 31
abbrev pub month_place : ℕ → ℕ
month_place month = 31 * month

-- the place of a day, which is counted from 1
abbrev pub place_of : ℕ → ℕ → ℕ
place_of month day = month_place month + (day - 1)

-- a place is that of a day of the year: of a day that one of the twelve months has
pub record IsDayPlace (leap : Bool) (place : ℕ) : Type 0 where
  pub month : ℕ
  pub day : ℕ
  pub of_year : month ≤ LAST_MONTH
  pub first : 1 ≤ day
  pub last : day ≤ month_length leap month
  pub there : place ≡ place_of month day

-- the places of a month's days
abbrev pub month_places : Bool → Places → ℕ → Places
month_places leap days month = take (month_length leap month) (drop (month_place month) days)

-- a month's posted days in order
abbrev pub month_days : Bool → Places → ℕ → List DayRecord
month_days leap days month = posted_days (month_places leap days month)

-- a month is complete if as many days are posted as it has
abbrev pub is_complete : Bool → Places → ℕ → Bool
is_complete leap days month = length (month_days leap days month) == month_length leap month

-- receipts less readings
abbrev pub net_therms : List DayRecord → ℤ
net_therms days = pos (sum_by receipts_of days) -ℤ pos (sum_by reading_of days)

-- of the day at a place, if one is posted there, more than 0 therms were unauthorized
abbrev pub is_unauthorized : (DayRecord → ℕ) → Option DayRecord → Bool
is_unauthorized unauthorized None = false
is_unauthorized unauthorized (Some day) = nat_lt 0 (unauthorized day)

-- the place of the gas year's first unauthorized day by date, if a posted day is one
abbrev pub place_of_first : (DayRecord → ℕ) → Places → Option ℕ
place_of_first unauthorized days = position (is_unauthorized unauthorized) days

-- the number, in a month, of the day at a place, if it is a day of that month
abbrev pub day_of_first : Bool → Option ℕ → ℕ → Option ℕ
day_of_first leap None month = None
day_of_first leap (Some place) month =
    let start : ℕ = month_place month in
    if nat_le start place && nat_lt place (start + month_length leap month)
    then Some (place - start + 1)
    else None
