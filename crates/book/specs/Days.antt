-- What the methods of the day table leave.
use Rattle.std.specs.Prelude.{ℕ, Some, None, Option, slice_set}
use Rattle.gas.specs.declared.day.DayRecord.{DayRecord}
use Rattle.ledger.specs.Days.{Places}

-- a record in the place of the one that stood there; where none stood, the table stays
abbrev pub exchanged_days : Places → ℕ → DayRecord → Option DayRecord → Places
exchanged_days places place day (Some before) = slice_set places place (Some day)
exchanged_days places place day None = places
