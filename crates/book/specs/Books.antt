-- What a book holds, and what is true of every book.
use Rattle.std.specs.Prelude.{ℕ, ◌≤◌, Bool, List, [], length}
use Rattle.std.specs.List.{push}
use Rattle.gas.specs.declared.month.ClosingNumbers.{ClosingNumbers}
use Rattle.ledger.specs.declared.lines.Line.{Line}
use Rattle.ledger.specs.declared.lines.TheConstants.{MOST_LINES}
use Rattle.ledger.specs.Calls.{State}
use Rattle.ledger.specs.Days.{Places}
use Rattle.ledger.specs.Year.{IsComplete, Standing, unknown_year}
use Rattle.book.specs.declared.table.LineTable.{LineTable}
use Rattle.book.specs.declared.year.MeterYear.{MeterYear}
use Rattle.book.specs.Tables.{IsKept, IsNear}
use Rattle.book.specs.Years.{year_by}

-- what the meter told of the year with what closed its months, the lines, and the last line charged
-- for
pub record Contents : Type 0 where
  pub year : MeterYear
  pub lines : List Line
  pub charged : ℕ

-- the account of a standing that has this book
abbrev pub state_of : Standing → Contents → State
state_of standing b =
    record { year = year_by standing b.year; lines = b.lines; charged = b.charged }

-- a book with other days
abbrev pub with_days : Contents → Places → Contents
with_days b days = record b { year = record b.year { days = days } }

-- a book with other closings
abbrev pub with_closings : Contents → List ClosingNumbers → Contents
with_closings b closings = record b { year = record b.year { closings = closings } }

-- a book with one line more
abbrev pub with_line : Contents → Line → Contents
with_line b line = record b { lines = push b.lines line }

-- a book with the line of a charge for the lines up to a number
abbrev pub with_charge : Contents → Line → ℕ → Contents
with_charge b line k = record (with_line b line) { charged = k }

-- a book whose year begins
abbrev pub begun_book : Contents → Bool → Contents
begun_book b leap =
    record b { year = record { leap = leap; days = unknown_year.days; closings = [] } }

-- few: the closed months, which run from November on, are at most twelve
-- complete: all their days are posted; each is lawful, as every day record is
-- kept: the lines are fit, and their sums stand in the table
-- room: there are at most as many lines as there is room for
-- near: under each heading that is trued up the lines add up to no more than a target can be, so
-- that no sum runs over
pub record IsSound (y : MeterYear) (t : LineTable) : Type 0 where
  pub few : length y.closings ≤ 12
  pub complete : IsComplete y.leap y.days y.closings
  pub kept : IsKept t
  pub room : length t.lines.items ≤ MOST_LINES
  pub near : IsNear t.lines.items
