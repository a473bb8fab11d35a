-- The year that a book's tables know.
use Rattle.ledger.specs.Year.{Standing, Year}
use Rattle.book.specs.declared.year.MeterYear.{MeterYear}

-- the year as known, by the standing of an account and its tables
abbrev pub year_by : Standing → MeterYear → Year
year_by standing y =
    record { standing = standing; leap = y.leap; days = y.days; closings = y.closings }
