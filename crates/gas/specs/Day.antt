-- The words of a lawful day.
use Rattle.std.specs.Prelude.{ℕ}
use Rattle.gas.specs.declared.day.DayKind.{DayKind}
use Rattle.gas.specs.declared.day.DayKind.TheVariants.{Normal, Sul, Sol, Critical}
use Rattle.gas.specs.declared.day.DayNumbers.{DayNumbers}
use Rattle.gas.specs.declared.day.DayRecord.{DayRecord}
use Rattle.gas.specs.Inputs.{mark_number}

-- the confirmed nomination, in therms
abbrev pub nomination_of : DayRecord → ℕ
nomination_of d = d.nomination.count

-- the receipts at the town border, in therms
abbrev pub receipts_of : DayRecord → ℕ
receipts_of d = d.receipts.count

-- what the meter read, in therms
abbrev pub reading_of : DayRecord → ℕ
reading_of d = d.reading.count

-- the part of it that was metered after a curtailment notice ran out
abbrev pub after_notice_of : DayRecord → ℕ
after_notice_of d = d.after_notice.count

-- the day's highest incremental supply cost, in millicents per therm
abbrev pub supply_cost_of : DayRecord → ℕ
supply_cost_of d = d.supply_cost.price

-- its delivery variance rate, in millicents per therm
abbrev pub variance_rate_of : DayRecord → ℕ
variance_rate_of d = d.variance_rate.price

-- a day kind is known by 0 to 3
abbrev pub kind_number : DayKind → ℕ
kind_number Normal = 0
kind_number Sul = 1
kind_number Sol = 2
kind_number Critical = 3

-- the numbers of a normal day on which nothing flowed, at no price
abbrev pub idle_numbers : DayNumbers
idle_numbers = record {
  kind = 0;
  curtailed = 0;
  nomination = 0;
  receipts = 0;
  reading = 0;
  after_notice = 0;
  supply_cost = 0;
  variance_rate = 0;
}

-- the eight numbers of which a lawful day was made
abbrev pub numbers_of : DayRecord → DayNumbers
numbers_of d = record {
  kind = kind_number d.kind;
  curtailed = mark_number d.curtailed;
  nomination = nomination_of d;
  receipts = receipts_of d;
  reading = reading_of d;
  after_notice = after_notice_of d;
  supply_cost = supply_cost_of d;
  variance_rate = variance_rate_of d;
}
