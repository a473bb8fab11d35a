-- The days of the months that are priced.
use Rattle.std.specs.Prelude.{ℕ, ◌+◌, ◌-◌, ◌*◌, ◌%◌, if◌then◌else◌, ◌==◌}
use Rattle.gas.specs.declared.day.DayNumbers.{DayNumbers}

-- the k-th day of a month of every kind of day: each fifth is curtailed
abbrev pub mixed_day : ℕ → ℕ → DayNumbers
mixed_day base k = record {
  kind = k % 4;
  curtailed = if k % 5 == 0 then 1 else 0;
  nomination = 903 + 11 * k;
  receipts = base + 7 * k;
  reading = 940 + 13 * k - 90 * (k % 3);
  after_notice = if k % 5 == 0 then 40 + 5 * k else 0;
  supply_cost = 20000 + 100 * k;
  variance_rate = 30000 + 50 * k;
}

-- a full day: R and C are 200,000, V is 2,000,000, N, H and I are 0; not curtailed
abbrev pub full_day : ℕ → DayNumbers
full_day kind = record {
  kind = kind;
  curtailed = 0;
  nomination = 0;
  receipts = 200000;
  reading = 200000;
  after_notice = 0;
  supply_cost = 0;
  variance_rate = 2000000;
}

-- an idle day: R is 200,000 and all else 0; normal, not curtailed
abbrev pub idle_day : DayNumbers
idle_day = record {
  kind = 0;
  curtailed = 0;
  nomination = 0;
  receipts = 200000;
  reading = 0;
  after_notice = 0;
  supply_cost = 0;
  variance_rate = 0;
}
