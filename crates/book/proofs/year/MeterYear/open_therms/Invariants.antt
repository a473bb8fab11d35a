use Rattle.std.proofs.Common.{◌≡◌, ◌-◌, ◌*◌, ◌≤◌, ◌+ℤ◌, unsigned_abs}
use Rattle.std.specs.List.{range_with_len}
use Rattle.ledger.specs.Prices.{open_therms, therms_in}
use Rattle.ledger.specs.Year.{not_opened}
use Rattle.book.specs.Years.{year_by}
use Rattle.book.proofs.year.MeterYear.open_therms.Given as goal
use Rattle.gas.specs.declared.month.TheConstants.{MOST_A_MONTH}

abbrev pub invariant-loop-number : goal.invariant-loop-number
invariant-loop-number l = record {
  is :
      l.sum.count +ℤ therms_in (year_by not_opened l.self)
      (range_with_len l.number (12 - l.number)) ≡ open_therms (year_by not_opened l.self);
  within : unsigned_abs l.sum.count ≤ MOST_A_MONTH * l.number;
}
