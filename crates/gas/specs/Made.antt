-- The lawful day that numbers make.
use Rattle.std.specs.Prelude.{◌≡◌, ℕ, Bool, true, false, [], ◌∷◌, Ok, Err, Result, ◌==◌, nat_le}
use Rattle.std.specs.Prelude.{slice_index_or, refl}
use Rattle.std.specs.Result.{result_and}
use Rattle.std.proofs.lemmas.Bool.{and_parts, leb-true}
use Rattle.gas.specs.declared.day.DayKind.{DayKind}
use Rattle.gas.specs.declared.day.DayKind.TheVariants as kind
use Rattle.gas.specs.declared.day.DayNumbers.{DayNumbers}
use Rattle.gas.specs.declared.day.DayRecord.{DayRecord}
use Rattle.gas.specs.declared.faults.InputFault.{InputFault}
use Rattle.gas.specs.declared.faults.InputFault.TheVariants as input
use Rattle.gas.specs.Inputs.{checked_day, has_lawful_quantities}
use Rattle.gas.specs.declared.day.TheConstants.{MOST_A_DAY}
use Rattle.gas.specs.declared.units.TheConstants.{MOST_PER_THERM}

-- the kind of a number from 0 to 3
abbrev pub kind_of : ℕ → DayKind
kind_of k = slice_index_or (kind.Normal ∷ kind.Sul ∷ kind.Sol ∷ kind.Critical ∷ []) k kind.Normal

-- the day of numbers whose quantities are lawful
abbrev pub made_day : (n : DayNumbers) → has_lawful_quantities n ≡ true → DayRecord
made_day n ok =
    let one = and_parts (nat_le n.nomination MOST_A_DAY) _ ok in
    let two = and_parts (nat_le n.receipts MOST_A_DAY) _ one.1 in
    let three = and_parts (nat_le n.reading MOST_A_DAY) _ two.1 in
    let four = and_parts (nat_le n.after_notice n.reading) _ three.1 in
    let five = and_parts (nat_le n.supply_cost MOST_PER_THERM) _ four.1 in
    record {
      kind = kind_of n.kind;
      curtailed = (n.curtailed == 1);
      nomination = record { count = n.nomination };
      receipts = record { count = n.receipts };
      reading = record { count = n.reading };
      after_notice = record { count = n.after_notice };
      supply_cost = record { price = n.supply_cost; within = leb-true _ _ five.0 };
      variance_rate = record { price = n.variance_rate; within = leb-true _ _ five.1 };
      nominated = leb-true _ _ one.0;
      received = leb-true _ _ two.0;
      metered = leb-true _ _ three.0;
      part = leb-true _ _ four.0;
    }

-- that day, or refusal 7, by whether they are
abbrev pub tested_day :
    (n : DayNumbers) (ok : Bool) → has_lawful_quantities n ≡ ok → Result DayRecord InputFault
tested_day n true e = Ok (made_day n e)
tested_day n false e = Err input.Quantity

-- the day that numbers make, or their first refusal
abbrev pub day_of : DayNumbers → Result DayRecord InputFault
day_of n = result_and (checked_day n) (tested_day n (has_lawful_quantities n) refl)
