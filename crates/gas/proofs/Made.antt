-- A lawful day is the one that its numbers make.
use Rattle.std.proofs.Common.{◌≡◌, ℕ, Bool, true, false, eqb, Ok, Err, Result, refl, sym, ap, ◌∙◌}
use Rattle.std.proofs.Common.{subst, arith}
use Rattle.std.specs.Result.{result_and}
use Rattle.std.proofs.Math.Bridge.{le_prop}
use Rattle.gas.specs.declared.day.DayKind.{DayKind}
use Rattle.gas.specs.declared.day.DayKind.TheVariants.{Normal, Sul, Sol, Critical}
use Rattle.gas.specs.declared.day.DayNumbers.{DayNumbers}
use Rattle.gas.specs.declared.day.DayRecord.{DayRecord}
use Rattle.gas.specs.declared.faults.InputFault.{InputFault}
use Rattle.gas.specs.declared.faults.InputFault.TheVariants as input
use Rattle.gas.specs.Day.{kind_number, numbers_of}
use Rattle.gas.specs.Inputs.{checked_day, has_lawful_quantities, mark_number, answer_by, value_if}
use Rattle.gas.proofs.Lawful.{quantities_taken}
use Rattle.gas.specs.Made.{day_of, tested_day, kind_of, made_day}

same_kind : (k : DayKind) → kind_of (kind_number k) ≡ k
same_kind Normal = refl
same_kind Sul = refl
same_kind Sol = refl
same_kind Critical = refl

pub same_mark : (b : Bool) → eqb (mark_number b) 1 ≡ b
same_mark true = refl
same_mark false = refl

-- there is one proof at most of each limit
same_made :
    (d : DayRecord) (ok : has_lawful_quantities (numbers_of d) ≡ true) →
    made_day (numbers_of d) ok ≡ d
same_made d ok =
    let made = made_day (numbers_of d) ok in
    λ i. record {
      kind = same_kind d.kind i;
      curtailed = same_mark d.curtailed i;
      nomination = d.nomination;
      receipts = d.receipts;
      reading = d.reading;
      after_notice = d.after_notice;
      supply_cost = record {
        price = d.supply_cost.price;
        within = le_prop made.supply_cost.within d.supply_cost.within i;
      };
      variance_rate = record {
        price = d.variance_rate.price;
        within = le_prop made.variance_rate.within d.variance_rate.within i;
      };
      nominated = le_prop made.nominated d.nominated i;
      received = le_prop made.received d.received i;
      metered = le_prop made.metered d.metered i;
      part = le_prop made.part d.part i;
    }

tested :
    (n : DayNumbers) (r : Result DayRecord InputFault) (b : Bool) (e : has_lawful_quantities n ≡ b)
    →
    answer_by numbers_of r ≡ value_if b input.Quantity n → r ≡ tested_day n b e
tested n (Ok d) true e h = let same : numbers_of d ≡ n = cc in subst
    (λ (m : DayNumbers). (ok : has_lawful_quantities m ≡ true) → Ok d ≡ tested_day m true ok) same
    (λ ok. ap Ok (sym (same_made d ok))) e
tested n (Err f) true e h = absurd (let z : ◌≡◌ {A = ℕ} 0 1 = cc in omega arith)
tested n (Ok d) false e h = absurd (let z : ◌≡◌ {A = ℕ} 0 1 = cc in omega arith)
tested n (Err f) false e h = cc

-- what was refused was not made
answered :
    (taken : Result DayNumbers InputFault) (r made : Result DayRecord InputFault) →
    answer_by numbers_of r ≡ taken → ((n : DayNumbers) → taken ≡ Ok n → r ≡ made) →
    r ≡ result_and taken made
answered (Ok n) r made h passes = passes n refl
answered (Err f) (Ok d) made h passes = absurd (let z : ◌≡◌ {A = ℕ} 0 1 = cc in omega arith)
answered (Err f) (Err e) made h passes = cc

pub day_of_made :
    (n : DayNumbers) (r : Result DayRecord InputFault) → answer_by numbers_of r ≡ checked_day n →
    r ≡ day_of n
day_of_made n r h =
    answered (checked_day n) r _ h (λ m e. tested n r (has_lawful_quantities n) refl
    (h ∙ e ∙ quantities_taken n m (sym e)))

pub made_of : (n : DayNumbers) (d : DayRecord) → Ok (numbers_of d) ≡ checked_day n → Ok d ≡ day_of n
made_of n d h = day_of_made n (Ok d) h
