-- What it means that totals or a day are lawful.
use Rattle.std.proofs.Common.{◌≡◌, ℕ, ◌≤◌, Bool, true, false, leb, List, [], ◌∷◌, Ok, Result, refl}
use Rattle.std.proofs.Common.{arith}
use Rattle.std.proofs.lemmas.Bool.{and_parts, leb-true}
use Rattle.gas.specs.declared.day.DayNumbers.{DayNumbers}
use Rattle.gas.specs.declared.faults.InputFault.{InputFault}
use Rattle.gas.specs.declared.faults.InputFault.TheVariants.{DayKind, Mark, Quantity}
use Rattle.gas.specs.declared.month.TotalsNumbers.{TotalsNumbers}
use Rattle.gas.specs.Inputs.{checked_day, checked_totals, first_failure, has_lawful_quantities}
use Rattle.gas.specs.Inputs.{value_if, answer_unless}

-- what was taken has passed its test
pub taken : {A F : Type 0} (b : Bool) (e : F) (a : A) → value_if b e a ≡ Ok a → b ≡ true
taken true e a h = refl
taken false e a h = absurd (let z : ◌≡◌ {A = ℕ} 0 1 = cc in omega arith)

pub record Lawful (t : TotalsNumbers) : Type 0 where
  pub received : t.receipts ≤ 6200000
  pub metered : t.readings ≤ 6200000
  pub indexed : t.closing.index ≤ 2000000
  pub interrupted : t.closing.interruptible ≤ 2000000
  pub held : t.closing.firm ≤ 2000000

pub lawful : (t : TotalsNumbers) → checked_totals t ≡ Ok t → Lawful t
lawful t h =
    let one = and_parts (leb t.receipts 6200000) _ (taken _ _ _ h) in
    let two = and_parts (leb t.readings 6200000) _ one.1 in
    let three = and_parts (leb t.closing.index 2000000) _ two.1 in
    let four = and_parts (leb t.closing.interruptible 2000000) _ three.1 in
    record {
      received = leb-true _ _ one.0;
      metered = leb-true _ _ two.0;
      indexed = leb-true _ _ three.0;
      interrupted = leb-true _ _ four.0;
      held = leb-true _ _ four.1;
    }

-- what passed its tests passed the first of them
passed :
    {A F : Type 0} (b : Bool) (e : F) (ts : List (Bool × F)) (r : Result A F) (a : A) →
    Ok a ≡ answer_unless (first_failure ((b, e) ∷ ts)) r → Ok a ≡ answer_unless (first_failure ts) r
passed true e ts r a h = h
passed false e ts r a h = absurd (let z : ◌≡◌ {A = ℕ} 0 1 = cc in omega arith)

-- one test alone
alone :
    {A F : Type 0} (b : Bool) (e : F) (n a : A) →
    Ok a ≡ answer_unless (first_failure ((b, e) ∷ [])) (Ok n) → Ok a ≡ value_if b e n
alone true e n a h = h
alone false e n a h = h

-- a day that was taken passed the test of its quantities
pub quantities_taken :
    (n m : DayNumbers) → Ok m ≡ checked_day n → Ok m ≡ value_if (has_lawful_quantities n) Quantity n
quantities_taken n m h =
    let quantities : List (Bool × InputFault) = (has_lawful_quantities n, Quantity) ∷ [] in
    let marked = passed (leb n.kind 3) DayKind ((leb n.curtailed 1, Mark) ∷ quantities)
    (Ok n) m h in
    alone (has_lawful_quantities n) Quantity n m
    (passed (leb n.curtailed 1) Mark quantities (Ok n) m marked)

-- what a test took is what it was given
same : {A F : Type 0} (b : Bool) (e : F) (n a : A) → Ok a ≡ value_if b e n → a ≡ n
same true e n a h = cc
same false e n a h = absurd (let z : ◌≡◌ {A = ℕ} 0 1 = cc in omega arith)

-- a day that was made has the numbers of which it was made
pub day_made_of : (n m : DayNumbers) → Ok m ≡ checked_day n → m ≡ n
day_made_of n m h = same (has_lawful_quantities n) Quantity n m (quantities_taken n m h)
