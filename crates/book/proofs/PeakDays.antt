-- The peak day among the first places of a month.
use Rattle.std.proofs.Common.{◌≡◌, ℕ, zero, suc, ◌+◌, ◌-◌, ◌≤◌, true, [], ◌∷◌, length, Some, None}
use Rattle.std.proofs.Common.{Option, get_or, take, max, leb, refl, ap, subst, add-one, arith}
use Rattle.std.specs.List.{flat_map, list_all, slice_get}
use Rattle.std.specs.Option.{option_to_list}
use Rattle.std.proofs.lemmas.Bool.{le-leb}
use Rattle.std.proofs.lemmas.List.{take_all}
use Rattle.std.proofs.lemmas.Option.{get_or_from_slice_get, gets}
use Rattle.gas.specs.declared.day.DayRecord.{DayRecord}
use Rattle.gas.specs.declared.units.Therms.{Therms}
use Rattle.gas.specs.Day.{reading_of}
use Rattle.ledger.specs.Days.{Places}
use Rattle.ledger.specs.Peaks.{HasPeak}

-- the number after the reading at a place, or 0 where no day is posted
abbrev pub after : Option DayRecord → ℕ
after None = 0
after (Some day) = reading_of day + 1

-- the same at a place by its number, or 0 where there is no place
abbrev pub after_at : Option (Option DayRecord) → ℕ
after_at None = 0
after_at (Some place) = after place

-- the number after the greatest reading, or 0 where no day is posted
abbrev pub after_all : Places → ℕ
after_all [] = 0
after_all (place ∷ places) = max (after place) (after_all places)

-- one place more
after_all_suc :
    (places : Places) (i : ℕ) →
    after_all (take (suc i) places) ≡ max (after_all (take i places))
    (after_at (slice_get places i))
after_all_suc [] zero = refl
after_all_suc [] (suc i) = refl
after_all_suc (place ∷ places) zero = omega arith
after_all_suc (place ∷ places) (suc i) = let rest = after_all_suc places i in omega arith

pub after_all_more :
    (places : Places) (i : ℕ) →
    after_all (take (i + 1) places) ≡ max (after_all (take i places))
    (after_at (slice_get places i))
after_all_more places i = rw add-one (after_all_suc places i)

-- no reading is above one that no place exceeds
pub below_after :
    (r : ℕ) (places : Places) → after_all places ≤ r + 1 →
    list_all (λ d. leb (reading_of d) r) (flat_map option_to_list places) ≡ true
below_after r [] below = refl
below_after r (None ∷ places) below = below_after r places (omega arith)
below_after r (Some day ∷ places) below =
    let here = le-leb (reading_of day) r (omega arith) in
    rw (here, below_after r places (omega arith)) refl

-- where the number is 0, no day is posted
none_posted : (places : Places) → after_all places ≡ 0 → flat_map option_to_list places ≡ []
none_posted [] none = refl
none_posted (None ∷ places) none = none_posted places (omega arith)
none_posted (Some day ∷ places) none = absurd (omega arith)

-- the reading at a place by its number, if a day is posted there
abbrev pub reading_at : Option (Option DayRecord) → Option Therms
reading_at None = None
reading_at (Some None) = None
reading_at (Some (Some day)) = Some day.reading

-- a posted day and its reading, and no reading among the first places is above it
pub record Leads (places : Places) (i : ℕ) (best : ℕ × Therms) : Type 0 where
  pub counted : 1 ≤ best.0
  pub posted : reading_at (slice_get places (best.0 - 1)) ≡ Some best.1
  pub greatest : after_all (take i places) ≤ best.1.count + 1

-- the leading day among the first places, or none where none is posted
abbrev pub LeadsOf : Places → ℕ → Option (ℕ × Therms) → Type 0
LeadsOf places i None = after_all (take i places) ≡ 0
LeadsOf places i (Some best) = Leads places i best

-- what a loop over the places uses
pub ruleset one_place_more = (gets, after_all_more)

-- where a reading was found at a place, a day with it is posted there
posted_there :
    (places : Places) (k : ℕ) (r : Therms) (seen : Option (Option DayRecord)) →
    slice_get places k ≡ seen → reading_at seen ≡ Some r →
    (day : DayRecord) × ((get_or places k None ≡ Some day) × (day.reading ≡ r))
posted_there places k r None is reads = absurd cc
posted_there places k r (Some None) is reads = absurd cc
posted_there places k r (Some (Some day)) is reads =
    (day, (get_or_from_slice_get places k (Some day) None is, cc))

-- where none leads among all places, no day is posted
pub none_at_end :
    (places : Places) (i : ℕ) (best : Option (ℕ × Therms)) → best ≡ None → length places ≤ i →
    LeadsOf places i best → flat_map option_to_list places ≡ []
none_at_end places i best none end leads =
    let all = subst (λ (o : Option (ℕ × Therms)). LeadsOf places i o) none leads in
    none_posted places (rw (take_all i places end) at all)

-- the leading day among all places is the peak
pub peak_at_end :
    (places : Places) (i : ℕ) (best : Option (ℕ × Therms)) (b : ℕ × Therms) → best ≡ Some b →
    length places ≤ i → LeadsOf places i best → HasPeak places b.0
peak_at_end places i best b is end leads =
    let leading : Leads places i b = subst (λ (o : Option (ℕ × Therms)). LeadsOf places i o) is
    leads in
    let there = posted_there places (b.0 - 1) b.1 _ refl leading.posted in
    let most = rw (take_all i places end) at leading.greatest in
    let reading : reading_of there.0 ≡ b.1.count = ap (λ (t : Therms). t.count) there.1.1 in
    record {
      peak = there.0;
      counted = leading.counted;
      posted = there.1.0;
      greatest = rw reading (below_after b.1.count places most);
    }
