-- The days of a month, made one after another.
use Rattle.std.proofs.Common.{◌≡◌, ℕ, zero, suc, ◌+◌, ◌-◌, ◌≤◌, List, [], ◌∷◌, ◌++◌, length, map}
use Rattle.std.proofs.Common.{Ok, refl, sym, ap, ◌∙◌, add-one, arith}
use Rattle.std.proofs.lemmas.List.{length-append, length-map, map_push}
use Rattle.gas.specs.declared.day.DayNumbers.{DayNumbers}
use Rattle.gas.specs.declared.day.DayRecord.{DayRecord}
use Rattle.gas.specs.Day.{numbers_of}
use Rattle.gas.specs.Inputs.{checked_day}
use Rattle.gas.proofs.Lawful.{day_made_of}
use Rattle.prices.specs.declared.days.Pattern.{Pattern}
use Rattle.prices.specs.Patterns.{day_of, days_to}

one_more :
    (pattern : Pattern) (i : ℕ) (days more : List DayRecord) (d : DayRecord) (n : DayNumbers) →
    map numbers_of days ≡ days_to pattern i → n ≡ day_of pattern (i + 1) →
    Ok (numbers_of d) ≡ checked_day n → more ≡ days ++ (d ∷ []) →
    map numbers_of more ≡ days_to pattern (i + 1)
one_more pattern i days more d n sofar is made m =
    ap (map numbers_of) m ∙ map_push numbers_of days d ∙ ap
    (λ (ns : List DayNumbers). ns ++ (numbers_of d ∷ [])) sofar ∙
    ap (λ (x : DayNumbers). days_to pattern i ++ (x ∷ []))
    (day_made_of n (numbers_of d) made ∙ is ∙ ap (day_of pattern) (add-one i)) ∙
    ap (days_to pattern) (sym (add-one i))

-- the day numbered k, counted from 1, behind those before it
pub kth_day :
    (pattern : Pattern) (k : ℕ) (days more : List DayRecord) (d : DayRecord) (n : DayNumbers) →
    1 ≤ k → map numbers_of days ≡ days_to pattern (k - 1) → n ≡ day_of pattern k →
    Ok (numbers_of d) ≡ checked_day n → more ≡ days ++ (d ∷ []) →
    map numbers_of more ≡ days_to pattern (k + 1 - 1)
kth_day pattern k days more d n from sofar is made m =
    let before : k - 1 + 1 ≡ k = omega arith in
    let here : k - 1 + 1 ≡ k + 1 - 1 = omega arith in
    one_more pattern (k - 1) days more d n sofar (is ∙ ap (day_of pattern) (sym before)) made m ∙ ap
    (days_to pattern) here

counted : (pattern : Pattern) (n : ℕ) → length (days_to pattern n) ≡ n
counted pattern zero = refl
counted pattern (suc n) = length-append (days_to pattern n) _ ∙ rw (counted pattern n) (add-one n)

-- a pattern's first n days are n
pub as_many :
    (pattern : Pattern) (n : ℕ) (days : List DayRecord) → map numbers_of days ≡ days_to pattern n →
    length days ≡ n
as_many pattern n days are = sym (length-map days numbers_of) ∙ ap length are ∙ counted pattern n
