-- Rows of numbers in bytes: what is written by some widths is read by them, and the other way
-- round.
use Rattle.std.proofs.Common.{◌≡◌, ℕ, zero, suc, ◌+◌, ◌*◌, ◌/◌, ◌%◌, ◌^◌, ◌<◌, ◌≤◌, List, [], ◌∷◌}
use Rattle.std.proofs.Common.{◌++◌, length, get_or, take, drop, sum, sym, refl, ap, ◌∙◌, ap₂}
use Rattle.std.proofs.Common.{append_assoc, add_assoc, add-suc, arith, drop-cons, drop-drop}
use Rattle.std.proofs.Common.{length-append}
use Rattle.std.proofs.Common.{get_or-append-add, take-add}
use Rattle.journal.specs.Numbers.{number_at, row_at, low_bytes, row_bytes, Fit}
use Rattle.std.proofs.lemmas.List.Sums.{sum_by-cons}

-- every offset of the list holds a byte
abbrev pub Bytes : List ℕ → Type 0
Bytes bs = (i : ℕ) → get_or bs i 0 < 256

length_low : (w n : ℕ) → length (low_bytes w n) ≡ w
length_low zero n = refl
length_low (suc w) n = ap suc (length_low w (n / 256))

-- what is written by some widths is as long as they are together, so that reading by them does not
-- find it cut short; no proof cites this, since the check finds it for each kind
pub length_bytes : (ws ns : List ℕ) → Fit ws ns → length (row_bytes ws ns) ≡ sum ws
length_bytes [] [] f = refl
length_bytes [] (n ∷ ns) f = absurd f
length_bytes (w ∷ ws) [] f = absurd f
length_bytes (w ∷ ws) (n ∷ ns) f =
    length-append (low_bytes w n) (row_bytes ws ns) ∙
    ap₂ ◌+◌ (length_low w n) (length_bytes ws ns f.1) ∙ sym (sum_by-cons (λ (n : ℕ). n) w ws)

number_behind :
    (xs ys : List ℕ) (i w : ℕ) → number_at (xs ++ ys) (length xs + i) w ≡ number_at ys i w
number_behind xs ys i zero = refl
number_behind xs ys i (suc w) =
    ap₂ (λ (b n : ℕ). b + 256 * n) (get_or-append-add xs ys i 0)
    (ap (λ (k : ℕ). number_at (xs ++ ys) k w) (sym (add-suc (length xs) i)) ∙ number_behind xs ys
    (suc i) w)

numbers_behind : (ws xs ys : List ℕ) (i : ℕ) → row_at ws (xs ++ ys) (length xs + i) ≡ row_at ws ys i
numbers_behind [] xs ys i = refl
numbers_behind (w ∷ ws) xs ys i =
    ap₂ ◌∷◌ (number_behind xs ys i w)
    (ap (row_at ws (xs ++ ys)) (add_assoc (length xs) i w) ∙ numbers_behind ws xs ys (i + w))

number_low : (w n : ℕ) (rest : List ℕ) → n < 256 ^ w → number_at (low_bytes w n ++ rest) 0 w ≡ n
number_low zero n rest h = omega arith
number_low (suc w) n rest h =
    let more = number_behind ((n % 256) ∷ []) (low_bytes w (n / 256) ++ rest) 0 w in
    let back = number_low w (n / 256) rest (omega arith) in
    omega (arith, more ∙ back)

-- reading by the widths gives back what was written by them, whatever stands behind it; no proof
-- cites this, since the check finds it for each kind, and it says it of every row
pub numbers_bytes : (ws ns rest : List ℕ) → Fit ws ns → row_at ws (row_bytes ws ns ++ rest) 0 ≡ ns
numbers_bytes [] [] rest f = refl
numbers_bytes [] (n ∷ ns) rest f = absurd f
numbers_bytes (w ∷ ws) [] rest f = absurd f
numbers_bytes (w ∷ ws) (n ∷ ns) rest f =
    let tail = row_bytes ws ns ++ rest in
    let offset : 0 + w ≡ length (low_bytes w n) + 0 = omega (arith, length_low w n) in
    ap (λ (l : List ℕ). row_at (w ∷ ws) l 0) (append_assoc (low_bytes w n) (row_bytes ws ns) rest) ∙
    ap₂ ◌∷◌ (number_low w n tail f.0)
    (ap (row_at ws (low_bytes w n ++ tail)) offset ∙ numbers_behind ws (low_bytes w n) tail 0 ∙
    numbers_bytes ws ns rest f.1)

low_number :
    (w i : ℕ) (bs : List ℕ) → Bytes bs → i + w ≤ length bs →
    low_bytes w (number_at bs i w) ≡ take w (drop i bs)
low_number zero i bs b h = refl
low_number (suc w) i bs b h =
    let n = number_at bs (suc i) w in
    let first : (get_or bs i 0 + 256 * n) % 256 ≡ get_or bs i 0 = omega (arith, b i) in
    let rest : (get_or bs i 0 + 256 * n) / 256 ≡ n = omega (arith, b i) in
    ap₂ ◌∷◌ first (ap (low_bytes w) rest ∙ low_number w (suc i) bs b (omega arith)) ∙
    ap (take (suc w)) (sym (drop-cons bs i 0 (omega arith)))

-- writing by the widths what was read by them gives the bytes that were read
pub bytes_numbers :
    (ws : List ℕ) (i : ℕ) (bs : List ℕ) → Bytes bs → i + sum ws ≤ length bs →
    row_bytes ws (row_at ws bs i) ≡ take (sum ws) (drop i bs)
bytes_numbers [] i bs b h = refl
bytes_numbers (w ∷ ws) i bs b h =
    let more : sum (w ∷ ws) ≡ w + sum ws = sum_by-cons (λ (n : ℕ). n) w ws in
    ap₂ ◌++◌ (low_number w i bs b (omega (arith, more)))
    (bytes_numbers ws (i + w) bs b (omega (arith, more))) ∙
    ap (λ (l : List ℕ). take w (drop i bs) ++ take (sum ws) l) (sym (drop-drop w i bs)) ∙
    sym (take-add w (sum ws) (drop i bs)) ∙ ap (λ (n : ℕ). take n (drop i bs)) (sym more)
