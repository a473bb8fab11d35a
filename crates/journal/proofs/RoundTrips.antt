-- Records and their bytes: what was read has its bytes, and a reader that gives a record moves on.
use Rattle.std.proofs.Common.{◌≡◌, ℕ, zero, suc, ◌-◌, ◌<◌, Bool, true, false, cond, leb, List, []}
use Rattle.std.proofs.Common.{◌∷◌, length, get_or, take, drop, sum, Some, Ok, Err, refl, ap, ◌∙◌}
use Rattle.std.proofs.Common.{arith, leb-true, rules}
use mathlib.Core.Path.{subst⁻¹}
use Rattle.std.proofs.lemmas.Bool.{and_parts}
use Rattle.std.proofs.lemmas.List.{take_rest}
use Rattle.journal.specs.declared.faults.ReadFault.TheVariants.{UnknownKind, CutShort}
use Rattle.journal.specs.declared.kinds.Located.{Located}
use Rattle.journal.specs.declared.kinds.Record.{Record}
use Rattle.journal.specs.Format.{kind_byte, widths, fields_of, record_bytes, record_length}
use Rattle.journal.specs.Numbers.{row_at, row_bytes}
use Rattle.journal.specs.Reading.{is_kind, record_of_kind, read_record, offset_behind, answer_at}
use Rattle.journal.specs.Reading.{offset_after}
use Rattle.journal.proofs.Widths.{Bytes, bytes_numbers}

-- a record r has a kind, the numbers that a body begins with, and the length of such a body
record IsMade (k : ℕ) (body : List ℕ) (r : Record) : Type 0 where
  kind : kind_byte r ≡ k
  fields : fields_of r ≡ row_at (widths k) body 0
  size : length (row_bytes (widths (kind_byte r)) (fields_of r)) ≡ sum (widths k)

-- so has the record that reading makes of a kind's body
made :
    (k : ℕ) (body : List ℕ) → is_kind k ≡ true →
    IsMade k body (record_of_kind k (row_at (widths k) body 0))
made zero body h = cc
made (suc zero) body h = record { kind = refl; fields = refl; size = refl }
made (suc (suc zero)) body h = record { kind = refl; fields = refl; size = refl }
made (suc (suc (suc zero))) body h = record { kind = refl; fields = refl; size = refl }
made (suc (suc (suc (suc zero)))) body h = record { kind = refl; fields = refl; size = refl }
made (suc (suc (suc (suc (suc zero))))) body h = record { kind = refl; fields = refl; size = refl }
made (suc (suc (suc (suc (suc (suc zero)))))) body h = record
    { kind = refl; fields = refl; size = refl }
made (suc (suc (suc (suc (suc (suc (suc k))))))) body h =
    absurd (search (rules, and_parts))

read_by :
    (known long : Bool) (m r : Record) →
    Ok r ≡ cond known (cond long (Ok m) (Err CutShort)) (Err UnknownKind) →
    (known ≡ true) × (long ≡ true) × (r ≡ m)
read_by true true m r e = (refl, refl, cc)
read_by true false m r e = cc
read_by false true m r e = cc
read_by false false m r e = cc

-- the bytes begin with those of the record that is read from their kind byte and what stands behind
-- it
pub begins :
    (bs : List ℕ) (r : Record) → Bytes bs → 0 < length bs →
    Ok r ≡ read_record (get_or bs 0 0) (take (length bs - 1) (drop 1 bs)) →
    record_bytes r ≡ take (record_length r) bs
begins [] r b h e = absurd (omega arith)
begins (k ∷ rest) r b h e =
    let p = read_by (is_kind k) (leb (sum (widths k)) (length rest)) _ r
    (e ∙ ap (read_record k) (take_rest (k ∷ rest) 1)) in
    let m = subst⁻¹ (IsMade k rest) p.2 (made k rest p.0) in
    let body = bytes_numbers (widths k) 0 rest (λ i. b (suc i))
    (omega (arith, leb-true (sum (widths k)) (length rest) p.1)) in
    rw (m.size, m.kind, m.fields) (ap (λ (l : List ℕ). k ∷ l) body)

-- where a record is read, the reader moves on
pub moves_on :
    (bs : List ℕ) (i : ℕ) (p : Located) → answer_at bs i ≡ Ok (Some p) → i < offset_after bs i
moves_on bs i p e = let on = ap (offset_behind i) e in omega (arith, on)
