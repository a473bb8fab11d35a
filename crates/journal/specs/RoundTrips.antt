-- The two round trips between records and bytes.
use Rattle.std.specs.Prelude.{◌≡◌, ℕ, ◌+◌, List, ◌++◌, length, take, drop, Some, Ok, IfOk, IfSome}
use Rattle.std.specs.Prelude.{Option, Result}
use Rattle.journal.specs.declared.faults.ReadFault.{ReadFault}
use Rattle.journal.specs.declared.kinds.Located.{Located}
use Rattle.journal.specs.declared.kinds.Record.{Record}
use Rattle.journal.specs.Format.{record_bytes, record_length}
use Rattle.journal.specs.Reading.{answer_at, offset_after}

-- a record's bytes stand at an offset of a list of bytes
abbrev pub StandsAt : List ℕ → ℕ → Record → Type 0
StandsAt bs i r = record_bytes r ≡ take (record_length r) (drop i bs)

-- the bytes begin with those of the record that was read from them, if one was
abbrev pub BeginsWith : List ℕ → Result (Option Record) ReadFault → Type 0
BeginsWith bs read = IfOk read (λ o. IfSome o (λ r. StandsAt bs 0 r))

-- the same at the offset that comes with a record: writing what was read gives the bytes that were
-- read
abbrev pub Rewrites : List ℕ → Result (Option Located) ReadFault → Type 0
Rewrites bs read = IfOk read (λ o. IfSome o (λ p. StandsAt bs p.offset p.«record»))

-- whatever stands before and behind the written bytes, a reader at their offset answers the record
-- and moves on by their number
abbrev pub ReadsBack : Record → List ℕ → Type 0
ReadsBack r written =
    (before rest : List ℕ)
    → (answer_at (before ++ (written ++ rest)) (length before) ≡
    Ok (Some (record { offset = length before; «record» = r })))
    × (offset_after (before ++ (written ++ rest)) (length before) ≡
    length before + length written)
