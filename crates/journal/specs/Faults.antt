-- The number by which each refusal of a reader is known.
use Rattle.std.specs.Prelude.{ℕ}
use Rattle.journal.specs.declared.faults.ReadFault.{ReadFault}
use Rattle.journal.specs.declared.faults.ReadFault.TheVariants.{UnknownKind, CutShort}

-- 1: the kind byte is not 1 to 6. 2: the journal ends inside the record.
abbrev pub read_number : ReadFault → ℕ
read_number UnknownKind = 1
read_number CutShort = 2
