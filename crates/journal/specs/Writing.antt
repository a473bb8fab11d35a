-- What writing a record answers, and what it leaves in the caller's buffer.
use Rattle.std.specs.Prelude.{ℕ, List, Result}
use Rattle.gas.specs.declared.buffers.WriteFault.{WriteFault}
use Rattle.gas.specs.Buffers.{buffer_with, put_answer}
use Rattle.journal.specs.declared.kinds.Record.{Record}
use Rattle.journal.specs.Format.{record_bytes}

-- the record's length, or the refusal
abbrev pub write_answer : Record → List ℕ → Result ℕ WriteFault
write_answer r buffer = put_answer (record_bytes r) buffer

-- the record's bytes in front of what stood behind them, or the buffer as it was
abbrev pub buffer_after : Record → List ℕ → List ℕ
buffer_after r buffer = buffer_with (record_bytes r) buffer
