-- Bytes at the start of a caller's buffer: what is answered, and what the buffer then holds.
use Rattle.std.specs.Prelude.{ℕ, Bool, if◌then◌else◌, List, ◌++◌, length, drop, Ok, Err, Result}
use Rattle.std.specs.Prelude.{nat_le}
use Rattle.gas.specs.declared.buffers.WriteFault.{WriteFault}
use Rattle.gas.specs.declared.buffers.WriteFault.TheVariants.{BufferTooShort}

-- 10: the caller's buffer is too short
abbrev pub write_number : WriteFault → ℕ
write_number BufferTooShort = 10

-- a buffer has room for bytes if it is at least as long
abbrev pub has_room : List ℕ → List ℕ → Bool
has_room bs buffer = nat_le (length bs) (length buffer)

-- how many bytes were put, or a refusal where the buffer is too short
abbrev pub put_answer : List ℕ → List ℕ → Result ℕ WriteFault
put_answer bs buffer = if has_room bs buffer then Ok (length bs) else Err BufferTooShort

-- the bytes in front of what stood behind them; the whole buffer as it was after a refusal
abbrev pub buffer_with : List ℕ → List ℕ → List ℕ
buffer_with bs buffer = if has_room bs buffer then bs ++ drop (length bs) buffer else buffer
