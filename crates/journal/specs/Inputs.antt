-- What a program takes as its input.
use Rattle.std.specs.Prelude.{ℕ, if◌then◌else◌, List, length, Some, None, Option, nat_le}
use Rattle.journal.specs.declared.input.TheConstants.{MOST_BYTES}

-- an input of more than 65,536 bytes is not taken
abbrev pub taken_input : List ℕ → Option (List ℕ)
taken_input bytes = if nat_le (length bytes) MOST_BYTES then Some bytes else None
