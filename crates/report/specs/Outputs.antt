-- What is printed of an input, and of a journal that is played on the fixed tariff.
use Rattle.std.specs.Prelude.{◌≡◌, ℕ, List, Some, None, codes, Option}
use Rattle.account.specs.declared.faults.Refusal.{Refusal}
use Rattle.account.specs.Playing.{Played}
use Rattle.ledger.specs.Calls.{State}
use Rattle.ledger.specs.Runs.{new_state}
use Rattle.report.specs.Tariffs.{fixed_tariff}
use Rattle.report.specs.Rows.{played_text}

-- what a journal makes of a new account on the program's tariff, and what was refused on the way
abbrev pub PlaysInto : List ℕ → State → List Refusal → Type 0
PlaysInto bytes b refusals = Played fixed_tariff bytes new_state b refusals

-- the text of this account, and of what was refused
abbrev pub PrintsPlayed : List ℕ → List ℕ → Type 0
PrintsPlayed bytes text =
    (b : State) × (refusals : List Refusal) × PlaysInto bytes b refusals ×
    (text ≡ played_text refusals b.lines)

-- by what was taken of an input: where it has more than 65,536 bytes none is, and the one row is
-- `too long`; else what is printed of the bytes
abbrev pub UnlessTooLong :
    (List ℕ → List ℕ → Type 0) → Option (List ℕ) → List ℕ → Type 0
UnlessTooLong Printed None text = text ≡ codes "too long\n"
UnlessTooLong Printed (Some bytes) text = Printed bytes text

-- what the program `lines` writes
abbrev pub Prints : Option (List ℕ) → List ℕ → Type 0
Prints journal text = UnlessTooLong PrintsPlayed journal text
