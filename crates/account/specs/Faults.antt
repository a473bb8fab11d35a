-- The number of each refusal of a journal's record, with its offset and values.
use Rattle.std.specs.Prelude.{ℕ, None, Option}
use Rattle.gas.specs.declared.items.PriceValues.{PriceValues}
use Rattle.ledger.specs.Faults.{account_values}
use Rattle.journal.specs.Faults.{read_number}
use Rattle.account.specs.declared.faults.JournalFault.{JournalFault}
use Rattle.account.specs.declared.faults.JournalFault.TheVariants.{Unread, Refused}

-- the number, the offset of the record's first byte, and the values that come with an account's
-- refusal
abbrev pub journal_values : JournalFault → ℕ × ℕ × Option PriceValues
journal_values (Unread offset fault) = (read_number fault, offset, None)
journal_values (Refused offset fault) =
    let v : ℕ × Option PriceValues = account_values fault in (v.0, offset, v.1)
