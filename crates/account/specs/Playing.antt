-- What playing a journal makes of an account, and the law on it.
use Rattle.std.specs.Prelude.{◌≡◌, ℕ, List, Option}
use Rattle.ledger.specs.Calls.{State}
use Rattle.gas.specs.Tariffs.{Tariff}
use Rattle.ledger.specs.Prices.{open_therms}
use Rattle.ledger.specs.Runs.{AddsUp, History, Run, known_year}
use Rattle.journal.specs.declared.faults.ReadFault.{ReadFault}
use Rattle.journal.specs.declared.kinds.Located.{Located}
use Rattle.journal.specs.Reading.{Gives}
use Rattle.account.specs.declared.faults.Refusal.{Refusal}
use Rattle.account.specs.Journals.{account_after, history_after, refusals_of}

-- records, end: what a reader gives from the journal's first byte on, and how it stops
-- account: each record was played in order, on what the one before had left
-- refused: just the refused ones are answered, and last the one that could not be read
-- run: with these records, each with its answer, the account after goes on from every history of
-- the account before; this follows from account
-- adds_up: by all these histories the law holds of the account after, with its open therms; this
--   follows from run
pub record Played (s : Tariff) (bytes : List ℕ) (a b : State) (refusals : List Refusal)
    : Type 0 where
  pub records : List Located
  pub end : Option ReadFault
  pub given : Gives bytes 0 records end
  pub account : b ≡ account_after s a records
  pub refused : refusals ≡ refusals_of s 1 0 a records end
  pub run : (h : History) → Run s h a → Run s (history_after s h a records) b
  pub adds_up :
      (h : History) → Run s h a →
      AddsUp s (known_year (history_after s h a records)) b (open_therms b.year)
