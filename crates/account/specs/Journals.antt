-- What the records of a journal make of an account.
use Rattle.std.specs.Prelude.{ℕ, ◌+◌, List, [], ◌∷◌, ◌++◌, Some, None, Ok, Err, Option, Result}
use Rattle.std.specs.Result.{result_map_both}
use Rattle.ledger.specs.declared.faults.AccountFault.{AccountFault}
use Rattle.ledger.specs.Calls.{Call, State, closing, correction, opening, payment, posting}
use Rattle.ledger.specs.Calls.{settling}
use Rattle.gas.specs.Tariffs.{Tariff}
use Rattle.ledger.specs.Runs.{Entry, History, state_after, refusal_by}
use Rattle.journal.specs.declared.faults.ReadFault.{ReadFault}
use Rattle.journal.specs.declared.kinds.Located.{Located}
use Rattle.journal.specs.declared.kinds.Record.{Record}
use Rattle.journal.specs.declared.kinds.Record.TheVariants.{Open, Post, Correct, Close, Pay, Settle}
use Rattle.journal.specs.Format.{record_length}
use Rattle.account.specs.declared.faults.JournalFault.{JournalFault}
use Rattle.account.specs.declared.faults.JournalFault.TheVariants.{Unread, Refused}
use Rattle.account.specs.declared.faults.Refusal.{Refusal}

-- the call that a record is
abbrev pub call_of : Record → Call
call_of (Open leap increase first last) =
    opening leap (record { increase = increase; first = first; last = last })
call_of (Post day) = posting day.month day.day day.numbers
call_of (Correct day) = correction day.month day.day day.numbers
call_of (Close month numbers) = closing month numbers
call_of (Pay amount) = payment amount
call_of (Settle final interest) =
    settling (record { final_increase = final; interest = interest })

-- the entry of a record in the history: its call, and whether it was refused
abbrev pub entry_of : Tariff → State → Record → Entry
entry_of s a r = record { call = call_of r; refusal = refusal_by s (call_of r) a }

-- the history of an account after records that were played one after another, each on what the one
-- before had left
abbrev pub history_after : Tariff → History → State → List Located → History
history_after s h a [] = h
history_after s h a (p ∷ ps) =
    history_after s (entry_of s a p.«record» ∷ h) (state_after s (call_of p.«record») a) ps

-- the account after records that were played one after another
abbrev pub account_after : Tariff → State → List Located → State
account_after s a [] = a
account_after s a (p ∷ ps) = account_after s (state_after s (call_of p.«record») a) ps

-- what a reader at an offset answers, a refusal with the offset
abbrev pub read_at : ℕ → Result (Option Located) ReadFault → Result (Option Located) JournalFault
read_at offset r = result_map_both (λ next. next) (Unread offset) r

-- what is answered of a record at an offset, by its refusal if it was refused
abbrev pub answer_of_entry : ℕ → Option AccountFault → Result (Unit {0}) JournalFault
answer_of_entry offset None = Ok tt
answer_of_entry offset (Some f) = Err (Refused offset f)

-- the refusal of record k at an offset, if it was refused
abbrev pub refusal_at : ℕ → ℕ → Option AccountFault → List Refusal
refusal_at k offset None = []
refusal_at k offset (Some f) = record { number = k; fault = Refused offset f } ∷ []

-- where reading stopped at record k with a refusal, that one
abbrev pub unread_refusal : ℕ → ℕ → Option ReadFault → List Refusal
unread_refusal k offset None = []
unread_refusal k offset (Some f) = record { number = k; fault = Unread offset f } ∷ []

-- the refusals, in order, of records from number k on; offset is where the reader stands, for the
-- refusal at which reading stops
abbrev pub refusals_of : Tariff → ℕ → ℕ → State → List Located → Option ReadFault → List Refusal
refusals_of s k offset a [] end = unread_refusal k offset end
refusals_of s k offset a (p ∷ ps) end =
    let c : Call = call_of p.«record» in
    refusal_at k p.offset (refusal_by s c a) ++
    refusals_of s (k + 1) (offset + record_length p.«record») (state_after s c a) ps end
