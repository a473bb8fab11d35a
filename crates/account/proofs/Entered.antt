-- When a call is refused by where the account stands alone.
use Rattle.std.proofs.Common.{◌≡◌, ℕ, true, Err, refl, sym}
use Rattle.gas.specs.Tariffs.{Tariff}
use Rattle.ledger.specs.declared.faults.AccountFault.TheVariants as fault
use Rattle.ledger.specs.Calls.{Call}
use Rattle.ledger.specs.Year.{is_opened}
use Rattle.book.specs.Books.{Contents, state_of}
use Rattle.account.specs.Calls.{Called}
use Rattle.account.specs.Holdings.{Holding}
use Rattle.account.specs.Journals.{call_of}
use Rattle.account.specs.Standings.{standing_now}
use Rattle.account.specs.declared.standing.Standing as code
use Rattle.journal.specs.declared.kinds.Record.{Record}
use Rattle.journal.specs.declared.kinds.Record.TheVariants as kind
use Rattle.account.proofs.Answered.{before_opening, fails, needs_opening}

module _ {S : Type 0} {tariff : S → Tariff} {sch : S} (at : code.Standing) {b : Contents}
    {a : Holding S} (same : record { schedule = sch; state = state_of (standing_now at) b } ≡ a)
  where
    -- a call that needs an opened account
    pub unopened :
        (c : Call) → at ≡ code.TheVariants.NotOpened → needs_opening c ≡ true →
        Called tariff a c (Err fault.NotOpened) a
    unopened c new needs = fails (before_opening c a.state needs (rw (sym same, new) refl))

    -- an opening of one that is opened
    pub opened_already :
        (r : Record) {leap increase first last : ℕ} → is_opened (standing_now at) ≡ true →
        r ≡ kind.Open leap increase first last →
        Called tariff a (call_of r) (Err fault.OpenedAlready) a
    opened_already r opened is = rw is (fails (rw (sym same, opened) refl))
