-- When a settlement is refused before it reaches the book.
use Rattle.std.proofs.Common.{◌≡◌, Bool, true, false, ◌&&◌, [], ◌∷◌, leb, Some, None, Err, Result}
use Rattle.std.proofs.Common.{refl, sym}
use Rattle.std.specs.Result.{IsErr, IsErrAnd}
use Rattle.gas.specs.declared.faults.InputFault.TheVariants as input
use Rattle.gas.specs.declared.units.TheConstants.{MOST_PER_MILLE}
use Rattle.gas.specs.Inputs.{first_failure}
use Rattle.gas.specs.Tariffs.{Tariff}
use Rattle.ledger.specs.declared.faults.AccountFault.{AccountFault}
use Rattle.ledger.specs.declared.faults.AccountFault.TheVariants as fault
use Rattle.ledger.specs.Calls.{settlement_input}
use Rattle.ledger.specs.Year.{Settlement, is_opened, is_settled}
use Rattle.book.specs.Books.{Contents, state_of}
use Rattle.account.specs.Calls.{Called}
use Rattle.account.specs.Holdings.{Holding}
use Rattle.account.specs.Journals.{call_of}
use Rattle.account.specs.Standings.{standing_now}
use Rattle.account.specs.declared.standing.Standing as code
use Rattle.journal.specs.declared.kinds.Record.{Record}
use Rattle.journal.specs.declared.kinds.Record.TheVariants as kind
use Rattle.account.proofs.Answered.{fails, handed_on}

-- of a single test, the refusal says that it failed, and none that it held
failed :
    (ok : Bool) (f g : AccountFault) → Some f ≡ first_failure ((ok, g) ∷ []) →
    (ok ≡ false) × (f ≡ g)
failed true f g e = absurd cc
failed false f g e = (refl, cc)

held : (ok : Bool) (g : AccountFault) → None ≡ first_failure ((ok, g) ∷ []) → ok ≡ true
held true g e = refl
held false g e = absurd cc

-- the numbers of a settlement pass their test
abbrev is_lawful : Settlement → Bool
is_lawful t = leb t.final_increase MOST_PER_MILLE && leb t.interest MOST_PER_MILLE

-- the settlement of an account that was opened
module _ {S : Type 0} {tariff : S → Tariff} {sch : S} (at : code.Standing) {b : Contents}
    {a : Holding S} (same : record { schedule = sch; state = state_of (standing_now at) b } ≡ a)
    (opened : is_opened (standing_now at) ≡ true) {r : Record} (t : Settlement)
    (is : r ≡ kind.Settle t.final_increase t.interest)
  where
    pub settlement_refused :
        {answer : Result (Unit {0}) AccountFault} {f : AccountFault} → IsErr answer →
        IsErrAnd answer (λ e. e ≡ f) → Some f ≡ first_failure (settlement_input t ∷ []) →
        Called tariff a (call_of r) answer a
    settlement_refused {f = f} one other e =
        let test = failed (is_lawful t) f (fault.Input input.Share) e in
        rw is (handed_on one other (rw (sym same, opened, test.0, test.1) refl))

    pub settled_already :
        None ≡ first_failure (settlement_input t ∷ []) → is_settled (standing_now at) ≡ true →
        Called tariff a (call_of r) (Err fault.SettledAlready) a
    settled_already e settled =
        let test = held (is_lawful t) (fault.Input input.Share) e in
        rw is (fails (rw (sym same, opened, test, settled) refl))
