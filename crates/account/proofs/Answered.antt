-- When a call is answered and leaves what its outcome says.
use Rattle.std.proofs.Common.{◌≡◌, Bool, true, false, Some, Ok, Err, Result, true≢false, refl, sym}
use Rattle.std.proofs.Common.{◌∙◌}
use Rattle.std.specs.Result.{IsErr, IsErrAnd}
use Rattle.gas.specs.Inputs.{first_failure}
use Rattle.gas.specs.Tariffs.{Tariff}
use Rattle.ledger.specs.declared.faults.AccountFault.{AccountFault}
use Rattle.ledger.specs.declared.faults.AccountFault.TheVariants as fault
use Rattle.ledger.specs.Calls.{Call, State, closing, correction, late_charge, opening, outcome}
use Rattle.ledger.specs.Calls.{payment, posting, settling, tests}
use Rattle.ledger.specs.Year.{not_opened}
use Rattle.book.proofs.Outcomes.{refused}
use Rattle.account.specs.Calls.{Called}
use Rattle.account.specs.Holdings.{Holding}

-- every call but an opening is refused before the opening
abbrev pub needs_opening : Call → Bool
needs_opening (opening leap o) = false
needs_opening (posting month day n) = true
needs_opening (correction month day n) = true
needs_opening (closing month n) = true
needs_opening (payment amount) = true
needs_opening (settling t) = true
needs_opening (late_charge k) = true

-- it is refused as such
pub before_opening :
    (c : Call) (a : State) → needs_opening c ≡ true → a.year.standing ≡ not_opened →
    first_failure (tests c a) ≡ Some fault.NotOpened
before_opening (opening leap o) a is e = absurd (true≢false (sym is))
before_opening (posting month day n) a is e = rw e refl
before_opening (correction month day n) a is e = rw e refl
before_opening (closing month n) a is e = rw e refl
before_opening (payment amount) a is e = rw e refl
before_opening (settling t) a is e = rw e refl
before_opening (late_charge k) a is e = rw e refl

module _ {S : Type 0} {tariff : S → Tariff} {a : Holding S} {c : Call} where
  -- a test of the call fails
  pub fails :
      {f : AccountFault} → first_failure (tests c a.state) ≡ Some f → Called tariff a c (Err f) a
  fails {f = f} e =
      let is = refused (tariff a.schedule) c a.state f e in
      record { step = (rw (sym is) refl, rw (sym is) refl); schedule = refl; refused = refl }

  -- what `?` hands on
  pub handed_on :
      {r : Result (Unit {0}) AccountFault} {f : AccountFault} → IsErr r → IsErrAnd r (λ e. e ≡ f) →
      first_failure (tests c a.state) ≡ Some f → Called tariff a c r a
  handed_on {r = Ok u} is one e = absurd cc
  handed_on {r = Err g} is one e = fails (e ∙ rw one refl)

  -- the call is accepted
  pub accepted :
      {b : Holding S} → outcome (tariff a.schedule) c a.state ≡ Ok b.state →
      b.schedule ≡ a.schedule → Called tariff a c (Ok tt) b
  accepted is same = record { step = (rw is refl, rw is refl); schedule = same; refused = tt }
