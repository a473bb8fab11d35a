-- What a late charge leaves is the outcome of the call.
use Rattle.std.proofs.Common.{◌≡◌, ◌++◌, ℕ, ◌+◌, ◌<◌, ◌≤◌, true, false, ltb, leb}
use Rattle.std.proofs.Common.{[], ◌∷◌, length, Some, None, Ok, Err}
use Rattle.std.proofs.Common.{Option, refl, sym, ◌∙◌, arith}
use Rattle.std.proofs.lemmas.Bool.Decides.{nat_tests}
use Rattle.gas.specs.Inputs.{answer_unless, first_failure}
use Rattle.ledger.specs.declared.faults.AccountFault.{AccountFault}
use Rattle.ledger.specs.declared.faults.AccountFault.TheVariants as fault
use Rattle.ledger.specs.declared.lines.Line.{Line}
use Rattle.ledger.specs.declared.lines.TheConstants.{MOST_LINES}
use Rattle.ledger.specs.Calls.{Tests, late_charge, outcome, tests}
use Rattle.ledger.specs.Late.{late_line, late_tests}
use Rattle.gas.specs.Tariffs.{Tariff}
use Rattle.ledger.specs.Year.{Standing, is_opened}
use Rattle.book.specs.Books.{Contents, state_of, with_charge}
use Rattle.book.proofs.Outcomes.{fails_first, fails_later, passed, refused}

-- an answer that tests decide: its refusal is the first of theirs, and its value is given where
-- none fails
unanswered :
    {A F : Type 0} (failure : Option F) (a : A) (f : F) → Err f ≡ answer_unless failure (Ok a) →
    failure ≡ Some f
unanswered None a f e = absurd cc
unanswered (Some g) a f e = cc

answered :
    {A F : Type 0} (failure : Option F) (m a : A) → Ok m ≡ answer_unless failure (Ok a) →
    (failure ≡ None) × (m ≡ a)
answered None m a e = (refl, cc)
answered (Some g) m a e = absurd cc

-- the last test: the number is beyond the last one charged for
abbrev beyond : ℕ → ℕ → Tests
beyond charged k = (ltb charged k, fault.ChargedAlready) ∷ []

-- a late charge, in any account that was opened
module _ {was b : Contents} (same : was ≡ b) (k : ℕ) (s : Tariff) (t : Standing)
    (opened : is_opened t ≡ true) {room : ℕ} (whole : room + length was.lines ≡ MOST_LINES)
  where
    pub no_room_to_charge :
        room ≡ 0 → Err fault.NoRoom ≡ outcome s (late_charge k) (state_of t b)
    no_room_to_charge none =
        let test : ltb (length was.lines) MOST_LINES ≡ false = grind (arith, nat_tests) in
        refused s (late_charge k) (state_of t b) fault.NoRoom (rw (opened, sym same, test) refl)

    module _ (some : room ≡ 0 → ⊥) where
      has_room : ltb (length was.lines) MOST_LINES ≡ true
      has_room =
          let left : length was.lines < MOST_LINES = omega (arith, some) in
          grind (arith, nat_tests)

      -- behind the room come the tests of the lines, and then the last one
      tested :
          first_failure (tests (late_charge k) (state_of t b)) ≡ first_failure
          (late_tests k was.lines ++ beyond was.charged k)
      tested = rw (opened, sym same, has_room) refl

      pub charge_refused :
          {f : AccountFault} →
          Err f ≡ answer_unless (first_failure (late_tests k was.lines))
          (Ok (late_line k was.lines)) → Err f ≡ outcome s (late_charge k) (state_of t b)
      charge_refused {f = f} e =
          refused s (late_charge k) (state_of t b) f
          (tested ∙ fails_first (late_tests k was.lines) (beyond was.charged k) f
          (unanswered _ _ f e))

      module _ {line : Line}
          (e : Ok line ≡ answer_unless (first_failure (late_tests k was.lines))
          (Ok (late_line k was.lines)))
        where
          lawful :
              first_failure (tests (late_charge k) (state_of t b)) ≡ first_failure
              (beyond was.charged k)
          lawful =
              tested ∙ fails_later (late_tests k was.lines) (beyond was.charged k)
              (answered _ line _ e).0

          pub charged_already :
              k ≤ was.charged →
              Err fault.ChargedAlready ≡ outcome s (late_charge k) (state_of t b)
          charged_already earlier =
              let test : ltb was.charged k ≡ false = grind (arith, nat_tests) in
              refused s (late_charge k) (state_of t b) fault.ChargedAlready
              (lawful ∙ rw test refl)

          pub charged :
              {after : Contents} → was.charged < k → after ≡ with_charge b line k →
              Ok (state_of t after) ≡ outcome s (late_charge k) (state_of t b)
          charged later is_after =
              let test : ltb was.charged k ≡ true = grind (arith, nat_tests) in
              let left : length was.lines + 1 ≤ MOST_LINES = omega (arith, some) in
              let fits : leb (length was.lines + 1) MOST_LINES ≡ true = grind (arith, nat_tests) in
              sym (passed s (late_charge k) (state_of t b) (lawful ∙ rw test refl) ∙ rw
              (is_after, (answered _ line _ e).1, sym same, fits) refl)
