-- What a payment leaves is the outcome of the call.
use Rattle.std.proofs.Common.{◌≡◌, ℕ, ◌+◌, ◌≤◌, true, false, leb, ◌&&◌, length, pos, neg_ℤ}
use Rattle.std.proofs.Common.{None, Ok, Err, refl, sym, ◌∙◌, arith}
use Rattle.std.proofs.lemmas.Bool.Decides.{nat_tests}
use Rattle.gas.specs.declared.faults.InputFault.{InputFault}
use Rattle.gas.specs.declared.faults.InputFault.TheVariants as input
use Rattle.gas.specs.Inputs.{first_failure, value_if}
use Rattle.ledger.specs.declared.faults.AccountFault.TheVariants as fault
use Rattle.ledger.specs.declared.lines.Heading.TheVariants as heading
use Rattle.ledger.specs.declared.lines.Line.{Line}
use Rattle.ledger.specs.declared.lines.TheConstants.{MOST_LINES, MOST_PAID}
use Rattle.ledger.specs.Calls.{outcome, payment, tests}
use Rattle.ledger.specs.Headings.{line_of}
use Rattle.gas.specs.Tariffs.{Tariff}
use Rattle.ledger.specs.Year.{Standing, is_opened}
use Rattle.book.specs.Books.{Contents, state_of, with_line}
use Rattle.book.proofs.Outcomes.{passed, refused, taken, untaken}

-- a payment, in any account that was opened
module _ {was b : Contents} (same : was ≡ b) (amount : ℕ) (s : Tariff) (t : Standing)
    (opened : is_opened t ≡ true)
  where
    pub payment_refused :
        {f : InputFault} (line : Line) →
        Err f ≡ value_if (leb 1 amount && leb amount MOST_PAID) input.Payment line →
        Err (fault.Input f) ≡ outcome s (payment amount) (state_of t b)
    payment_refused {f = f} line e =
        let test = untaken (leb 1 amount && leb amount MOST_PAID) f input.Payment line e in
        refused s (payment amount) (state_of t b) (fault.Input f) (rw (opened, test.0, test.1) refl)

    module _ {line due : Line}
        (of_amount : Ok line ≡ value_if (leb 1 amount && leb amount MOST_PAID) input.Payment
        due)
        (is : due ≡ line_of heading.Payment (pos 0) (neg_ℤ (pos amount)))
      where
        lawful_payment : first_failure (tests (payment amount) (state_of t b)) ≡ None
        lawful_payment =
            rw (
              opened,
              (taken (leb 1 amount && leb amount MOST_PAID) input.Payment line due
                  of_amount).0,
            ) refl

        pub no_room_to_pay :
            {room : ℕ} → room + length was.lines ≡ MOST_LINES → room ≡ 0 →
            Err fault.NoRoom ≡ outcome s (payment amount) (state_of t b)
        no_room_to_pay whole none =
            let test : leb (length was.lines + 1) MOST_LINES ≡ false = grind (arith, nat_tests) in
            sym (passed s (payment amount) (state_of t b) lawful_payment ∙ rw (sym same, test) refl)

        pub paid :
            {room : ℕ} {after : Contents} → room + length was.lines ≡ MOST_LINES → (room ≡ 0 → ⊥) →
            after ≡ with_line b line →
            Ok (state_of t after) ≡ outcome s (payment amount) (state_of t b)
        paid whole some is_after =
            let left : length was.lines + 1 ≤ MOST_LINES = omega (arith, some) in
            let test : leb (length was.lines + 1) MOST_LINES ≡ true = grind (arith, nat_tests) in
            let same_line = (taken (leb 1 amount && leb amount MOST_PAID) input.Payment line due
            of_amount).1 in
            sym (passed s (payment amount) (state_of t b) lawful_payment ∙ rw
            (is_after, same_line, is, sym same, test) refl)
