-- What closing a month leaves is the outcome of the call.
use Rattle.std.proofs.Common.{◌≡◌, ℕ, ◌-◌, true, false, eqb, leb, List, [], ◌∷◌, ◌++◌, length, take}
use Rattle.std.proofs.Common.{None, Ok, Err, length-append, eq-eqb, refl, sym, ap, ◌∙◌, arith}
use Rattle.std.proofs.Math.Seq.{take-append_seam}
use Rattle.std.proofs.lemmas.Bool.Decides.{nat_tests}
use Rattle.gas.specs.declared.faults.InputFault.{InputFault}
use Rattle.gas.specs.declared.faults.InputFault.TheVariants as input
use Rattle.gas.specs.declared.month.ClosingNumbers.{ClosingNumbers}
use Rattle.gas.specs.Inputs.{checked_closing, checked_month, first_failure, is_lawful_closing}
use Rattle.ledger.specs.declared.faults.AccountFault.TheVariants as fault
use Rattle.ledger.specs.Calls.{by_account, closing, outcome, tests, with_lines}
use Rattle.ledger.specs.Days.{is_complete}
use Rattle.ledger.specs.Due.{lines_due_in}
use Rattle.gas.specs.Tariffs.{Tariff}
use Rattle.ledger.specs.Year.{Standing, is_opened}
use Rattle.book.specs.Books.{Contents, state_of, with_closings}
use Rattle.book.specs.Years.{year_by}
use Rattle.book.proofs.Outcomes.{passed, refused, taken, untaken}

-- a closing, in an account that was opened
module _ {was b : Contents} (same : was ≡ b) (month : ℕ) (n : ClosingNumbers) (s : Tariff)
    (t : Standing) (opened : is_opened t ≡ true)
  where
    pub month_refused :
        {f : InputFault} → Err f ≡ checked_month month →
        Err (fault.Input f) ≡ outcome s (closing month n) (state_of t b)
    month_refused {f = f} e =
        let test = untaken (leb month 11) f input.Month month e in
        refused s (closing month n) (state_of t b) (fault.Input f)
        (rw (opened, test.0, test.1) refl)

    module _ {m : ℕ} (of_month : Ok m ≡ checked_month month) where
      pub closing_refused :
          {f : InputFault} → Err f ≡ checked_closing n →
          Err (fault.Input f) ≡ outcome s (closing month n) (state_of t b)
      closing_refused {f = f} e =
          let test = untaken (is_lawful_closing n) f input.Quantity n e in
          let first = taken (leb month 11) input.Month m month of_month in
          refused s (closing month n) (state_of t b) (fault.Input f)
          (rw (opened, first.0, test.0, test.1) refl)

      module _ {c : ClosingNumbers} (of_rates : Ok c ≡ checked_closing n) where
        lawful_input :
            first_failure (tests (closing month n) (state_of t b)) ≡ first_failure
            ((eqb m (length b.year.closings), fault.NotEarliest) ∷
            (is_complete b.year.leap b.year.days m, fault.LacksDay) ∷ [])
        lawful_input =
            let first = taken (leb month 11) input.Month m month of_month in
            let second = taken (is_lawful_closing n) input.Quantity c n of_rates in
            rw (opened, first.0, second.0, first.1) refl

        pub not_earliest :
            (m ≡ length was.year.closings → ⊥) →
            Err fault.NotEarliest ≡ outcome s (closing month n) (state_of t b)
        not_earliest other =
            let test : eqb m (length was.year.closings) ≡ false = grind (arith, nat_tests) in
            refused s (closing month n) (state_of t b) fault.NotEarliest
            (lawful_input ∙ rw (sym same, test) refl)

        pub lacks_day :
            m ≡ length was.year.closings → is_complete was.year.leap was.year.days m ≡ false →
            Err fault.LacksDay ≡ outcome s (closing month n) (state_of t b)
        lacks_day next lacks =
            refused s (closing month n) (state_of t b) fault.LacksDay
            (lawful_input ∙ rw (sym same, lacks, eq-eqb _ _ next) refl)

        pub closed :
            {put : Contents} → m ≡ length was.year.closings →
            is_complete was.year.leap was.year.days m ≡ true →
            put ≡ with_closings b (b.year.closings ++ c ∷ []) →
            with_lines (state_of t put)
            (by_account (lines_due_in s (year_by t put.year) put.lines)) ≡ outcome s
            (closing month n) (state_of t b)
        closed next complete is_put =
            let passes : first_failure (tests (closing month n) (state_of t b)) ≡ None =
            lawful_input
            ∙ rw (sym same, complete, eq-eqb _ _ next) refl in
            rw is_put (sym (passed s (closing month n) (state_of t b) passes ∙ rw
            (sym (taken (is_lawful_closing n) input.Quantity c n of_rates).1) refl))

-- a book with its last month open again is the one before
pub reopened :
    (b put trued_up after : Contents) (c : ClosingNumbers) →
    put ≡ with_closings b (b.year.closings ++ c ∷ []) → trued_up ≡ put →
    after ≡ with_closings trued_up (take (length trued_up.year.closings - 1) trued_up.year.closings)
    →
    after ≡ b
reopened b put trued_up after c one two three =
    let more = length-append b.year.closings (c ∷ []) in
    let n : length (b.year.closings ++ c ∷ []) - 1 ≡ length b.year.closings = omega arith in
    three ∙ rw (two, one, n) (ap (λ (cs : List ClosingNumbers). with_closings b cs)
    (take-append_seam b.year.closings (c ∷ [])))
