-- What a settlement leaves is the outcome of the call.
use Rattle.std.proofs.Common.{◌≡◌, ◌≤◌, ◌<◌, true, false, ltb, leb, length, None, Err, refl}
use Rattle.std.proofs.Common.{sym, arith}
use Rattle.std.proofs.lemmas.Bool.Decides.{nat_tests}
use Rattle.gas.specs.Inputs.{first_failure}
use Rattle.ledger.specs.declared.faults.AccountFault.TheVariants as fault
use Rattle.ledger.specs.Calls.{by_account, outcome, settling, tests, with_lines}
use Rattle.ledger.specs.Due.{lines_due_in}
use Rattle.gas.specs.Tariffs.{Tariff}
use Rattle.ledger.specs.Year.{Opening, Settlement, running, settled}
use Rattle.book.specs.Books.{Contents, state_of}
use Rattle.book.specs.Years.{year_by}
use Rattle.book.proofs.Outcomes.{passed, refused}
use Rattle.gas.specs.declared.units.TheConstants.{MOST_PER_MILLE}

-- a settlement of a running account
module _ {was b : Contents} (same : was ≡ b) (o : Opening) (t : Settlement) (s : Tariff)
    (final : t.final_increase ≤ MOST_PER_MILLE) (interest : t.interest ≤ MOST_PER_MILLE)
  where
    pub interim_open :
        length was.year.closings ≤ o.last →
        Err fault.InterimOpen ≡ outcome s (settling t) (state_of (running o) b)
    interim_open few =
        let one : leb t.final_increase MOST_PER_MILLE ≡ true = grind (arith, nat_tests) in
        let two : leb t.interest MOST_PER_MILLE ≡ true = grind (arith, nat_tests) in
        let test : ltb o.last (length was.year.closings) ≡ false = grind (arith, nat_tests) in
        refused s (settling t) (state_of (running o) b) fault.InterimOpen
        (rw (one, two, sym same, test) refl)

    pub settles : o.last < length was.year.closings →
        with_lines (state_of (settled o t) b)
        (by_account (lines_due_in s (year_by (settled o t) b.year) b.lines)) ≡ outcome s
        (settling t) (state_of (running o) b)
    settles enough =
        let one : leb t.final_increase MOST_PER_MILLE ≡ true = grind (arith, nat_tests) in
        let two : leb t.interest MOST_PER_MILLE ≡ true = grind (arith, nat_tests) in
        let test : ltb o.last (length was.year.closings) ≡ true = grind (arith, nat_tests) in
        let passes : first_failure (tests (settling t) (state_of (running o) b)) ≡ None = rw
        (one, two, sym same, test) refl in
        sym (passed s (settling t) (state_of (running o) b) passes)
