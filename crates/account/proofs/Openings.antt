-- When an opening is answered and leaves what its outcome says.
use Rattle.std.proofs.Common.{Some, ◌≡◌, ℕ, ◌+◌, ◌≤◌, Bool, [], length, None, Ok, Result}
use Rattle.std.proofs.Common.{append-nil, refl, sym, ap, ◌∙◌, arith}
use Rattle.std.specs.Result.{IsErr, IsErrAnd}
use Rattle.gas.specs.Inputs.{first_failure, mark_number}
use Rattle.gas.specs.Tariffs.{Tariff}
use Rattle.gas.proofs.Made.{same_mark}
use Rattle.ledger.specs.declared.faults.AccountFault.{AccountFault}
use Rattle.ledger.specs.declared.lines.TheConstants.{MOST_LINES}
use Rattle.ledger.specs.Calls.{opening, opening_input, known_after, tests}
use Rattle.ledger.specs.Year.{Opening, running}
use Rattle.book.specs.Books.{Contents, begun_book, state_of}
use Rattle.book.proofs.Outcomes.{fits, passed}
use Rattle.account.specs.Calls.{Called}
use Rattle.account.specs.Holdings.{Holding}
use Rattle.account.specs.Journals.{call_of}
use Rattle.account.specs.Standings.{standing_now}
use Rattle.account.specs.declared.standing.Standing as code
use Rattle.journal.specs.declared.kinds.Record.{Record}
use Rattle.journal.specs.declared.kinds.Record.TheVariants as kind
use Rattle.account.proofs.Answered.{accepted, handed_on}

-- the opening of a new account
module _ {S : Type 0} {sch : S} {at : code.Standing} {b : Contents} {a : Holding S}
    (same : record { schedule = sch; state = state_of (standing_now at) b } ≡ a)
    (new : at ≡ code.TheVariants.NotOpened) (leap : ℕ) (o : Opening)
  where
    -- before the opening only its numbers are tested
    tested : first_failure (tests (opening leap o) a.state) ≡ first_failure (opening_input leap o)
    tested = rw (sym same, new) refl

    pub opening_refused :
        {tariff : S → Tariff} {r : Record} {answer : Result (Unit {0}) AccountFault}
        {f : AccountFault} →
        r ≡ kind.Open leap o.increase o.first o.last → IsErr answer → IsErrAnd answer (λ e. e ≡ f) →
        Some f ≡ first_failure (opening_input leap o) → Called tariff a (call_of r) answer a
    opening_refused is one other e = rw is (handed_on one other (tested ∙ sym e))

    pub opens :
        {tariff : S → Tariff} {r : Record} {marked : Bool} {terms : Opening} {after : Contents} →
        r ≡ kind.Open leap o.increase o.first o.last → None ≡ first_failure (opening_input leap o) →
        mark_number marked ≡ leap → terms ≡ o → after ≡ begun_book b marked →
        length after.lines ≤ MOST_LINES →
        Called tariff a (call_of r) (Ok tt) (record
        { schedule = sch; state = state_of (running terms) after })
    opens {tariff = tariff} {marked = marked} {after = after} is e mark by left room =
        let s : Tariff = tariff a.schedule in
        let lines : a.state.lines ≡ after.lines = rw (left, sym same) refl in
        let all : length a.state.lines + 0 ≤ MOST_LINES = rw lines (omega arith) in
        rw is
        (accepted
        (passed s (opening leap o) a.state (tested ∙ sym e) ∙ fits
        (known_after (opening leap o) a.state) [] all ∙ rw
        (left, by, sym same, append-nil b.lines, sym mark, same_mark marked) refl)
        (ap (λ (h : Holding S). h.schedule) same))
