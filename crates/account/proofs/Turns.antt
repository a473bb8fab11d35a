-- What the loop that plays a journal keeps from record to record.
use Rattle.std.proofs.Common.{◌≡◌, ℕ, ◌+◌, ◌*◌, ◌/◌, ◌<◌, ◌≤◌, List, [], ◌∷◌, ◌++◌, length, Some}
use Rattle.std.proofs.Common.{None, Ok, Err, Option, Result, refl, sym, ap, ◌∙◌, subst}
use Rattle.std.proofs.Common.{append_assoc, append-nil, arith}
use Rattle.ledger.specs.declared.faults.AccountFault.{AccountFault}
use Rattle.ledger.specs.Calls.{State}
use Rattle.gas.specs.Tariffs.{Tariff}
use Rattle.ledger.specs.Runs.{History, Run, state_after, refusal_by}
use Rattle.ledger.proofs.Law.{runs_add_up}
use Rattle.journal.specs.declared.faults.ReadFault.{ReadFault}
use Rattle.journal.specs.declared.kinds.Located.{Located}
use Rattle.journal.specs.declared.kinds.Record.{Record}
use Rattle.journal.specs.declared.kinds.Record.TheVariants.{Open, Post, Correct, Close, Pay, Settle}
use Rattle.journal.specs.Format.{record_length}
use Rattle.journal.specs.Reading.{Gives, offset_after, answer_at, offset_behind}
use Rattle.account.specs.declared.faults.JournalFault.{JournalFault}
use Rattle.account.specs.declared.faults.Refusal.{Refusal}
use Rattle.account.specs.Journals.{account_after, call_of, answer_of_entry, entry_of, history_after}
use Rattle.account.specs.Journals.{read_at, refusals_of, refusal_at, unread_refusal}
use Rattle.account.specs.Playing.{Played}

-- no record is shorter than 5 bytes
five_at_least : (r : Record) → 5 ≤ record_length r
five_at_least (Open leap increase first last) = omega arith
five_at_least (Post day) = omega arith
five_at_least (Correct day) = omega arith
five_at_least (Close month numbers) = omega arith
five_at_least (Pay amount) = omega arith
five_at_least (Settle final interest) = omega arith

-- the account after records goes on by their history
runs_on :
    (s : Tariff) (h : History) (a : State) (ps : List Located) → Run s h a →
    Run s (history_after s h a ps) (account_after s a ps)
runs_on s h a [] run = run
runs_on s h a (p ∷ ps) run =
    runs_on s (entry_of s a p.«record» ∷ h) (state_after s (call_of p.«record») a) ps
    (a, run, (refl, refl))

-- with all that a reader gives the journal is played
whole :
    (s : Tariff) (bs : List ℕ) (a : State) (ps : List Located) (end : Option ReadFault) →
    Gives bs 0 ps end → Played s bs a (account_after s a ps) (refusals_of s 1 0 a ps end)
whole s bs a ps end h = record {
  records = ps;
  end = end;
  given = h;
  account = refl;
  refused = refl;
  run = λ before run. runs_on s before a ps run;
  adds_up =
      λ before run. runs_add_up s (history_after s before a ps) (account_after s a ps)
      (runs_on s before a ps run);
}

-- the account a has played the journal bs up to offset i, k - 1 records: with what a reader of the
-- bytes rs gives from there on the whole is played
-- the n refusals so far stand in a list with room for as many as there can be
pub record Sofar (s : Tariff) (bs rs : List ℕ) (before a : State) (refusals : List Refusal)
    (n room i k : ℕ)
    : Type 0 where
  pub same : rs ≡ bs
  pub long : 5 * k ≤ i + 5
  pub few : n < k
  pub enough : length bs / 5 < room
  pub rest :
      (ps : List Located) (end : Option ReadFault) → Gives rs i ps end →
      Played s bs before (account_after s a ps) (refusals ++ refusals_of s k i a ps end)

pub start :
    {s : Tariff} {bs rs : List ℕ} {a : State} {refusals : List Refusal} {n room i k : ℕ} → rs ≡ bs →
    refusals ≡ [] → n ≡ 0 → length bs / 5 + 1 ≤ room → i ≡ 0 → k ≡ 1 →
    Sofar s bs rs a a refusals n room i k
start {s} {bs} {rs} {a} same none empty enough first one = record {
  same = same;
  long = omega arith;
  few = omega arith;
  enough = omega arith;
  rest =
      λ ps end h. rw (none, one, first) (whole s bs a ps end
      (subst (λ (b : List ℕ). Gives b 0 ps end) same
      (subst (λ (m : ℕ). Gives rs m ps end) first h)));
}

-- what a reader answers, from what is answered of it
was_read :
    (i : ℕ) (r : Result (Option Located) ReadFault) (next : Option Located) →
    Ok next ≡ read_at i r → r ≡ Ok next
was_read i (Ok x) next e = cc
was_read i (Err f) next e = absurd cc

was_unread :
    (i : ℕ) (r : Result (Option Located) ReadFault) (fault : JournalFault) →
    Err fault ≡ read_at i r →
    (f : ReadFault) × (r ≡ Err f) × ((k : ℕ) →
    record { number = k; fault = fault } ∷ [] ≡ unread_refusal k i (Some f))
was_unread i (Ok x) fault e = absurd cc
was_unread i (Err f) fault e = (f, refl, λ k. cc)

-- the refusals of a record, from what is answered of it
was_entered :
    (k offset : ℕ) (r : Option AccountFault) (u : Unit {0}) → Ok u ≡ answer_of_entry offset r →
    refusal_at k offset r ≡ []
was_entered k offset None u e = refl
was_entered k offset (Some f) u e = absurd cc

was_refused :
    (k offset : ℕ) (r : Option AccountFault) (fault : JournalFault) →
    Err fault ≡ answer_of_entry offset r →
    refusal_at k offset r ≡ record { number = k; fault = fault } ∷ []
was_refused k offset None fault e = absurd cc
was_refused k offset (Some f) fault e = cc

module _ {s : Tariff} {bs rs : List ℕ} {before a : State} {refusals : List Refusal} {n room i k : ℕ}
    (t : Sofar s bs rs before a refusals n room i k)
  where
    -- there is room for one refusal more
    pub has_room : i ≤ length rs → n < room
    has_room inside = let same = ap length t.same in omega (arith, t.long, t.few, t.enough)

    pub number_fits : i ≤ length rs → k ≤ length bs + 1
    number_fits inside = let same = ap length t.same in omega (arith, t.long)

    -- where no record is left
    pub ended : Ok None ≡ read_at i (answer_at rs i) → Played s bs before a refusals
    ended e =
        subst (Played s bs before a) (append-nil refusals)
        (t.rest [] None (was_read i (answer_at rs i) None e))

    -- where the next cannot be read
    pub unread :
        {all : List Refusal} {number : ℕ} {fault : JournalFault} →
        Err fault ≡ read_at i (answer_at rs i) → number ≡ k →
        all ≡ refusals ++ record { number = number; fault = fault } ∷ [] → Played s bs before a all
    unread {all} {number} {fault} e this is =
        let was = was_unread i (answer_at rs i) fault e in
        rw (is, this, was.2 k) (t.rest [] (Some was.0) was.1)

    module _ {rs' : List ℕ} {a' : State} {all : List Refusal} {n' room' j l : ℕ} (p : Located)
        (read : Ok (Some p) ≡ read_at i (answer_at rs i)) (same : rs' ≡ rs)
        (on : j ≡ offset_after rs i) (left : a' ≡ state_after s (call_of p.«record») a)
        (next : l ≡ k + 1)
      where
        -- one record more, with its refusals
        on_by :
            (more : List Refusal) →
            refusal_at k p.offset (refusal_by s (call_of p.«record») a) ≡ more →
            all ≡ refusals ++ more → n' ≤ n + 1 → room ≤ room' →
            Sofar s bs rs' before a' all n' room' j l
        on_by more of is one_more as_much =
            let e : answer_at rs i ≡ Ok (Some p) = was_read i (answer_at rs i) (Some p) read in
            let behind_it : j ≡ i + record_length p.«record» = on ∙ ap (offset_behind i) e in
            record {
              same = same ∙ t.same;
              long = omega (arith, t.long, five_at_least p.«record»);
              few = omega (arith, t.few);
              enough = omega (arith, t.enough);
              rest = λ ps end h.
                  let given = subst (λ (m : ℕ). Gives rs m ps end) on
                  (subst (λ (b : List ℕ). Gives b j ps end) same h) in
                  let goes_on = refusals_of s (k + 1) (i + record_length p.«record»)
                  (state_after s (call_of p.«record») a) ps end in
                  rw (is, left, next, behind_it) (subst
                  (Played s bs before (account_after s (state_after s (call_of p.«record») a) ps))
                  (joined goes_on) (t.rest (p ∷ ps) end (e, given)));
            }
          where
            joined :
                (l : List Refusal) →
                refusals ++ (refusal_at k p.offset (refusal_by s (call_of p.«record») a) ++ l) ≡
                (refusals ++ more) ++ l
            joined l = rw of (sym (append_assoc refusals more l))

        pub accepted_on :
            {u : Unit {0}} → Ok u ≡ answer_of_entry p.offset (refusal_by s (call_of p.«record») a) →
            all ≡ refusals → n' ≡ n → room ≤ room' → Sofar s bs rs' before a' all n' room' j l
        accepted_on answered is none as_much =
            on_by [] (was_entered k p.offset _ _ answered) (is ∙ sym (append-nil refusals))
            (omega arith) as_much

        pub refused_on :
            {number : ℕ} {fault : JournalFault} →
            Err fault ≡ answer_of_entry p.offset (refusal_by s (call_of p.«record») a) → number ≡ k →
            all ≡ refusals ++ record { number = number; fault = fault } ∷ [] → n' ≡ n + 1 →
            room ≤ room' → Sofar s bs rs' before a' all n' room' j l
        refused_on {number} {fault} answered this is one_more as_much =
            on_by (record { number = number; fault = fault } ∷ [])
            (rw this (was_refused k p.offset _ fault answered)) is (omega arith) as_much
