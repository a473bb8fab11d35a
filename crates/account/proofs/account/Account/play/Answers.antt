use Rattle.std.proofs.Common.{ℕ, List, Bor, refl, ap, arith, rules}
use Rattle.ledger.proofs.Law.{runs_add_up}
use Rattle.account.proofs.Turns.{accepted_on, ended, has_room, number_fits, refused_on, start}
use Rattle.account.proofs.Turns.{unread}
use Rattle.account.proofs.account.Account.play.Goals as goal
use Rattle.account.proofs.account.Account.play.Goals.{in-None, in-Some+in-Ok-None, in-Some+in-Err}

pub loop-number-init : goal.loop-number-init
loop-number-init g c = record {
  schedule = refl;
  turn =
      start c.new-reader.ensures.bytes c.in_ok-refusals.ensures.items c.in_ok-refusals.ensures.len
      c.in_ok-refusals.ensures.capacity c.new-reader.ensures.offset (search rules);
}

pub unwrap-requires : goal.unwrap-requires
unwrap-requires g c =
    c.push.ensures.succeeds (has_room c.loop-number.invariant.turn c.loop-number.reader.inside)

pub loop-number-preserved-in-Err-enter_located : goal.loop-number-preserved-in-Err-enter_located
loop-number-preserved-in-Err-enter_located g c =
    let told = rw c.loop-number.invariant.schedule at c.in-Err-enter_located.ensures in
    let steps = c.in-Some.ensures.steps in
    record {
      schedule = told.schedule;
      turn =
          refused_on c.loop-number.invariant.turn c.in-Ok-Some.located (search rules)
          (ap (λ (bytes : Bor (List ℕ)). bytes.now) c.next_record.ensures.same)
          c.next_record.ensures.moves told.leaves (omega (arith, steps))
          told.answers steps.0 (rw c.unwrap.ensures at c.push.ensures.items)
          (rw c.unwrap.ensures at c.push.ensures.len) c.push.ensures.capacity;
    }

pub loop-number-preserved : goal.loop-number-preserved
loop-number-preserved g c =
    let told = rw c.loop-number.invariant.schedule at c.in_default.ensures in
    record {
      schedule = told.schedule;
      turn =
          accepted_on c.loop-number.invariant.turn c.in-Ok-Some.located (search rules)
          (ap (λ (bytes : Bor (List ℕ)). bytes.now) c.next_record.ensures.same)
          c.next_record.ensures.moves told.leaves (omega (arith, c.in-Some.ensures.steps))
          told.answers refl refl (omega arith);
    }

pub unwrap-requires-in-Err : goal.unwrap-requires-in-Err
unwrap-requires-in-Err g c =
    c.push-in-Err.ensures.succeeds (has_room c.loop-number.invariant.turn
    c.loop-number.reader.inside)

pub returns-clause-schedule : goal.returns-clause-schedule
returns-clause-schedule g c = c.loop-number.invariant.schedule

pub returns-clause-played : goal.returns-clause-played
returns-clause-played g c =
    let t = c.loop-number.invariant.turn in
    elim c.match-next.branch [
      | in-None w ↦ absurd (omega (
        arith,
        number_fits t c.loop-number.reader.inside,
        w.in-None.ensures.steps.0,
      ))
      | in-Some+in-Ok-None w ↦ rw w.refusals-is (ended t (cc w.in-Ok-None.ensures.answers))
      | in-Some+in-Err w ↦ rw w.refusals-is (unread t w.in-Err.ensures.answers
          w.in-Some.ensures.steps.0 (rw w.unwrap-in-Err.ensures at w.push-in-Err.ensures.items))
    ]

pub returns-in_err-refusals-clause-law : goal.returns-in_err-refusals-clause-law
returns-in_err-refusals-clause-law g c = runs_add_up

pub returns-clause-law : goal.returns-clause-law
returns-clause-law g c = runs_add_up
