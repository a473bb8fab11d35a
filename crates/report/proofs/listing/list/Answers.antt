use Rattle.std.proofs.Common.{arith}
use Rattle.report.proofs.Turns.{few, ended, refused}
use Rattle.report.proofs.listing.list.Goals as goal
use Rattle.report.proofs.listing.list.Goals.{in-None, in-Some+in-Ok-None}
use Rattle.report.proofs.listing.list.Goals.{in-Some+in-Err+in_ok-writeln-in-Err}

pub returns : goal.returns
returns c =
    let s = c.loop-number.invariant in
    elim c.match-next.branch [
      | in-None w ↦ absurd (omega (
        arith,
        few _ _ _ _ _ s c.loop-number.reader.inside,
        w.in-None.ensures.steps.0,
      ))
      | in-Some+in-Ok-None w ↦ rw w.text-is (ended _ _ _ _ _ s (cc w.in-Ok-None.ensures.answers))
      | in-Some+in-Err+in_ok-writeln-in-Err w ↦ rw w.text-is
          (refused _ _ _ _ _ _ _ _ s w.in-Err.ensures.answers w.in-Some.ensures.steps.0
          w.in_ok-writeln-in-Err.ensures.bytes)
    ]
