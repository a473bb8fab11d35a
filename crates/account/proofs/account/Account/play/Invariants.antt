use Rattle.std.proofs.Common.{◌≡◌, vec_len}
use Rattle.std.specs.Vec.{vec_capacity}
use Rattle.account.proofs.Turns.{Sofar}
use Rattle.account.proofs.account.Account.play.Given as goal

abbrev pub invariant-loop-number : goal.invariant-loop-number
invariant-loop-number g l = record {
  schedule : l.self.schedule ≡ l.fn.self.schedule;
  turn :
      Sofar (g.S.Schedule.tariff l.fn.self.schedule) l.journal l.reader.bytes.now l.fn.self.state
      l.self.state l.refusals.items (vec_len l.refusals)
      (vec_capacity l.refusals) l.reader.at l.number-iterator.start;
}
