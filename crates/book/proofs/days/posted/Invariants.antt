use Rattle.std.proofs.Common.{◌≡◌, ◌≤◌, length, take}
use Rattle.ledger.specs.Days.{posted_days}
use Rattle.book.proofs.days.posted.Given as goal

abbrev pub invariant-loop-place : goal.invariant-loop-place
invariant-loop-place l = record {
  sofar : l.days.items ≡ posted_days (take l.place-index l.places);
  few : length l.days.items ≤ l.place-index;
}
