use Rattle.std.proofs.Common.{◌≡◌, ◌≤◌, length, take}
use Rattle.ledger.specs.Days.{posted_days}
use Rattle.book.proofs.days.posted_count.Given as goal

abbrev pub invariant-loop-place : goal.invariant-loop-place
invariant-loop-place l = record {
  is : l.count ≡ length (posted_days (take l.place-index l.places));
  few : l.count ≤ l.place-index;
}
