use Rattle.std.proofs.Common.{◌≡◌, take}
use Rattle.ledger.specs.Days.{net_therms}
use Rattle.book.proofs.therms.net_therms.Given as goal

abbrev pub invariant-loop-day : goal.invariant-loop-day
invariant-loop-day l = l.sum.count ≡ net_therms (take l.day-index l.days)
