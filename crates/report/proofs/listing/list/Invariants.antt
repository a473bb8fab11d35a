use Rattle.std.proofs.Common.{string_bytes}
use Rattle.report.proofs.Turns.{Sofar}
use Rattle.report.proofs.listing.list.Given as goal

abbrev pub invariant-loop-number : goal.invariant-loop-number
invariant-loop-number l =
    Sofar l.journal l.reader.bytes.now (string_bytes l.text) l.reader.at l.number-iterator.start
