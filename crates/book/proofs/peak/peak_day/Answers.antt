use Rattle.std.proofs.Common.{arith}
use Rattle.book.proofs.PeakDays.{none_at_end, peak_at_end}
use Rattle.book.proofs.peak.peak_day.Goals as goal

pub returns-in_err-day : goal.returns-in_err-day
returns-in_err-day c =
    rw c.from_residual.ensures (none_at_end c.args.places.now c.loop-index.index c.loop-index.peak
    c.in_err-day.was (omega arith) c.loop-index.invariant)

pub returns : goal.returns
returns c =
    peak_at_end c.args.places.now c.loop-index.index c.loop-index.peak _ c.in_ok-day.was
    (omega arith) c.loop-index.invariant
