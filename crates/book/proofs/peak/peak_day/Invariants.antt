use Rattle.book.proofs.PeakDays.{LeadsOf}
use Rattle.book.proofs.peak.peak_day.Given as goal

abbrev pub invariant-loop-index : goal.invariant-loop-index
invariant-loop-index l = LeadsOf l.places l.index l.peak
