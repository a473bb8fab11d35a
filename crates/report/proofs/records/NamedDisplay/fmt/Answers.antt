use Rattle.std.proofs.Common.{append_assoc, append-nil}
use Rattle.std.proofs.Output.{has_written_of_eq}
use Rattle.report.proofs.records.NamedDisplay.fmt.Goals as goal

pub returns-clause-writes : goal.returns-clause-writes
returns-clause-writes g c =
    λ plain ok. has_written_of_eq g.W.Write.write_str_gives _ _ _ _
    (simp (append_assoc, append-nil)) (c.write.ensures.writes plain ok)
