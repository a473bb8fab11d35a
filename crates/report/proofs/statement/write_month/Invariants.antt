use Rattle.std.proofs.Common.{◌≡◌, ◌++◌, length, string_bytes}
use Rattle.ledger.specs.Statements.{still_to_give}
use Rattle.report.specs.Rows.{lines_text}
use Rattle.report.proofs.statement.write_month.Given as goal

abbrev pub invariant-loop-line : goal.invariant-loop-line
invariant-loop-line l =
    string_bytes l.text ++ lines_text (still_to_give l.steps) ≡
    string_bytes l.initial.text ++ lines_text (still_to_give l.statement)

abbrev pub decreases-loop-line : goal.decreases-loop-line
decreases-loop-line l = length (still_to_give l.steps)
