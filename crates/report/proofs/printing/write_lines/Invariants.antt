use Rattle.std.proofs.Common.{◌≡◌, ◌+◌, ◌++◌, drop, string_bytes}
use Rattle.ledger.specs.Statements.{numbered}
use Rattle.report.specs.Rows.{lines_text}
use Rattle.report.proofs.printing.write_lines.Given as goal

abbrev pub invariant-loop-index : goal.invariant-loop-index
invariant-loop-index g l =
    string_bytes l.text ++
    lines_text (numbered (l.index + 1) (drop l.index l.account.state.lines)) ≡
    string_bytes l.initial.text ++ lines_text (numbered 1 l.account.state.lines)
