use Rattle.std.proofs.Common.{◌≡◌, ◌+◌, Ok, string_bytes}
use Rattle.ledger.specs.Questions.{numbered_line}
use Rattle.report.proofs.Numbered.{one_more}
use Rattle.report.proofs.printing.write_lines.Goals as goal

pub loop-index-preserved : goal.loop-index-preserved
loop-index-preserved g c =
    let is : numbered_line c.args.account.now.state.lines
    (c.loop-index.index + 1) ≡ Ok c.unwrap-line.result = cc in
    one_more c.args.account.now.state.lines _ (string_bytes c.loop-index.text)
    (string_bytes c.writeln.new.self) c.loop-index.index c.unwrap-line.result
    c.loop-index.invariant is c.in_ok-writeln.ensures.bytes
