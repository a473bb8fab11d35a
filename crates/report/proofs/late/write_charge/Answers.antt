use Rattle.std.proofs.Common.{◌≡◌, Some, ap, sym, ◌∙◌}
use Rattle.std.specs.Result.{result_err}
use Rattle.ledger.specs.Calls.{late_charge}
use Rattle.ledger.specs.Runs.{refusal_by}
use Rattle.report.proofs.late.write_charge.Goals as goal

pub returns-in_ok-writeln-clause-row : goal.returns-in_ok-writeln-clause-row
returns-in_ok-writeln-clause-row g c =
    let is : refusal_by (g.S.Schedule.tariff c.args.account.now.schedule)
    (late_charge c.args.number) c.args.account.now.state ≡ Some c.in-Err.fault = sym
    c.charge_late.ensures.step.0
    ∙ ap result_err c.in-Err.is in
    rw (is, ← c.number.ensures) c.in_ok-writeln.ensures.bytes
