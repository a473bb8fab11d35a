use Rattle.std.proofs.Common.{◌≡◌, ◌++◌, flat_map, string_bytes}
use Rattle.std.specs.List.{range_with_len}
use Rattle.report.specs.Statements.{titled_text}
use Rattle.report.proofs.months.write_months.Given as goal

abbrev pub invariant-loop-month : goal.invariant-loop-month
invariant-loop-month g l =
    string_bytes l.text ≡
    string_bytes l.initial.text ++
    flat_map (titled_text l.account.state.lines) (range_with_len 0 l.month)
