use Rattle.std.proofs.Common.{◌≡◌, ◌++◌, drop, string_bytes}
use Rattle.report.specs.Rows.{refusals_text}
use Rattle.report.proofs.printing.write_refusals.Given as goal

abbrev pub invariant-loop-refusal : goal.invariant-loop-refusal
invariant-loop-refusal l =
    string_bytes l.text ++ refusals_text (drop l.refusal-index l.refusals) ≡ string_bytes
    l.initial.text ++ refusals_text l.refusals
