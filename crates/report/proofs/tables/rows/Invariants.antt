use Rattle.std.proofs.Common.{◌≡◌, ◌++◌, drop, string_bytes}
use Rattle.gas.specs.Facts.{facts_of}
use Rattle.report.specs.Prices.{table_text}
use Rattle.report.proofs.tables.rows.Given as goal

abbrev pub invariant-loop-item : goal.invariant-loop-item
invariant-loop-item g l =
    string_bytes l.text ++ table_text l.case ((g.S.Schedule.tariff l.schedule).price
    (facts_of l.facts)) (drop l.item-index l.items) ≡
    string_bytes l.initial.text ++ table_text l.case
    ((g.S.Schedule.tariff l.schedule).price (facts_of l.facts)) l.items
