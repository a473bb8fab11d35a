use Rattle.std.proofs.Common.{◌≡◌, ◌++◌, drop, string_bytes}
use Rattle.report.specs.Late.{after_charges, charges_text}
use Rattle.report.proofs.late.write_charges.Given as goal

abbrev pub invariant-loop-number : goal.invariant-loop-number
invariant-loop-number g l =
    let s = g.S.Schedule.tariff l.initial.account.schedule in
    let left = drop l.number-index l.numbers in
    record {
      schedule : l.account.schedule ≡ l.initial.account.schedule;
      rows :
          string_bytes l.text ++ charges_text s left l.account.state ≡
          string_bytes l.initial.text ++ charges_text s l.numbers l.initial.account.state;
      after :
          after_charges s left l.account.state ≡
          after_charges s l.numbers l.initial.account.state;
    }
