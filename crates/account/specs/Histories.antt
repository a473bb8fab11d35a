-- What the law says of an account in hand.
use Rattle.std.specs.Prelude.{ℤ}
use Rattle.gas.specs.Tariffs.{Tariff}
use Rattle.ledger.specs.Runs.{AddsUp, History, Run, known_year}
use Rattle.account.specs.Holdings.{Holding}

-- by every history that has made an account, the law holds of it, with the therms it says are open
abbrev pub AddsUpByItsHistories : {S : Type 0} → (S → Tariff) → Holding S → ℤ → Type 0
AddsUpByItsHistories tariff a still_open =
    let s : Tariff = tariff a.schedule in
    (h : History) → Run s h a.state → AddsUp s (known_year h) a.state still_open
