-- What a call answers and leaves.
use Rattle.std.specs.Prelude.{◌≡◌, OnErr, Result}
use Rattle.std.specs.Result.{result_err}
use Rattle.gas.specs.Tariffs.{Tariff}
use Rattle.ledger.specs.declared.faults.AccountFault.{AccountFault}
use Rattle.ledger.specs.Calls.{Call}
use Rattle.ledger.specs.Runs.{Step}
use Rattle.account.specs.Holdings.{Holding}

-- step: on the tariff of the account's schedule, the answer and what the account then knows and has
--   written are those of the call's outcome
-- schedule: it stays
-- refused: a refused call leaves the whole account as it was; this follows from the two before, as
--   an account has no other part
pub record Called {S : Type 0} (tariff : S → Tariff) (a : Holding S) (c : Call)
    (answer : Result (Unit {0}) AccountFault) (b : Holding S)
    : Type 0 where
  pub step :
      Step (tariff a.schedule) a.state
      (record { call = c; refusal = result_err answer })
      b.state
  pub schedule : b.schedule ≡ a.schedule
  pub refused : OnErr answer (b ≡ a)
