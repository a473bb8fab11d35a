-- The number by which each refusal of an account is known, with its values.
use Rattle.std.specs.Prelude.{ℕ, Some, None, Option}
use Rattle.gas.specs.declared.items.PriceValues.{PriceValues}
use Rattle.gas.specs.Faults.{input_number, schedule_values}
use Rattle.ledger.specs.declared.faults.AccountFault.{AccountFault}
use Rattle.ledger.specs.declared.faults.AccountFault.TheVariants.{Input, NotOpened, OpenedAlready}
use Rattle.ledger.specs.declared.faults.AccountFault.TheVariants.{PostedAlready, NotPosted}
use Rattle.ledger.specs.declared.faults.AccountFault.TheVariants.{NotEarliest, LacksDay}
use Rattle.ledger.specs.declared.faults.AccountFault.TheVariants.{SettledAlready, InterimOpen}
use Rattle.ledger.specs.declared.faults.AccountFault.TheVariants.{Schedule, NoRoom, NoLine}
use Rattle.ledger.specs.declared.faults.AccountFault.TheVariants.{NotChargeable, ChargedAlready}

-- 28 comes with the month, the item and the layer at which the amount passed its limit; the others
-- with nothing
abbrev pub account_values : AccountFault → ℕ × Option PriceValues
account_values (Input fault) = (input_number fault, None)
account_values NotOpened = (20, None)
account_values OpenedAlready = (21, None)
account_values PostedAlready = (22, None)
account_values NotPosted = (23, None)
account_values NotEarliest = (24, None)
account_values LacksDay = (25, None)
account_values SettledAlready = (26, None)
account_values InterimOpen = (27, None)
account_values (Schedule fault) =
    let v : ℕ × PriceValues = schedule_values fault in (v.0, Some v.1)
account_values NoRoom = (29, None)
account_values NoLine = (30, None)
account_values NotChargeable = (31, None)
account_values ChargedAlready = (32, None)

-- the number of a refusal alone
abbrev pub account_number : AccountFault → ℕ
account_number f = (account_values f).0
