-- The number by which each refusal is known.
use Rattle.std.specs.Prelude.{ℕ}
use Rattle.gas.specs.declared.faults.InputFault.{InputFault}
use Rattle.gas.specs.declared.faults.InputFault.TheVariants.{Month, Day, DayKind, Mark, Quantity}
use Rattle.gas.specs.declared.faults.InputFault.TheVariants.{Share, Payment, GasYear, DayCount}
use Rattle.gas.specs.declared.items.PriceValues.{PriceValues}
use Rattle.gas.specs.declared.items.ScheduleFault.{ScheduleFault}
use Rattle.gas.specs.declared.items.ScheduleFault.TheVariants.{PastLimit}
use Rattle.gas.specs.Items.{item_number, layer_number}

-- 3: a month above 11, or a first interim month after the last. 4: a day that the month does not
-- have. 5: a day kind above 3. 6: a mark above 1. 7: a quantity, a rate or a base level past its
-- limit. 8: a per mille above 1,000 or a percentage past its limit. 9: a payment of 0 or above
-- 10^13.
-- 11: a gas year that starts outside 2020 to 2026. 25: too few or too many days for a month.
abbrev pub input_number : InputFault → ℕ
input_number Month = 3
input_number Day = 4
input_number DayKind = 5
input_number Mark = 6
input_number Quantity = 7
input_number Share = 8
input_number Payment = 9
input_number GasYear = 11
input_number DayCount = 25

-- 28, with the month, the item and the layer at which the amount passed its limit
abbrev pub schedule_values : ScheduleFault → ℕ × PriceValues
schedule_values (PastLimit month item layer) =
    (28, record { month = month; item = item_number item; layer = layer_number layer })

-- the first of these
abbrev pub schedule_number : ScheduleFault → ℕ
schedule_number f = (schedule_values f).0
