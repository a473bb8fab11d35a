-- The words of a month.
use Rattle.gas.specs.declared.month.Closing.{Closing}
use Rattle.gas.specs.declared.month.ClosingNumbers.{ClosingNumbers}
use Rattle.gas.specs.declared.month.Totals.{Totals}
use Rattle.gas.specs.declared.month.TotalsNumbers.{TotalsNumbers}

-- the three numbers of which a lawful closing was made
abbrev pub closing_numbers : Closing → ClosingNumbers
closing_numbers c =
    record { index = c.index.price; interruptible = c.interruptible.price; firm = c.firm.price }

-- the numbers of which lawful totals were made
abbrev pub totals_numbers : Totals → TotalsNumbers
totals_numbers t = record {
  receipts = t.receipts.count;
  readings = t.readings.count;
  closing = closing_numbers t.closing;
}
