-- The months that are priced, and all that the program prints.
use Rattle.std.specs.Prelude.{◌≡◌, ℕ, List, ◌++◌, codes, map}
use Rattle.gas.specs.declared.day.DayKind.TheVariants.{Critical, Normal}
use Rattle.gas.specs.declared.facts.MonthNumbers.{MonthNumbers}
use Rattle.gas.specs.Day.{numbers_of}
use Rattle.gas.specs.Facts.{MonthFacts}
use Rattle.prices.specs.declared.days.Pattern.{Pattern}
use Rattle.prices.specs.declared.days.Pattern.TheVariants.{Full, Idle, Mixed}
use Rattle.prices.specs.Cases.{mixed_text, refusals_text, seasons_text, stacks_text}
use Rattle.prices.specs.Patterns.{days_to}
use Rattle.report.specs.Prices.{header}

-- the facts of a month have its numbers, and as its days the first n of a pattern
abbrev pub IsMonth : MonthNumbers → Pattern → ℕ → MonthFacts → Type 0
IsMonth numbers pattern n f = (f.numbers ≡ numbers) × (map numbers_of f.days ≡ days_to pattern n)

-- a month's number, its X, Y and Z, the increase, and the day of the gas year's first unauthorized
-- use, or 0
abbrev pub numbers : ℕ → ℕ → ℕ → ℕ → ℕ → ℕ → MonthNumbers
numbers month x y z increase first = record {
  month = month;
  closing = record { index = x; interruptible = y; firm = z };
  increase = increase;
  first = first;
}

-- a November with an increase, in which the fifth is the first unauthorized day
abbrev pub IsNovember : MonthFacts → Type 0
IsNovember f = IsMonth (numbers 0 30001 1000 1200 137 5) (Mixed 1000) 30 f

-- a May without either
abbrev pub IsMay : MonthFacts → Type 0
IsMay f = IsMonth (numbers 6 25003 900 1100 0 0) (Mixed 900) 31 f

-- a December at the highest increase, by the pattern of its days
abbrev pub IsDecember : Pattern → MonthFacts → Type 0
IsDecember pattern f = IsMonth (numbers 1 30000 1000 1000 1000 0) pattern 31 f

-- a March, the last month of winter rates
abbrev pub IsMarch : MonthFacts → Type 0
IsMarch f = IsMonth (numbers 4 28000 950 1150 50 0) (Mixed 1000) 31 f

-- an April, the first of the others
abbrev pub IsApril : MonthFacts → Type 0
IsApril f = IsMonth (numbers 5 28000 950 1150 50 0) (Mixed 930) 30 f

-- the cases of the mixed November and May
abbrev pub PrintsMixed : List ℕ → Type 0
PrintsMixed text =
    (november may : MonthFacts) × IsNovember november × IsMay may × (text ≡ mixed_text november may)

-- those of the full December, once critical and once normal
abbrev pub PrintsFull : List ℕ → Type 0
PrintsFull text =
    (critical normal : MonthFacts) × IsDecember (Full Critical) critical ×
    IsDecember (Full Normal) normal × (text ≡ refusals_text critical normal)

-- those of March and April
abbrev pub PrintsSpring : List ℕ → Type 0
PrintsSpring text =
    (march april : MonthFacts) × IsMarch march × IsApril april × (text ≡ seasons_text march april)

-- those of November once more, and of an idle December
abbrev pub PrintsStacked : List ℕ → Type 0
PrintsStacked text =
    (november idle : MonthFacts) × IsNovember november ×
    IsDecember Idle idle × (text ≡ stacks_text november idle)

-- a text that has grown by one that is printed
abbrev pub Grows : (List ℕ → Type 0) → List ℕ → List ℕ → Type 0
Grows Prints before after = (more : List ℕ) × Prints more × (after ≡ before ++ more)

-- everything: the header, and then all cases
abbrev pub PrintsAll : List ℕ → Type 0
PrintsAll text =
    (mixed full spring stacked : List ℕ) × PrintsMixed mixed × PrintsFull full ×
    PrintsSpring spring × PrintsStacked stacked ×
    (text ≡ header ++ (codes "\n" ++ (mixed ++ (full ++ (spring ++ stacked)))))
