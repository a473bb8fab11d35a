-- What the program prints: a header, and of a month on a schedule a row for each item.
use Rattle.std.specs.Prelude.{ℕ, List, ◌++◌, ℤ, Ok, Err, codes, decimal, flat_map}
use Rattle.std.specs.Fmt.{signed_decimal}
use Rattle.gas.specs.declared.items.Item.{Item}
use Rattle.gas.specs.declared.items.PriceValues.{PriceValues}
use Rattle.gas.specs.declared.items.ScheduleFault.{ScheduleFault}
use Rattle.gas.specs.Faults.{schedule_values}
use Rattle.gas.specs.Facts.{MonthFacts}
use Rattle.gas.specs.Items.{all_items, item_number}
use Rattle.gas.specs.Limits.{Answer}

-- what the fields of a row are
abbrev pub header : List ℕ
header = codes "case item millicents"

-- the case, the item and its amount
abbrev pub amount_text : ℕ → Item → ℤ → List ℕ
amount_text n item z =
    decimal n ++ (codes " " ++ (decimal (item_number item) ++ (codes " " ++ signed_decimal z)))

-- a fault's number, month, item and layer
abbrev pub values_text : ℕ × PriceValues → List ℕ
values_text v =
    decimal v.0 ++ (codes " " ++
    (decimal v.1.month ++ (codes " " ++ (decimal v.1.item ++ (codes " " ++ decimal v.1.layer)))))

-- the case, the item and the fault
abbrev pub refusal_text : ℕ → Item → ScheduleFault → List ℕ
refusal_text n item fault =
    decimal n ++ (codes " " ++ (decimal (item_number item) ++ (codes " refused " ++
    values_text (schedule_values fault))))

-- the amount, or the fault
abbrev pub answer_text : ℕ → Item → Answer → List ℕ
answer_text n item (Ok z) = amount_text n item z
answer_text n item (Err fault) = refusal_text n item fault

-- a row for each item, each ended by a newline
abbrev pub table_text : ℕ → (Item → Answer) → List Item → List ℕ
table_text n price items = flat_map (λ item. answer_text n item (price item) ++ codes "\n") items

-- what a schedule answers for a month's facts and an item
abbrev pub Price : Type 0
Price = MonthFacts → Item → Answer

-- the table of a case: what its schedule answers for each of the ten items of a month
unfoldable pub case_text : ℕ → Price → MonthFacts → List ℕ
case_text number price month = table_text number (price month) all_items
