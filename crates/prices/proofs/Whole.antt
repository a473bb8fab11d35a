-- The months of the cases by their facts, and the texts put together.
use Rattle.std.proofs.Common.{◌≡◌, ℕ, List, [], ◌++◌, map, codes, Some, None, Ok, Option, ap, ◌∙◌}
use Rattle.std.proofs.Common.{append_assoc}
use Rattle.gas.specs.declared.day.DayRecord.{DayRecord}
use Rattle.gas.specs.declared.facts.MonthNumbers.{MonthNumbers}
use Rattle.gas.specs.Day.{numbers_of}
use Rattle.gas.specs.Facts.{MonthFacts, checked_facts, tests_of_facts}
use Rattle.gas.specs.Inputs.{first_failure, answer_unless}
use Rattle.prices.specs.declared.days.Pattern.{Pattern}
use Rattle.prices.specs.Months.{Grows, IsMonth, PrintsAll, PrintsFull, PrintsMixed, PrintsSpring}
use Rattle.prices.specs.Months.{PrintsStacked}
use Rattle.prices.specs.Patterns.{days_to}
use Rattle.report.specs.Prices.{header}

passed : {A F : Type 0} (o : Option F) (f g : A) → Ok f ≡ answer_unless o (Ok g) → f ≡ g
passed None f g e = cc
passed (Some x) f g e = cc

-- facts that were taken have the numbers and the days that they were made of
pub is_month :
    (numbers : MonthNumbers) (days : List DayRecord) (pattern : Pattern) (n : ℕ) (f : MonthFacts) →
    Ok f ≡ checked_facts (record { numbers = numbers; days = days }) →
    map numbers_of days ≡ days_to pattern n → IsMonth numbers pattern n f
is_month numbers days pattern n f taken are =
    let same : f ≡ record { numbers = numbers; days = days } = passed
    (first_failure (tests_of_facts (record { numbers = numbers; days = days }))) f _ taken in (
      ap (λ (x : MonthFacts). x.numbers) same,
      ap (λ (x : MonthFacts). map numbers_of x.days) same ∙
          are,
    )

-- a text that was empty, grown by the header and then by all cases
pub all_printed :
    (none head one two three four : List ℕ) → none ≡ [] → head ≡ none ++ (header ++ codes "\n") →
    Grows PrintsMixed head one → Grows PrintsFull one two → Grows PrintsSpring two three →
    Grows PrintsStacked three four → PrintsAll four
all_printed none head one two three four empty first (mixed, is_mixed, e1) (full, is_full, e2)
    (spring, is_spring, e3) (stacked, is_stacked, e4) = (
      mixed,
      full,
      spring,
      stacked,
      is_mixed,
      is_full,
      is_spring,
      is_stacked,
      rw
          (e4, e3, e2, e1, first, empty) (simp append_assoc),
    )
