-- When a number from outside is taken, and which refusal it gets if not.
use Rattle.std.specs.Prelude.{ℕ, Bool, if◌then◌else◌, ◌&&◌, List, [], ◌∷◌, Some, None, Ok, Err}
use Rattle.std.specs.Prelude.{Option, Result, nat_le}
use Rattle.std.specs.Result.{result_map_both}
use Rattle.gas.specs.declared.calendar.TheConstants.{LAST_MONTH}
use Rattle.gas.specs.declared.day.TheConstants.{MOST_A_DAY}
use Rattle.gas.specs.declared.day.DayNumbers.{DayNumbers}
use Rattle.gas.specs.declared.faults.InputFault.{InputFault}
use Rattle.gas.specs.declared.faults.InputFault.TheVariants.{Month, DayKind, Mark, Quantity, Share}
use Rattle.gas.specs.declared.month.ClosingNumbers.{ClosingNumbers}
use Rattle.gas.specs.declared.month.TotalsNumbers.{TotalsNumbers}
use Rattle.gas.specs.declared.month.TheConstants.{MOST_A_MONTH}
use Rattle.gas.specs.declared.units.TheConstants.{MOST_PER_MILLE, MOST_PER_THERM}

-- an answer by what was read of its value; a refusal stays as it is
abbrev pub answer_by : {A B F : Type 0} → (A → B) → Result A F → Result B F
answer_by f answer = result_map_both f (λ e. e) answer

-- a number that passes its test, or the refusal
abbrev pub value_if : {A F : Type 0} → Bool → F → A → Result A F
value_if ok e a = if ok then Ok a else Err e

-- tests in their order, each with the fault where it fails: the first that fails decides
abbrev pub first_failure : {F : Type 0} → List (Bool × F) → Option F
first_failure [] = None
first_failure (t ∷ ts) = if t.0 then first_failure ts else Some t.1

-- an answer, or the fault for which none is given
abbrev pub answer_unless : {A F : Type 0} → Option F → Result A F → Result A F
answer_unless None r = r
answer_unless (Some f) r = Err f

-- a rate above 2,000,000 is refused with 7
abbrev pub checked_rate : ℕ → Result ℕ InputFault
checked_rate n = value_if (nat_le n MOST_PER_THERM) Quantity n

-- a per mille above 1,000 is refused with 8
abbrev pub checked_per_mille : ℕ → Result ℕ InputFault
checked_per_mille n = value_if (nat_le n MOST_PER_MILLE) Share n

-- a month is 0 to 11; another is refused with 3
abbrev pub checked_month : ℕ → Result ℕ InputFault
checked_month n = value_if (nat_le n LAST_MONTH) Month n

-- a day kind is 0 to 3; another is refused with 5
abbrev pub checked_kind : ℕ → Result ℕ InputFault
checked_kind n = value_if (nat_le n 3) DayKind n

-- a mark is 1 for yes and 0 for no
abbrev pub mark_number : Bool → ℕ
mark_number b = if b then 1 else 0

-- another number is refused with 6
abbrev pub checked_mark : ℕ → Result ℕ InputFault
checked_mark n = value_if (nat_le n 1) Mark n

-- a quantity above its most is refused with 7
abbrev pub checked_therms : ℕ → ℕ → Result ℕ InputFault
checked_therms n most = value_if (nat_le n most) Quantity n

-- nomination, receipts and reading have their most, those after notice are at most the reading, and
-- the cost and the rate are rates
abbrev pub has_lawful_quantities : DayNumbers → Bool
has_lawful_quantities d =
    nat_le d.nomination MOST_A_DAY && (nat_le d.receipts MOST_A_DAY &&
    (nat_le d.reading MOST_A_DAY && (nat_le d.after_notice d.reading &&
    (nat_le d.supply_cost MOST_PER_THERM && nat_le d.variance_rate MOST_PER_THERM))))

-- a day's kind comes first, then its mark, then its quantities
abbrev pub tests_of_day : DayNumbers → List (Bool × InputFault)
tests_of_day d =
    (nat_le d.kind 3, DayKind) ∷ (nat_le d.curtailed 1, Mark) ∷
    (has_lawful_quantities d, Quantity) ∷ []

-- a day that passes its tests, or the refusal of the first that fails
abbrev pub checked_day : DayNumbers → Result DayNumbers InputFault
checked_day d = answer_unless (first_failure (tests_of_day d)) (Ok d)

-- the three numbers that close a month are lawful: each is a rate
abbrev pub is_lawful_closing : ClosingNumbers → Bool
is_lawful_closing c =
    nat_le c.index MOST_PER_THERM &&
    (nat_le c.interruptible MOST_PER_THERM && nat_le c.firm MOST_PER_THERM)

-- other numbers are refused with 7
abbrev pub checked_closing : ClosingNumbers → Result ClosingNumbers InputFault
checked_closing c = value_if (is_lawful_closing c) Quantity c

-- totals above a month's most, or not lawfully closed, are refused with 7
abbrev pub checked_totals : TotalsNumbers → Result TotalsNumbers InputFault
checked_totals t =
    let received : Bool = nat_le t.receipts MOST_A_MONTH in
    let metered : Bool = nat_le t.readings MOST_A_MONTH in
    value_if (received && (metered && is_lawful_closing t.closing)) Quantity t
