-- The seven calls of an account, and the one outcome of each.
use Rattle.std.specs.Prelude.{ℕ, ◌+◌, Bool, if◌then◌else◌, not, ◌&&◌, List, [], ◌∷◌, ◌++◌, length}
use Rattle.std.specs.Prelude.{map, pos, neg_ℤ, is_some, Some, None, Ok, Err, Result, ◌==◌, nat_le}
use Rattle.std.specs.Prelude.{nat_lt, slice_index_or, slice_set}
use Rattle.std.specs.Int.{is_in_range}
use Rattle.std.specs.List.{push}
use Rattle.std.specs.Result.{result_map_both}
use Rattle.gas.specs.declared.calendar.TheConstants.{LAST_MONTH}
use Rattle.gas.specs.declared.day.DayNumbers.{DayNumbers}
use Rattle.gas.specs.declared.day.DayRecord.{DayRecord}
use Rattle.gas.specs.declared.faults.InputFault.{InputFault}
use Rattle.gas.specs.declared.faults.InputFault.TheVariants as input
use Rattle.gas.specs.declared.items.ScheduleFault.{ScheduleFault}
use Rattle.gas.specs.declared.month.ClosingNumbers.{ClosingNumbers}
use Rattle.gas.specs.declared.units.TheConstants.{MOST_PER_MILLE}
use Rattle.gas.specs.Calendar.{month_length}
use Rattle.gas.specs.Inputs.{first_failure, is_lawful_closing, tests_of_day, answer_unless}
use Rattle.ledger.specs.declared.faults.AccountFault.{AccountFault}
use Rattle.ledger.specs.declared.faults.AccountFault.TheVariants as fault
use Rattle.ledger.specs.declared.lines.Heading.TheVariants as heading
use Rattle.ledger.specs.declared.lines.Line.{Line}
use Rattle.ledger.specs.declared.lines.TheConstants.{MOST_LINES, MOST_PAID}
use Rattle.gas.specs.Made.{day_of}
use Rattle.ledger.specs.Days.{Places, is_complete, place_of}
use Rattle.ledger.specs.Due.{lines_due_in}
use Rattle.ledger.specs.Headings.{line_of}
use Rattle.ledger.specs.Late.{late_line, late_tests}
use Rattle.gas.specs.Tariffs.{Tariff}
use Rattle.ledger.specs.Year.{Opening, Settlement, Year, is_opened, is_settled, opening_of, running}
use Rattle.ledger.specs.Year.{settled, unknown_year}

-- a call with its numbers as they came, lawful or not
pub data Call : Type 0 where
  -- the leap mark, and what is said of the interim rate
  opening : ℕ → Opening → Call
  -- the month, the day, and what the day is
  posting : ℕ → ℕ → DayNumbers → Call
  correction : ℕ → ℕ → DayNumbers → Call
  -- the month, and what closes it
  closing : ℕ → ClosingNumbers → Call
  -- what is paid
  payment : ℕ → Call
  -- the final increase and the interest
  settling : Settlement → Call
  -- the number of the line up to which lines were due
  late_charge : ℕ → Call

-- an account, by what it knows and what it has written: the year as known, the lines, and the
-- number of the last line charged for, up to which the last late charge was made; 0 where none was
pub record State : Type 0 where
  pub year : Year
  pub lines : List Line
  pub charged : ℕ

-- tests in their order, each with the refusal where it fails
abbrev pub Tests : Type 0
Tests = List (Bool × AccountFault)

-- a test of the input, with its refusal
abbrev pub input_test : Bool → InputFault → Bool × AccountFault
input_test ok f = (ok, fault.Input f)

-- the test that an account is opened, with its refusal
abbrev pub opened_test : State → Bool × AccountFault
opened_test a = (is_opened a.year.standing, fault.NotOpened)

-- the tests of an opening's numbers: of the interim months the last is 11 at most, and the first
-- does not come after it; then the leap mark, and the increase
abbrev pub opening_input : ℕ → Opening → Tests
opening_input leap o =
    input_test (nat_le o.last LAST_MONTH && nat_le o.first o.last) input.Month ∷
    input_test (nat_le leap 1) input.Mark ∷
    input_test (nat_le o.increase MOST_PER_MILLE) input.Share ∷ []

-- the test of a settlement's numbers: the final increase and the interest are each at most 1,000
abbrev pub settlement_input : Settlement → Bool × AccountFault
settlement_input t =
    input_test
    (nat_le t.final_increase MOST_PER_MILLE && nat_le t.interest MOST_PER_MILLE) input.Share

-- the tests of a day's numbers: a month, a day of it, and what the day was
abbrev pub day_input : Bool → ℕ → ℕ → DayNumbers → Tests
day_input leap month day n =
    input_test (nat_le month LAST_MONTH) input.Month ∷
    input_test (is_in_range 1 (month_length leap month) day) input.Day ∷
    map (λ t. input_test t.0 t.1) (tests_of_day n)

-- the tests of a posting or a correction, of which the last is whether the day is posted or is not
abbrev pub day_tests : State → ℕ → ℕ → DayNumbers → Bool × AccountFault → Tests
day_tests a month day n stands = opened_test a ∷ push (day_input a.year.leap month day n) stands

-- a record stands at the place of a day
abbrev pub is_posted : Year → ℕ → ℕ → Bool
is_posted y month day = is_some (slice_index_or y.days (place_of month day) None)

-- first whether the account is opened, then what is wrong with the input, lowest number first, then
-- what else the state refuses, likewise; so of a late charge the room for its line is tested before
-- what is owed
abbrev pub tests : Call → State → Tests
tests (opening leap o) a =
    (not (is_opened a.year.standing), fault.OpenedAlready) ∷ opening_input leap o
tests (posting month day n) a =
    day_tests a month day n (not (is_posted a.year month day), fault.PostedAlready)
tests (correction month day n) a =
    day_tests a month day n (is_posted a.year month day, fault.NotPosted)
tests (closing month numbers) a =
    opened_test a ∷ input_test (nat_le month LAST_MONTH) input.Month ∷
    input_test (is_lawful_closing numbers) input.Quantity ∷
    ((month == length a.year.closings), fault.NotEarliest) ∷
    (is_complete a.year.leap a.year.days month, fault.LacksDay) ∷ []
tests (payment amount) a =
    opened_test a ∷ input_test (is_in_range 1 MOST_PAID amount) input.Payment ∷ []
tests (settling t) a =
    opened_test a ∷ settlement_input t ∷
    (not (is_settled a.year.standing), fault.SettledAlready) ∷
    (nat_lt (opening_of a.year.standing).last (length a.year.closings), fault.InterimOpen) ∷ []
tests (late_charge k) a =
    opened_test a ∷ (nat_lt (length a.lines) MOST_LINES, fault.NoRoom) ∷
    push (late_tests k a.lines) (nat_lt a.charged k, fault.ChargedAlready)

-- the days with one more or another record
abbrev pub days_with : Result DayRecord InputFault → Places → ℕ → Places
days_with (Ok day) days place = slice_set days place (Some day)
days_with (Err e) days place = days

-- a year with the record of a day, posted or put in another's place
abbrev pub with_day : Year → ℕ → ℕ → DayNumbers → Year
with_day y month day n =
    record y { days = days_with (day_of n) y.days (place_of month day) }

-- the year as known after a call that was accepted
-- an opening begins it; nothing is known of an account that is not opened, so its arguments are all
-- that an opening puts down
abbrev pub year_after : Call → Year → Year
year_after (opening leap o) y =
    record unknown_year { standing = running o; leap = (leap == 1) }
year_after (posting month day n) y = with_day y month day n
year_after (correction month day n) y = with_day y month day n
year_after (closing month numbers) y = record y { closings = push y.closings numbers }
year_after (payment amount) y = y
year_after (settling t) y = record y { standing = settled (opening_of y.standing) t }
year_after (late_charge k) y = y

-- the last line charged for after a call that was accepted; a late charge alone changes it
abbrev pub charged_after : Call → ℕ → ℕ
charged_after (opening leap o) charged = charged
charged_after (posting month day n) charged = charged
charged_after (correction month day n) charged = charged
charged_after (closing month numbers) charged = charged
charged_after (payment amount) charged = charged
charged_after (settling t) charged = charged
charged_after (late_charge k) charged = k

-- the fault of a price, as the account's refusal
abbrev pub by_account : {A : Type 0} → Result A ScheduleFault → Result A AccountFault
by_account r = result_map_both (λ a. a) fault.Schedule r

-- what is known after a call that was accepted, before it has written its lines
abbrev pub known_after : Call → State → State
known_after c a =
    record a { year = year_after c a.year; charged = charged_after c a.charged }

-- the lines that a call writes, in an account in which what the call says is known; or the fault of
-- a price
abbrev pub lines_of_call : Tariff → Call → State → Result (List Line) AccountFault
lines_of_call s (opening leap o) a = Ok []
lines_of_call s (posting month day n) a = Ok []
lines_of_call s (correction month day n) a = by_account (lines_due_in s a.year a.lines)
lines_of_call s (closing month numbers) a = by_account (lines_due_in s a.year a.lines)
lines_of_call s (payment amount) a =
    Ok (line_of heading.Payment (pos 0) (neg_ℤ (pos amount)) ∷ [])
lines_of_call s (settling t) a = by_account (lines_due_in s a.year a.lines)
lines_of_call s (late_charge k) a = Ok (late_line k a.lines ∷ [])

-- the account with some lines more; refused by the fault of a price, else where there is no room
-- for all of them
abbrev pub with_lines : State → Result (List Line) AccountFault → Result State AccountFault
with_lines a (Ok more) =
    if nat_le (length a.lines + length more) MOST_LINES
    then Ok (record a { lines = a.lines ++ more })
    else Err fault.NoRoom
with_lines a (Err e) = Err e

-- the one outcome of a call: the account after it, or its refusal
unfoldable pub outcome : Tariff → Call → State → Result State AccountFault
outcome s c a =
    answer_unless (first_failure (tests c a))
    (with_lines (known_after c a) (lines_of_call s c (known_after c a)))
