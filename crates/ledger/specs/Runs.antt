-- Whole runs of an account, and the law that holds of each.
-- Words:
-- a history, the calls so far with their answers, the newest first
-- a run, what a new account has become by a history
use Rattle.std.specs.Prelude.{◌≡◌, ℕ, ◌<◌, ◌≤◌, true, false, if◌then◌else◌, List, [], ◌∷◌, length}
use Rattle.std.specs.Prelude.{ℤ, ◌+ℤ◌, Some, None, Ok, Option, ◌==◌, is_some, slice_index_or}
use Rattle.std.specs.Int.{int_min}
use Rattle.std.specs.Result.{result_err, result_unwrap_or}
use Rattle.gas.specs.declared.day.DayRecord.{DayRecord}
use Rattle.gas.specs.declared.items.Item.{Item}
use Rattle.gas.specs.declared.items.Item.TheVariants.{MonthlyBalancing}
use Rattle.gas.specs.Items.{all_items, item_number}
use Rattle.ledger.specs.declared.faults.AccountFault.{AccountFault}
use Rattle.ledger.specs.declared.lines.Heading.TheVariants.{Priced, Refund}
use Rattle.ledger.specs.declared.lines.Line.{Line}
use Rattle.ledger.specs.Calls.{Call, State, year_after, outcome}
use Rattle.ledger.specs.Days.{IsDayPlace, net_therms, posted_days}
use Rattle.ledger.specs.Headings.{heading_item, heading_month, money_on, sum_under, sum_where}
use Rattle.ledger.specs.Headings.{therms_on}
use Rattle.gas.specs.Tariffs.{Tariff}
use Rattle.ledger.specs.Prices.{open_therms, price_at, price_of}
use Rattle.ledger.specs.Sums.{sum_z}
use Rattle.ledger.specs.Year.{Opening, Settlement, Year, interim_months, is_interim, is_opened}
use Rattle.ledger.specs.Year.{settled, unknown_year}
use Rattle.gas.specs.declared.calendar.TheConstants.{LAST_MONTH}

-- a call and its answer: none if it was accepted, else the refusal
pub record Entry : Type 0 where
  pub call : Call
  pub refusal : Option AccountFault

-- the calls so far with their answers, the newest first
abbrev pub History : Type 0
History = List Entry

-- the year as known from the calls alone; a refused one tells nothing
abbrev pub known_year : History → Year
known_year [] = unknown_year
known_year (e ∷ h) = if is_some e.refusal then known_year h else year_after e.call (known_year h)

-- a new account knows nothing, has written nothing and has charged for nothing
abbrev pub new_state : State
new_state = record { year = unknown_year; lines = []; charged = 0 }

-- the refusal of a call that finds an account, if it is refused
abbrev pub refusal_by : Tariff → Call → State → Option AccountFault
refusal_by s c a = result_err (outcome s c a)

-- the account that a call leaves; a refused one leaves it as it was
abbrev pub state_after : Tariff → Call → State → State
state_after s c a = result_unwrap_or (outcome s c a) a

-- a call that found the account a, answered as the entry says and left b: both are those of its
-- outcome
abbrev pub Step : Tariff → State → Entry → State → Type 0
Step s a e b = (e.refusal ≡ refusal_by s e.call a) × (b ≡ state_after s e.call a)

-- each call found what the one before left
abbrev pub Run : Tariff → History → State → Type 0
Run s [] b = b ≡ new_state
Run s (e ∷ h) b = (a : State) × Run s h a × Step s a e b

-- the therms of all monthly balancing lines
abbrev pub balanced_therms : List Line → ℤ
balanced_therms lines =
    sum_where (λ h. heading_item h == item_number MonthlyBalancing) therms_on lines

-- the money of all lines of the interim months
abbrev pub interim_lines : Opening → List Line → ℤ
interim_lines o lines = sum_where (λ h. is_interim o (heading_month h)) money_on lines

-- what all items of all interim months cost at an increase
-- priced: each of them has a price that is an amount, and no fault
-- whole: these amounts add up to the total
pub record IsInterimPrice (s : Tariff) (y : Year) (o : Opening) (increase : ℕ) (total : ℤ)
    : Type 0 where
  pub amount : ℕ → Item → ℤ
  pub priced :
      (month : ℕ) (item : Item) → is_interim o month ≡ true →
      price_at s increase y month item ≡ Ok (amount month item)
  pub whole : total ≡ sum_z (λ month. sum_z (amount month) all_items) (interim_months o)

-- what holds of an account that is settled
-- some, of_year: there is an interim month, and all are months of the year
-- closed: every interim month is closed
-- interim: the interim price, at the opening's increase
-- final: the final price, at the settlement's
-- lesser: what stands under the interim months and under the refund is the lesser of the two
pub record SettlesUp (s : Tariff) (y : Year) (lines : List Line) (o : Opening) (t : Settlement)
    : Type 0 where
  pub some : o.first ≤ o.last
  pub of_year : o.last ≤ LAST_MONTH
  pub closed : (month : ℕ) → is_interim o month ≡ true → month < length y.closings
  pub interim_price : ℤ
  pub final_price : ℤ
  pub interim : IsInterimPrice s y o o.increase interim_price
  pub final : IsInterimPrice s y o t.final_increase final_price
  pub lesser :
      interim_lines o lines +ℤ sum_under money_on Refund lines ≡ int_min interim_price final_price

-- an account in the year as known, y, with the therms that it says are open
-- known: its own year is the year as known
-- unopened: before the opening it is a new one, which knows nothing, has written nothing and has
--   charged for nothing
-- dated: each record stands at a day of the year, as the leap mark has it
-- months: the lines under an item of a closed month sum to the item's price, which is no fault
-- therms: what all monthly balancing lines carry and what is open make up the net therms of
--   every record that stands anywhere
-- settlement: once settled, all of a settlement holds
pub record AddsUp (s : Tariff) (y : Year) (a : State) (still_open : ℤ) : Type 0 where
  pub known : a.year ≡ y
  pub unopened : is_opened y.standing ≡ false → a ≡ new_state
  pub dated :
      (place : ℕ) (day : DayRecord) → slice_index_or y.days place None ≡ Some day →
      IsDayPlace y.leap place
  pub months :
      (month : ℕ) (item : Item) → month < length y.closings →
      price_of s y month item ≡ Ok (sum_under money_on (Priced month item) a.lines)
  pub therms : balanced_therms a.lines +ℤ still_open ≡ net_therms (posted_days y.days)
  pub settlement :
      (o : Opening) (t : Settlement) → y.standing ≡ settled o t → SettlesUp s y a.lines o t

-- the law of all runs: for every tariff, history and account
abbrev pub RunsAddUp : Type 0
RunsAddUp =
    (s : Tariff) (h : History) (b : State) → Run s h b →
    AddsUp s (known_year h) b (open_therms b.year)
