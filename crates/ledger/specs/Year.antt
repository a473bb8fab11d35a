-- The year as it is known from the calls that were accepted.
use Rattle.std.specs.Prelude.{◌≡◌, ℕ, ◌+◌, ◌-◌, ◌<◌, Bool, true, false, List, [], length, replicate}
use Rattle.std.specs.Prelude.{None}
use Rattle.std.specs.Int.{is_in_range}
use Rattle.std.specs.List.{filter, range_with_len}
use Rattle.gas.specs.declared.month.ClosingNumbers.{ClosingNumbers}
use Rattle.ledger.specs.Days.{Places, is_complete, month_place}

-- what the opening says of the interim rate: the increase, per mille, and the first and the last
-- interim month
pub record Opening : Type 0 where
  pub increase : ℕ
  pub first : ℕ
  pub last : ℕ

-- what the settlement says: the final increase and the interest on a refund, each per mille
pub record Settlement : Type 0 where
  pub final_increase : ℕ
  pub interest : ℕ

-- an account is not opened, or running, or settled
pub data Standing : Type 0 where
  not_opened : Standing
  running : Opening → Standing
  settled : Opening → Settlement → Standing

-- the standing, whether it is a leap year, the days, and the numbers that closed the months so far,
-- from November on
pub record Year : Type 0 where
  pub standing : Standing
  pub leap : Bool
  pub days : Places
  pub closings : List ClosingNumbers

-- at first nothing is known: the places of all twelve months are empty
abbrev pub unknown_year : Year
unknown_year = record {
  standing = not_opened;
  leap = false;
  days = replicate (month_place 12) None;
  closings = [];
}

-- an account is opened once it is running or settled
abbrev pub is_opened : Standing → Bool
is_opened not_opened = false
is_opened (running o) = true
is_opened (settled o t) = true

-- an account is settled once a settlement was accepted
abbrev pub is_settled : Standing → Bool
is_settled not_opened = false
is_settled (running o) = false
is_settled (settled o t) = true

-- the opening of an account, and one of nothing before it
abbrev pub opening_of : Standing → Opening
opening_of not_opened = record { increase = 0; first = 0; last = 0 }
opening_of (running o) = o
opening_of (settled o t) = o

-- the months that are closed, which are the first ones of the year
abbrev pub closed_months : Year → List ℕ
closed_months y = range_with_len 0 (length y.closings)

-- the months that are open
abbrev pub open_months : Year → List ℕ
open_months y = range_with_len (length y.closings) (12 - length y.closings)

-- each closed month has all of its days
abbrev pub IsComplete : Bool → Places → List ClosingNumbers → Type 0
IsComplete leap days closings =
    (month : ℕ) → month < length closings → is_complete leap days month ≡ true

-- the interim months run from the first to the last
abbrev pub is_interim : Opening → ℕ → Bool
is_interim o month = is_in_range o.first o.last month

-- they are, in order
abbrev pub interim_months : Opening → List ℕ
interim_months o = range_with_len o.first (o.last + 1 - o.first)

-- the interim months that are closed; once an account is settled, these are all of them
abbrev pub closed_interim : Year → List ℕ
closed_interim y = filter (is_interim (opening_of y.standing)) (closed_months y)
