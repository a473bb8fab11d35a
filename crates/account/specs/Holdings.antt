-- What an account holds.
use Rattle.ledger.specs.Calls.{State}

-- the schedule that it was made with, and what it knows and has written
pub record Holding (S : Type 0) : Type 0 where
  pub schedule : S
  pub state : State
