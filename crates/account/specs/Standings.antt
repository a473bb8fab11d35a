-- The standing of an account by its numbers.
use Rattle.account.specs.declared.standing.Standing.{Standing}
use Rattle.account.specs.declared.standing.Standing.TheVariants.{NotOpened, Running, Settled}
use Rattle.book.specs.Terms.{opening_numbers, settlement_numbers}
use Rattle.ledger.specs.Year as year

-- the standing by the numbers of the opening and the settlement
abbrev pub standing_now : Standing → year.Standing
standing_now NotOpened = year.not_opened
standing_now (Running increase first last) =
    year.running
    (opening_numbers (record { increase = increase; first = first; last = last }))
standing_now (Settled increase first last final_increase interest) =
    year.settled
    (opening_numbers (record { increase = increase; first = first; last = last }))
    (settlement_numbers (record { final_increase = final_increase; interest = interest }))
