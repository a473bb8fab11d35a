-- The limits of an account, held against what was laid down.
use Rattle.std.specs.Prelude.{ℕ, List, [], ◌∷◌}
use Rattle.ledger.specs.declared.cents.TheConstants.{MILLICENTS_A_CENT}
use Rattle.ledger.specs.declared.statement.printed.TheConstants.{MOST_TEXT}
use Rattle.ledger.specs.declared.lines.TheConstants.{LAST_ITEM, MOST_LINES, MOST_PAID, PAYMENT_ITEM}
use Rattle.ledger.specs.declared.lines.TheConstants.{WHOLE_YEAR}
use Rattle.ledger.specs.declared.late.TheConstants.{LATE_PER_MILLE, LEAST_LATE_CHARGE}
use Rattle.ledger.specs.declared.late.TheConstants.{MOST_CHARGED, MOST_UNCHARGED}

-- the most lines, the most that can be paid at once, the month of lines of the year as a whole, a
-- payment's item and the last one, a late charge's per mille, the least one, up to how much is owed
-- without one, the most that is owed for one, how many millicents make a cent, and the room for any
-- printed form, each with what was laid down
abbrev pub limits : List (ℕ × ℕ)
limits =
    (MOST_LINES, 1024) ∷
    (MOST_PAID, 10000000000000) ∷
    (WHOLE_YEAR, 12) ∷
    (PAYMENT_ITEM, 13) ∷
    (LAST_ITEM, 14) ∷
    (LATE_PER_MILLE, 15) ∷
    (LEAST_LATE_CHARGE, 100000) ∷
    (MOST_UNCHARGED, 1000000) ∷
    (MOST_CHARGED, 600000000000000) ∷
    (MILLICENTS_A_CENT, 1000) ∷
    (MOST_TEXT, 677) ∷ []
