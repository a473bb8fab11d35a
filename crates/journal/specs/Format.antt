-- How a record lies in bytes: its kind byte, and behind it the numbers that records of that kind
-- have.
-- Words:
-- `kind_byte`, a record's first byte
-- `widths`, the layout of a kind's body: how many bytes each of its numbers has, in order
-- `fields_of`, a record's numbers in the order of its bytes
-- `record_bytes`, its bytes
use Rattle.std.specs.Prelude.{ℕ, if◌then◌else◌, List, [], ◌∷◌, length, ◌==◌}
use Rattle.gas.specs.declared.day.DayNumbers.{DayNumbers}
use Rattle.journal.specs.Numbers.{row_bytes}
use Rattle.journal.specs.declared.kinds.Day.{Day}
use Rattle.journal.specs.declared.kinds.Record.{Record}
use Rattle.journal.specs.declared.kinds.Record.TheVariants.{Open, Post, Correct, Close, Pay, Settle}

-- 1 open, 2 post, 3 correct, 4 close, 5 pay, 6 settle
abbrev pub kind_byte : Record → ℕ
kind_byte (Open leap increase first last) = 1
kind_byte (Post day) = 2
kind_byte (Correct day) = 3
kind_byte (Close month numbers) = 4
kind_byte (Pay amount) = 5
kind_byte (Settle final interest) = 6

-- leap mark; per mille; first and last interim month
abbrev pub open_widths : List ℕ
open_widths = 1 ∷ 2 ∷ 1 ∷ 1 ∷ []

-- month, day; then of the day its kind, curtailed mark; nomination, receipts, reading, therms after
-- notice; supply cost, variance rate
abbrev pub day_widths : List ℕ
day_widths = 1 ∷ 1 ∷ 1 ∷ 1 ∷ 4 ∷ 4 ∷ 4 ∷ 4 ∷ 4 ∷ 4 ∷ []

-- month; index, interruptible transport, firm transport
abbrev pub close_widths : List ℕ
close_widths = 1 ∷ 4 ∷ 4 ∷ 4 ∷ []

-- payment
abbrev pub pay_widths : List ℕ
pay_widths = 8 ∷ []

-- final per mille; interest per mille
abbrev pub settle_widths : List ℕ
settle_widths = 2 ∷ 2 ∷ []

-- the layout of the body under each kind byte; no other byte is a kind
abbrev pub widths : ℕ → List ℕ
widths k =
    if k == 1 then open_widths
    else if k == 2 then day_widths
    else if k == 3 then day_widths
    else if k == 4 then close_widths
    else if k == 5 then pay_widths
    else if k == 6 then settle_widths
    else []

-- a day's numbers in the order of its bytes
abbrev pub day_fields : Day → List ℕ
day_fields d =
    let n : DayNumbers = d.numbers in
    d.month ∷ d.day ∷ n.kind ∷ n.curtailed ∷ n.nomination ∷ n.receipts ∷ n.reading ∷
    n.after_notice ∷ n.supply_cost ∷ n.variance_rate ∷ []

-- the body that post and correct share
abbrev pub bytes_of_day : Day → List ℕ
bytes_of_day d = row_bytes day_widths (day_fields d)

-- a record's numbers in the order of its bytes
abbrev pub fields_of : Record → List ℕ
fields_of (Open leap increase first last) = leap ∷ increase ∷ first ∷ last ∷ []
fields_of (Post day) = day_fields day
fields_of (Correct day) = day_fields day
fields_of (Close month n) = month ∷ n.index ∷ n.interruptible ∷ n.firm ∷ []
fields_of (Pay amount) = amount ∷ []
fields_of (Settle final interest) = final ∷ interest ∷ []

-- the kind byte, then the numbers by the kind's layout
abbrev pub record_bytes : Record → List ℕ
record_bytes r = kind_byte r ∷ row_bytes (widths (kind_byte r)) (fields_of r)

-- how many bytes that is
abbrev pub record_length : Record → ℕ
record_length r = length (record_bytes r)
