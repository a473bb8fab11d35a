-- What is read at an offset of any list of bytes.
-- Words:
-- `read_body`, the record of a kind, from the bytes behind its kind byte
-- `read_front`, what a list of bytes begins with
-- `answer_at` and `offset_after`, what a reader at an offset answers, and where it then stands
-- `Gives`, what a reader gives of the whole rest of a journal
use Rattle.std.specs.Prelude.{◌≡◌, ℕ, ◌+◌, Bool, if◌then◌else◌, List, [], ◌∷◌, length, drop, Some}
use Rattle.std.specs.Prelude.{None, Ok, Err, Option, Result, sum, ◌==◌, nat_le, slice_index}
use Rattle.std.specs.Int.{is_in_range}
use Rattle.std.specs.Result.{result_map_both}
use Rattle.gas.specs.declared.month.ClosingNumbers.{ClosingNumbers}
use Rattle.journal.specs.declared.faults.ReadFault.{ReadFault}
use Rattle.journal.specs.declared.faults.ReadFault.TheVariants.{UnknownKind, CutShort}
use Rattle.journal.specs.declared.kinds.Day.{Day}
use Rattle.journal.specs.declared.kinds.Record.{Record}
use Rattle.journal.specs.declared.kinds.Record.TheVariants.{Open, Post, Correct, Close, Pay, Settle}
use Rattle.journal.specs.declared.kinds.Located.{Located}
use Rattle.journal.specs.Format.{widths, day_widths, record_length}
use Rattle.journal.specs.Numbers.{row_at}

-- a kind byte is 1 to 6
abbrev pub is_kind : ℕ → Bool
is_kind k = is_in_range 1 6 k

-- the day whose numbers are given in the order of its bytes
abbrev pub day_of : List ℕ → Day
day_of ns = record {
  month = slice_index ns 0;
  day = slice_index ns 1;
  numbers = record {
    kind = slice_index ns 2;
    curtailed = slice_index ns 3;
    nomination = slice_index ns 4;
    receipts = slice_index ns 5;
    reading = slice_index ns 6;
    after_notice = slice_index ns 7;
    supply_cost = slice_index ns 8;
    variance_rate = slice_index ns 9;
  };
}

-- the numbers that close a month, behind the month itself
abbrev pub closing_of : List ℕ → ClosingNumbers
closing_of ns = record {
  index = slice_index ns 1;
  interruptible = slice_index ns 2;
  firm = slice_index ns 3;
}

-- the record of one of the six kinds whose numbers are given in the order of its bytes; it is asked
-- of no other kind
abbrev pub record_of_kind : ℕ → List ℕ → Record
record_of_kind k ns =
    if k == 1 then Open (slice_index ns 0) (slice_index ns 1) (slice_index ns 2) (slice_index ns 3)
    else if k == 2 then Post (day_of ns)
    else if k == 3 then Correct (day_of ns)
    else if k == 4 then Close (slice_index ns 0) (closing_of ns)
    else if k == 5 then Pay (slice_index ns 0)
    else Settle (slice_index ns 0) (slice_index ns 1)

-- cut short where fewer bytes are left than the row of numbers takes, else what is made of the
-- numbers
abbrev pub read_row : {A : Type 0} → List ℕ → (List ℕ → A) → List ℕ → Result A ReadFault
read_row ws make rest =
    if nat_le (sum ws) (length rest) then Ok (make (row_at ws rest 0)) else Err CutShort

-- the day that post and correct carry
abbrev pub read_day : List ℕ → Result Day ReadFault
read_day rest = read_row day_widths day_of rest

-- a record of one of the six kinds
abbrev pub read_body : ℕ → List ℕ → Result Record ReadFault
read_body k rest = read_row (widths k) (record_of_kind k) rest

-- an unknown kind is refused as such, however short the rest
abbrev pub read_record : ℕ → List ℕ → Result Record ReadFault
read_record k rest = if is_kind k then read_body k rest else Err UnknownKind

-- none where no byte is left, else the record that the first byte and the rest give, or its refusal
abbrev pub read_front : List ℕ → Result (Option Record) ReadFault
read_front [] = Ok None
read_front (k ∷ rest) = result_map_both Some (λ f. f) (read_record k rest)

-- a record comes with the offset of its first byte
abbrev pub with_offset : ℕ → Result (Option Record) ReadFault → Result (Option Located) ReadFault
with_offset i (Ok None) = Ok None
with_offset i (Ok (Some r)) = Ok (Some (record { offset = i; «record» = r }))
with_offset i (Err f) = Err f

-- a reader at offset i of the bytes answers what is read there, with the offset
abbrev pub answer_at : List ℕ → ℕ → Result (Option Located) ReadFault
answer_at bs i = with_offset i (read_front (drop i bs))

-- the offset behind the record in an answer; the reader's own where there is none, also after a
-- refusal
abbrev pub offset_behind : ℕ → Result (Option Located) ReadFault → ℕ
offset_behind i (Ok None) = i
offset_behind i (Ok (Some p)) = i + record_length p.«record»
offset_behind i (Err f) = i

-- where the reader then stands
abbrev pub offset_after : List ℕ → ℕ → ℕ
offset_after bs i = offset_behind i (answer_at bs i)

-- how reading stops: at the journal's end, or with a refusal
abbrev pub last_answer : Option ReadFault → Result (Option Located) ReadFault
last_answer None = Ok None
last_answer (Some f) = Err f

-- a reader at offset i gives the records ps, one after another, and then stops as told
abbrev pub Gives : List ℕ → ℕ → List Located → Option ReadFault → Type 0
Gives bs i [] end = answer_at bs i ≡ last_answer end
Gives bs i (p ∷ ps) end = (answer_at bs i ≡ Ok (Some p)) × Gives bs (offset_after bs i) ps end
