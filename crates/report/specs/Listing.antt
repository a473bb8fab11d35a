-- What a listing of a journal says.
-- Words:
-- `row_text`, the text of one record, and `refusal_text`, that of the refusal at which reading
-- stops
-- `listing_text`, the text of a whole journal
use Rattle.std.specs.Prelude.{◌≡◌, ℕ, ◌+◌, List, [], ◌∷◌, ◌++◌, Some, None, codes, decimal, Option}
use Rattle.journal.specs.declared.faults.ReadFault.{ReadFault}
use Rattle.journal.specs.declared.kinds.Located.{Located}
use Rattle.journal.specs.declared.kinds.Record.{Record}
use Rattle.journal.specs.declared.kinds.Record.TheVariants.{Open, Post, Correct, Close, Pay, Settle}
use Rattle.journal.specs.Faults.{read_number}
use Rattle.journal.specs.Format.{fields_of}
use Rattle.journal.specs.Reading.{Gives}
use Rattle.report.specs.Outputs.{UnlessTooLong}

-- the kind in a word
abbrev pub word : Record → List ℕ
word (Open leap increase first last) = codes "open"
word (Post day) = codes "post"
word (Correct day) = codes "correct"
word (Close month numbers) = codes "close"
word (Pay amount) = codes "pay"
word (Settle final interest) = codes "settle"

-- the names of a day's fields, in the order of its bytes
abbrev pub day_names : List (List ℕ)
day_names =
    codes "month" ∷ codes "day" ∷ codes "kind" ∷ codes "curtailed" ∷ codes "nomination" ∷
    codes "receipts" ∷ codes "reading" ∷ codes "after_notice" ∷ codes "supply_cost" ∷
    codes "variance_rate" ∷ []

-- the names of a record's fields, in the order of its bytes
abbrev pub names : Record → List (List ℕ)
names (Open leap increase first last) =
    codes "leap" ∷ codes "increase" ∷ codes "first" ∷ codes "last" ∷ []
names (Post day) = day_names
names (Correct day) = day_names
names (Close month numbers) =
    codes "month" ∷ codes "index" ∷ codes "interruptible" ∷ codes "firm" ∷ []
names (Pay amount) = codes "amount" ∷ []
names (Settle final interest) = codes "final_increase" ∷ codes "interest" ∷ []

-- each name and its number, with a space before either
abbrev pub fields_text : List (List ℕ) → List ℕ → List ℕ
fields_text [] vs = []
fields_text (n ∷ ns) [] = []
fields_text (n ∷ ns) (v ∷ vs) = codes " " ++ (n ++ (codes " " ++ (decimal v ++ fields_text ns vs)))

-- the kind in a word, then the fields
abbrev pub record_text : Record → List ℕ
record_text r = word r ++ fields_text (names r) (fields_of r)

-- the record's number, its offset, its kind and its fields
abbrev pub row_text : ℕ → Located → List ℕ
row_text k p =
    decimal k ++ (codes " " ++ (decimal p.offset ++ (codes " " ++ record_text p.«record»)))

-- a refusal: the number of the record that could not be read, and that of the refusal
abbrev pub refusal_text : ℕ → ReadFault → List ℕ
refusal_text k f = codes "refused " ++ (decimal k ++ (codes " " ++ decimal (read_number f)))

-- a row for each record, numbered from k on, and last one for the refusal where there is one; each
-- ends with a newline
abbrev pub listing_text : ℕ → List Located → Option ReadFault → List ℕ
listing_text k [] None = []
listing_text k [] (Some f) = refusal_text k f ++ codes "\n"
listing_text k (p ∷ ps) end = row_text k p ++ (codes "\n" ++ listing_text (k + 1) ps end)

-- the text lists just the records that a reader gives from the journal's first byte on, and how it
-- stops
abbrev pub Lists : List ℕ → List ℕ → Type 0
Lists bs text =
    (ps : List Located) × (end : Option ReadFault) × Gives bs 0 ps end ×
    (text ≡ listing_text 1 ps end)

-- what the program writes by what was taken of its input
abbrev pub Writes : Option (List ℕ) → List ℕ → Type 0
Writes journal text = UnlessTooLong Lists journal text
