-- What is printed of statements: of one month, as a word asks for it, and of all months.
use Rattle.std.specs.Prelude.{◌≡◌, ℕ, ◌+◌, ◌≤◌, Bool, if◌then◌else◌, List, [], ◌++◌}
use Rattle.std.specs.Prelude.{Some}
use Rattle.std.specs.Prelude.{None, Option, SomeIff, codes, decimal, flat_map, string_bytes}
use Rattle.std.specs.List.{range_with_len}
use Rattle.std.specs.Str.Parse.{IsNumeral, digits_value, without_leading_plus}
use Rattle.gas.specs.declared.faults.InputFault.TheVariants.{Month}
use Rattle.gas.specs.Faults.{input_number}
use Rattle.ledger.specs.declared.lines.Line.{Line}
use Rattle.ledger.specs.declared.lines.TheConstants.{WHOLE_YEAR}
use Rattle.ledger.specs.Calls.{State}
use Rattle.ledger.specs.Printed.{statement_text}
use Rattle.ledger.specs.Statements.{month_lines}
use Rattle.account.specs.declared.faults.Refusal.{Refusal}
use Rattle.report.specs.declared.answer.Answer.{Answer}
use Rattle.report.specs.Outputs.{PlaysInto, UnlessTooLong}
use Rattle.report.specs.Rows.{lines_text, refusals_text}

-- the number that a word of decimal digits means; a plus may stand before them
abbrev pub number_of : List ℕ → ℕ
number_of word = digits_value 10 (without_leading_plus word)

-- a word names a month if it is such a number, and at most 12
abbrev pub NamesMonth : List ℕ → Type 0
NamesMonth word = IsNumeral 10 (without_leading_plus word) × (number_of word ≤ WHOLE_YEAR)

-- the row that refuses any other word
abbrev pub month_refusal : List ℕ → List ℕ
month_refusal word =
    codes "refused " ++ (decimal (input_number Month) ++
    (codes ": a statement is of a month from 0 to 12, not of " ++ (word ++ codes "\n")))

-- the printed form of a month, before which its lines may stand
abbrev pub month_text : ℕ → Bool → List Line → List ℕ
month_text month with_lines lines =
    (if with_lines then lines_text (month_lines month 1 lines) else []) ++
    statement_text month lines

-- a command that is refused: nothing on standard output, the reason on standard error, and status 1
abbrev pub IsRefused : List ℕ → Answer → Type 0
IsRefused reason answer =
    (string_bytes answer.output ≡ []) × (string_bytes answer.errors ≡ reason) ×
    (answer.status ≡ 1)

-- a journal that was played: the month on standard output, on standard error what was refused, and
-- status 0
abbrev pub AnswersPlayed : ℕ → Bool → List ℕ → Answer → Type 0
AnswersPlayed month with_lines bytes answer =
    (b : State) × (refusals : List Refusal) × PlaysInto bytes b refusals ×
    (string_bytes answer.output ≡ month_text month with_lines b.lines) ×
    (string_bytes answer.errors ≡ refusals_text refusals) ×
    (answer.status ≡ 0)

-- by the month, or none where the word names none, and then the journal is not asked for; and by
-- the journal, or none where the input has more than 65,536 bytes
abbrev pub AnswersOf : Option ℕ → List ℕ → Bool → Option (List ℕ) → Answer → Type 0
AnswersOf None word with_lines journal answer = IsRefused (month_refusal word) answer
AnswersOf (Some month) word with_lines None answer = IsRefused (codes "too long\n") answer
AnswersOf (Some month) word with_lines (Some bytes) answer =
    AnswersPlayed month with_lines bytes answer

-- all that the command for a month's statement answers
abbrev pub AnswersStatement : List ℕ → Bool → Option (List ℕ) → Answer → Type 0
AnswersStatement word with_lines journal answer =
    (month : Option ℕ) × SomeIff month (NamesMonth word) (number_of word) ×
    AnswersOf month word with_lines journal answer

-- a row with the month, and its printed form
abbrev pub titled_text : List Line → ℕ → List ℕ
titled_text lines month =
    codes "month " ++ (decimal month ++ (codes "\n" ++ statement_text month lines))

-- the months that a line can have, each with its row
unfoldable pub months_text : List Line → List ℕ
months_text lines = flat_map (titled_text lines) (range_with_len 0 (WHOLE_YEAR + 1))

-- what was refused of a journal, and all months of the account
abbrev pub PrintsPlayedMonths : List ℕ → List ℕ → Type 0
PrintsPlayedMonths bytes text =
    (b : State) × (refusals : List Refusal) × PlaysInto bytes b refusals ×
    (text ≡ refusals_text refusals ++ months_text b.lines)

-- what the program `statements` writes of one journal
abbrev pub PrintsMonths : Option (List ℕ) → List ℕ → Type 0
PrintsMonths journal text = UnlessTooLong PrintsPlayedMonths journal text
