-- What the program prints of a journal that was played into an account: what was refused, the
-- lines, and their sum.
use Rattle.std.specs.Prelude.{ℕ, List, [], ◌∷◌, ◌++◌, ℤ, codes, decimal}
use Rattle.std.specs.Fmt.{signed_decimal}
use Rattle.account.specs.declared.faults.Refusal.{Refusal}
use Rattle.account.specs.Faults.{journal_values}
use Rattle.ledger.specs.declared.lines.Line.{Line}
use Rattle.ledger.specs.declared.statement.NumberedLine.{NumberedLine}
use Rattle.ledger.specs.Headings.{heading_item, heading_month, money_on, therms_on}
use Rattle.ledger.specs.Questions.{sum_of_all}
use Rattle.ledger.specs.Statements.{numbered}

-- a refused record: its number, and that of the refusal
abbrev pub refusal_text : Refusal → List ℕ
refusal_text r =
    codes "refused " ++ (decimal r.number ++ (codes " " ++ decimal (journal_values r.fault).0))

-- the names of the fields of a line's row
abbrev pub header : List ℕ
header = codes "no month item therms millicents"

-- a line: its number, its month, its item, its therms and its money
abbrev pub line_text : NumberedLine → List ℕ
line_text n =
    decimal n.number ++ (codes " " ++ (decimal (heading_month n.line.heading) ++ (codes " " ++
    (decimal (heading_item n.line.heading) ++ (codes " " ++
    (signed_decimal (therms_on n.line) ++ (codes " " ++ signed_decimal (money_on n.line))))))))

-- what all lines add up to in money
abbrev pub sum_text : ℤ → List ℕ
sum_text sum = codes "sum " ++ signed_decimal sum

-- a row for each refusal, each ended by a newline
abbrev pub refusals_text : List Refusal → List ℕ
refusals_text [] = []
refusals_text (r ∷ rs) = refusal_text r ++ (codes "\n" ++ refusals_text rs)

-- a row for each of some numbered lines, each ended by a newline
abbrev pub lines_text : List NumberedLine → List ℕ
lines_text [] = []
lines_text (n ∷ ns) = line_text n ++ (codes "\n" ++ lines_text ns)

-- the header, the lines, and last their sum
abbrev pub account_text : List Line → List ℕ
account_text lines =
    header ++ (codes "\n" ++
    (lines_text (numbered 1 lines) ++ (sum_text (sum_of_all lines) ++ codes "\n")))

-- what was refused, and then the account
abbrev pub played_text : List Refusal → List Line → List ℕ
played_text refusals lines = refusals_text refusals ++ account_text lines
