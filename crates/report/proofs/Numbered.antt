-- The rows of lines, written one after another.
use Rattle.std.proofs.Common.{◌≡◌, ℕ, ◌+◌, List, ◌∷◌, ◌++◌, Some, Ok, codes, refl}
use Rattle.std.proofs.Common.{sym, ap, ◌∙◌, append_assoc, add-one}
use Rattle.std.proofs.Math.ListN.{drop}
use Rattle.std.proofs.Math.Seq.{drop-cons}
use Rattle.std.proofs.lemmas.Option.{get_or_from_slice_get, slice_get_within}
use Rattle.std.specs.List.{slice_get}
use Rattle.ledger.specs.declared.lines.Line.{Line}
use Rattle.ledger.specs.Questions.{numbered_line}
use Rattle.ledger.specs.Statements.{numbered}
use Rattle.ledger.proofs.Stepping.{was_found}
use Rattle.report.specs.Rows.{line_text, lines_text}

-- what is left of some lines from the one at an index on
rest_from :
    (lines : List Line) (i : ℕ) (line : Line) → slice_get lines i ≡ Some line →
    drop i lines ≡ line ∷ drop (i + 1) lines
rest_from lines i line e =
    let within = slice_get_within lines i line e in
    rw (add-one, drop-cons lines i line within, get_or_from_slice_get lines i line line e) refl

pub one_more :
    (lines : List Line) (start text more : List ℕ) (i : ℕ) (line : Line) →
    text ++ lines_text (numbered (i + 1) (drop i lines)) ≡ start →
    numbered_line lines (i + 1) ≡ Ok line →
    more ≡ text ++ (line_text (record { number = i + 1; line = line }) ++ codes "\n") →
    more ++ lines_text (numbered (i + 1 + 1) (drop (i + 1) lines)) ≡ start
one_more lines start text more i line sofar is m =
    let here : slice_get lines i ≡ Some line = was_found _ line (rw add-one at is) in
    let row = line_text (record { number = i + 1; line = line }) in
    rw m (append_assoc text _ _ ∙ ap (λ t. text ++ t) (append_assoc row _ _) ∙
    ap (λ ls. text ++ lines_text (numbered (i + 1) ls)) (sym (rest_from lines i line here)) ∙ sofar)
