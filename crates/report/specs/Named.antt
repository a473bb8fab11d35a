-- What is printed of one of several journals.
use Rattle.std.specs.Prelude.{◌≡◌, ℕ, List, ◌++◌, codes}

-- the row with the name of a journal's file
abbrev pub name_row : List ℕ → List ℕ
name_row name = codes "journal " ++ (name ++ codes "\n")

-- this row, and then what is printed of the journal alone
abbrev pub IsNamed : List ℕ → (List ℕ → Type 0) → List ℕ → Type 0
IsNamed name Printed text =
    (printed : List ℕ) × Printed printed × (text ≡ name_row name ++ printed)
