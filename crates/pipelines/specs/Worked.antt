-- The limits of percentages, held against what was laid down.
use Rattle.std.specs.Prelude.{ℕ, List, [], ◌∷◌}
use Rattle.pipelines.specs.declared.terms.TheConstants.{MOST_PERCENT, MOST_TOLERANCE}

-- the most that a tolerance and a percentage of the index may be, each with what was laid down
abbrev pub limits : List (ℕ × ℕ)
limits = (MOST_TOLERANCE, 100) ∷ (MOST_PERCENT, 200) ∷ []
