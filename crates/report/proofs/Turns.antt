-- What the listing's loop keeps from record to record.
use Rattle.std.proofs.Common.{◌≡◌, ℕ, ◌+◌, ◌≤◌, List, [], ◌∷◌, ◌++◌, length, Some, None, Ok, Err}
use Rattle.std.proofs.Common.{codes, Option, sym, ap, ◌∙◌, subst, append_assoc, append-nil, arith}
use Rattle.journal.specs.declared.faults.ReadFault.{ReadFault}
use Rattle.journal.specs.declared.kinds.Located.{Located}
use Rattle.journal.specs.Reading.{answer_at, offset_after, Gives}
use Rattle.journal.proofs.RoundTrips.{moves_on}
use Rattle.report.specs.Listing.{row_text, refusal_text, listing_text, Lists}

-- the text lists the journal up to offset i, k - 1 records: with what a reader of the bytes rs
-- gives from there on it lists the whole
unfoldable pub Sofar : List ℕ → List ℕ → List ℕ → ℕ → ℕ → Type 0
Sofar bs rs text i k =
    (rs ≡ bs) × (k ≤ i + 1) × ((ps : List Located) (end : Option ReadFault) → Gives rs i ps end →
    Lists bs (text ++ listing_text k ps end))

pub start :
    (bs rs text : List ℕ) (i k : ℕ) → rs ≡ bs → text ≡ [] → i ≡ 0 → k ≡ 1 → Sofar bs rs text i k
unfolding Sofar
start bs rs text i k same none first one = (
  same,
  omega arith,
  λ ps end h. (
    ps,
    end,
    subst (λ (b : List ℕ). Gives b 0 ps end) same
        (subst (λ (n : ℕ). Gives rs n ps end) first h),
    rw (none, one),
  ),
)

module _ (bs rs text : List ℕ) (i k : ℕ) where
  pub few : Sofar bs rs text i k → i ≤ length rs → k ≤ length bs + 1
  unfolding Sofar
  few s h = let same = ap length s.0 in omega (arith, s.1)

  pub ended : Sofar bs rs text i k → Ok None ≡ answer_at rs i → Lists bs text
  unfolding Sofar
  ended s e = subst (Lists bs) (append-nil text) (s.2 [] None (sym e))

  pub refused :
      (more : List ℕ) (n : ℕ) (f : ReadFault) → Sofar bs rs text i k → Err f ≡ answer_at rs i →
      n ≡ k → more ≡ text ++ (refusal_text n f ++ codes "\n") → Lists bs more
  unfolding Sofar
  refused more n f s e this m = rw (m, this) (s.2 [] (Some f) (sym e))

  pub one_more :
      (more rs' : List ℕ) (j l : ℕ) (p : Located) → Sofar bs rs text i k →
      answer_at rs i ≡ Ok (Some p) → more ≡ text ++ (row_text k p ++ codes "\n") → rs' ≡ rs →
      j ≡ offset_after rs i → l ≡ k + 1 → Sofar bs rs' more j l
  unfolding Sofar
  one_more more rs' j l p s e m same on next = (
    same ∙ s.0,
    omega (arith, moves_on rs i p e),
    λ ps end h. rw (m, next)
        (subst (Lists bs) (joins (listing_text (k + 1) ps end))
        (s.2 (p ∷ ps) end (
          e,
          subst (λ (n : ℕ). Gives rs n ps end) on
              (subst (λ (b : List ℕ). Gives b j ps end) same h),
        ))),
  )
    where
      joins :
          (l : List ℕ) →
          text ++ (row_text k p ++ (codes "\n" ++ l)) ≡ (text ++ (row_text k p ++ codes "\n")) ++ l
      joins l = simp append_assoc
