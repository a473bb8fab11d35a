use Rattle.std.proofs.Common.{◌≡◌, ℕ, ◌≤◌, List, [], ◌++◌, length, take, IfSome, SomeIff, Some}
use Rattle.std.proofs.Common.{None, Option, vec_items, refl, ap, ◌∙◌, leb, leb-true, arith}
use Rattle.std.proofs.lemmas.List.{take_all, length-take}
use Rattle.std.proofs.lemmas.Bool.{cond_both}
use Rattle.std.proofs.lemmas.Bool.Decides.{nat_tests}
use Rattle.std.specs.Option.{option_map}
use Rattle.journal.specs.Inputs.{taken_input}
use Rattle.journal.proofs.input.load.Goals as goal

-- from what was read of a stream, one byte more than a program takes at most, to all that it holds
whole :
    {V : Type 0} (view : V → List ℕ) (b : V) (len limit : ℕ) (old : List ℕ)
    (k known : Option (List ℕ)) (o : Option V) →
    k ≡ known → limit ≡ 65537 → old ≡ [] → len ≡ length (view b) →
    IfSome (option_map (take limit) k) (λ xs. view b ≡ old ++ xs) → SomeIff o (len ≤ 65536) b →
    IfSome known (λ all. SomeIff (option_map view o) (length all ≤ 65536) all)
whole view b len limit old k known o same most none size read kept =
    by_cases known o (rw (same, most, none) at read) kept
  where
    by_cases :
        (known : Option (List ℕ)) (o : Option _) →
        IfSome (option_map (take 65537) known) (λ xs. view b ≡ xs) → SomeIff o (len ≤ 65536) b →
        IfSome known (λ all. SomeIff (option_map view o) (length all ≤ 65536) all)
    by_cases None o read kept = tt
    by_cases (Some all) None read kept =
        λ h. kept (omega (arith, size, ap length (read ∙ take_all 65537 all (omega arith))))
    by_cases (Some all) (Some v) read kept =
        let short : length all ≤ 65536 = omega
        (arith, size, kept.0, ap length read ∙ length-take 65537 all) in
        (short, ap view kept.1 ∙ read ∙ take_all 65537 all (omega arith))

-- all that the stream holds is what is taken of it
taken :
    (all : List ℕ) (o : Option (List ℕ)) → SomeIff o (length all ≤ 65536) all → o ≡ taken_input all
taken all None h =
    cond_both (leb (length all) 65536) _ _ (λ (x : Option (List ℕ)). None ≡ x)
    (λ e. absurd (h (leb-true _ _ e))) (λ e. refl)
taken all (Some v) h =
    cond_both (leb (length all) 65536) _ _ (λ (x : Option (List ℕ)). Some v ≡ x) (λ e. ap Some h.1)
    (λ e. let short = h.0 in grind (arith, nat_tests))

all_taken :
    {V : Type 0} (view : V → List ℕ) (known : Option (List ℕ)) (o : Option V) →
    IfSome known (λ all. SomeIff (option_map view o) (length all ≤ 65536) all) →
    IfSome known (λ all. option_map view o ≡ taken_input all)
all_taken view None o h = tt
all_taken view (Some all) o h = taken all (option_map view o) h

pub returns-clause-whole : goal.returns-clause-whole
returns-clause-whole g c =
    all_taken vec_items _ _ (whole vec_items _ _ _ _ _ _ _
    (ap g.R.Read.remaining c.take.ensures.inner) c.take.ensures.limit c.new-bytes.ensures.items
    c.read_to_end.new.buf.ok.0 c.in_ok-read_to_end.ensures.bytes c.not_too_long.ensures)
