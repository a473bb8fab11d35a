use Rattle.std.proofs.Common.{append_assoc}
use Rattle.prices.specs.Cases.{mixed_text}
use Rattle.prices.proofs.cases.november_and_may.Goals as goal

pub returns : goal.returns
unfolding mixed_text
returns c =
    rw (
      c.in_ok-riders_on_riders.ensures,
      c.in_ok-riders.ensures,
      c.in_ok-firm_and_tolerance.ensures,
      c.in_ok-dual_fuel.ensures,
    ) (simp append_assoc)
