use Rattle.std.proofs.Common.{append_assoc}
use Rattle.prices.proofs.cases.firm_and_tolerance.Goals as goal
use Rattle.prices.specs.Cases.{firm_and_tolerance_text}

pub returns : goal.returns
unfolding firm_and_tolerance_text
returns c =
    rw (
      c.in_ok-price_table-4.ensures,
      c.in_ok-price_table-3.ensures,
      c.in_ok-price_table-2.ensures,
      c.in_ok-price_table.ensures,
    ) (simp append_assoc)
