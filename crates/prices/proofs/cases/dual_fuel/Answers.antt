use Rattle.std.proofs.Common.{append_assoc}
use Rattle.prices.proofs.cases.dual_fuel.Goals as goal
use Rattle.prices.specs.Cases.{dual_fuel_text}

pub returns : goal.returns
unfolding dual_fuel_text
returns c =
    rw (
      c.in_ok-price_table-5.ensures,
      c.in_ok-price_table-4.ensures,
      c.in_ok-price_table-3.ensures,
      c.in_ok-price_table-2.ensures,
      c.in_ok-price_table.ensures,
      c.small.ensures.price,
      c.small-2.ensures.price,
      c.large.ensures,
    ) (simp append_assoc)
