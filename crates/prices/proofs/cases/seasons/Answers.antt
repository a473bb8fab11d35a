use Rattle.std.proofs.Common.{append_assoc, refl}
use Rattle.prices.proofs.cases.seasons.Goals as goal

pub returns : goal.returns
returns c =
    rw (
      c.in_ok-price_table-2.ensures,
      c.in_ok-price_table.ensures,
      c.small.ensures.price,
      c.small-2.ensures.price,
      append_assoc,
    ) refl
