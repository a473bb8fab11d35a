use Rattle.std.proofs.Common.{append_assoc}
use Rattle.prices.proofs.cases.refusals.Goals as goal

pub returns : goal.returns
returns c =
    rw (
      c.in_ok-price_table-3.ensures,
      c.in_ok-price_table-2.ensures,
      c.in_ok-price_table.ensures,
      c.on-3.ensures.rider,
      c.on-3.ensures.below,
      c.on-2.ensures.rider,
      c.on-interim.ensures.below,
      c.on.ensures.rider,
      c.large.ensures,
    ) (simp append_assoc)
