use Rattle.std.proofs.Common.{append_assoc}
use Rattle.prices.proofs.cases.stacks.Goals as goal

pub returns : goal.returns
returns c =
    rw (
      c.in_ok-price_table-4.ensures,
      c.in_ok-price_table-3.ensures,
      c.in_ok-price_table-2.ensures,
      c.in_ok-price_table.ensures,
      c.on-4.ensures.rider,
      c.on-3.ensures.rider,
      c.on-3.ensures.below,
      c.on-2.ensures.below,
      c.on.ensures.rider,
      c.on.ensures.below,
      c.on-weather.ensures.rider,
      c.on-weather.ensures.below,
      c.on-interim.ensures.below,
      c.on-affordability.ensures.rider,
      c.on-affordability.ensures.below,
      c.small.ensures.price,
      c.small-2.ensures.price,
      c.small-3.ensures.price,
      c.large.ensures,
    ) (simp append_assoc)
