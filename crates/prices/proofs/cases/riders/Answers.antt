use Rattle.std.proofs.Common.{append_assoc}
use Rattle.prices.proofs.cases.riders.Goals as goal
use Rattle.prices.specs.Cases.{riders_text}

pub returns : goal.returns
unfolding riders_text
returns c =
    rw (
      c.in_ok-price_table-5.ensures,
      c.in_ok-price_table-4.ensures,
      c.in_ok-price_table-3.ensures,
      c.in_ok-price_table-2.ensures,
      c.in_ok-price_table.ensures,
      c.on-3.ensures.rider,
      c.on-3.ensures.below,
      c.on-2.ensures.rider,
      c.on-2.ensures.below,
      c.on.ensures.below,
      c.on-weather.ensures.rider,
      c.on-weather.ensures.below,
      c.small.ensures.price,
      c.small-2.ensures.price,
      c.small-3.ensures.price,
      c.small-4.ensures.price,
    ) (simp append_assoc)
