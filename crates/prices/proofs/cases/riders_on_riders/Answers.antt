use Rattle.std.proofs.Common.{append_assoc}
use Rattle.prices.proofs.cases.riders_on_riders.Goals as goal
use Rattle.prices.specs.Cases.{riders_on_riders_text}

pub returns : goal.returns
unfolding riders_on_riders_text
returns c =
    rw (
      c.in_ok-price_table-4.ensures,
      c.in_ok-price_table-3.ensures,
      c.in_ok-price_table-2.ensures,
      c.in_ok-price_table.ensures,
      c.on-7.ensures.rider,
      c.on-7.ensures.below,
      c.on-6.ensures.rider,
      c.on-6.ensures.below,
      c.on-5.ensures.below,
      c.on-4.ensures.rider,
      c.on-4.ensures.below,
      c.on-3.ensures.below,
      c.on-all_but_franchise.ensures.below,
      c.on-2.ensures.rider,
      c.on-2.ensures.below,
      c.on.ensures.rider,
      c.on.ensures.below,
      c.on-franchise.ensures.rider,
      c.on-franchise.ensures.below,
      c.small.ensures.price,
      c.small-2.ensures.price,
      c.small-3.ensures.price,
    ) (simp append_assoc)
