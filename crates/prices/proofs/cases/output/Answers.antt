use Rattle.prices.proofs.Whole.{all_printed}
use Rattle.prices.proofs.cases.output.Goals as goal

pub returns : goal.returns
returns c =
    all_printed _ _ _ _ _ _ c.new-text.ensures.bytes c.in_ok-price_header.ensures
    c.in_ok-mixed_months.ensures c.in_ok-full_months.ensures c.in_ok-spring_months.ensures
    c.in_ok-stacked_months.ensures
