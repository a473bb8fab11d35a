-- The tariff by which the program plays a journal: a class on a pipeline, and two riders on it.
use Rattle.std.specs.Prelude.{ℕ}
use Rattle.gas.specs.Tariffs.{Tariff}
use Rattle.pipelines.specs.Northern.{northern_day, northern_month}
use Rattle.riders.specs.Riders.{franchise_charge, franchise_row, interim_charge, interim_row}
use Rattle.riders.specs.Riders.{tariff_with_rider}
use Rattle.classes.specs.Classes.{class_tariff, small_row}

-- the therms that the site uses in a year
abbrev pub annual_usage : ℕ
annual_usage = 36500

-- the share of the franchise rider, in thousandths
abbrev pub franchise_share : ℕ
franchise_share = 50

-- small dual fuel on Northern
abbrev pub small_on_northern : Tariff
small_on_northern = class_tariff (small_row annual_usage) northern_day northern_month

-- with the interim rider on it, and the franchise rider on that
abbrev pub fixed_tariff : Tariff
fixed_tariff =
    tariff_with_rider franchise_row (franchise_charge franchise_share)
    (tariff_with_rider interim_row interim_charge small_on_northern)
