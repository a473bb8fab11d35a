-- The numbers of an opening's and a settlement's terms.
use Rattle.std.specs.Prelude.{List, ℤ, pos, if◌then◌else◌, Some, None, Option}
use Rattle.ledger.specs.declared.lines.Target.{Target}
use Rattle.ledger.specs.Headings.{heading_month, target_money}
use Rattle.ledger.specs.Sums.{sum_z}
use Rattle.ledger.specs.Year.{Opening, Settlement, Standing, is_interim, running, settled}
use Rattle.book.specs.declared.terms.OpeningTerms.{OpeningTerms}
use Rattle.book.specs.declared.terms.SettlementTerms.{SettlementTerms}
use Rattle.book.specs.declared.terms.Terms.{Terms}

-- an opening's numbers, of which the terms keep the limits
abbrev pub opening_numbers : OpeningTerms → Opening
opening_numbers o =
    record { increase = o.increase.share; first = o.first.number; last = o.last.number }

-- a settlement's numbers, likewise
abbrev pub settlement_numbers : SettlementTerms → Settlement
settlement_numbers t =
    record { final_increase = t.final_increase.share; interest = t.interest.share }

-- the standing of an account that was opened, and settled if there is a settlement
abbrev pub standing_by : Opening → Option SettlementTerms → Standing
standing_by o None = running o
standing_by o (Some t) = settled o (settlement_numbers t)

-- the standing by the terms that an account keeps
abbrev pub standing_of : Terms → Standing
standing_of t = standing_by (opening_numbers t.opening) t.settlement

-- the money of all targets of the interim months
abbrev pub interim_money : Opening → List Target → ℤ
interim_money o targets =
    sum_z (λ t. if is_interim o (heading_month t.heading) then target_money t else pos 0) targets
