-- A journal that was played, and the whole text of it.
use Rattle.std.proofs.Common.{◌≡◌, ℕ, List, [], ◌++◌, append_assoc, subst}
use Rattle.account.specs.declared.faults.Refusal.{Refusal}
use Rattle.account.specs.Playing.{Played}
use Rattle.ledger.specs.Calls.{State}
use Rattle.gas.specs.Tariffs.{Tariff}
use Rattle.ledger.specs.Runs.{new_state}
use Rattle.report.specs.Late.{PrintsCharged, after_charges, charges_text}
use Rattle.report.specs.Outputs.{PlaysInto}
use Rattle.report.specs.Tariffs.{fixed_tariff}
use Rattle.report.specs.Rows.{account_text, refusals_text}

-- an account that was new, on the program's tariff
pub plays_into :
    (s : Tariff) (bytes : List ℕ) (a b : State) (refusals : List Refusal) → s ≡ fixed_tariff →
    a ≡ new_state → Played s bytes a b refusals → PlaysInto bytes b refusals
plays_into s bytes a b refusals tariff new played =
    subst (λ (x : State). Played fixed_tariff bytes x b refusals) new
    (subst (λ (t : Tariff). Played t bytes a b refusals) tariff played)

-- a text that was empty, and to which the refusals were written, then those of late charges, and then
-- the account after them
pub charged_is_printed :
    (numbers bytes none some more text : List ℕ) (s : Tariff) (b after : State)
    (refusals : List Refusal) →
    PlaysInto bytes b refusals → s ≡ fixed_tariff → none ≡ [] →
    some ≡ none ++ refusals_text refusals → more ≡ some ++ charges_text s numbers b →
    after ≡ after_charges s numbers b → text ≡ more ++ account_text after.lines →
    PrintsCharged numbers bytes text
charged_is_printed numbers bytes none some more text s b after refusals played tariff empty first
    then is last = (
      b,
      refusals,
      played,
      subst
          (λ (t : Tariff). text ≡
          refusals_text refusals ++
          (charges_text t numbers b ++ account_text (after_charges t numbers b).lines))
          tariff (rw (last, then, first, empty, is) (append_assoc (refusals_text refusals) _ _)),
    )
