-- What is printed where late charges are made in the account that a journal has made.
use Rattle.std.specs.Prelude.{◌≡◌, ℕ, List, [], ◌∷◌, ◌++◌, Some, None, Option, codes, decimal}
use Rattle.std.specs.Prelude.{string_bytes}
use Rattle.gas.specs.Tariffs.{Tariff}
use Rattle.account.specs.declared.faults.Refusal.{Refusal}
use Rattle.ledger.specs.declared.faults.AccountFault.{AccountFault}
use Rattle.ledger.specs.Calls.{State, late_charge}
use Rattle.ledger.specs.Faults.{account_number}
use Rattle.ledger.specs.Runs.{refusal_by, state_after}
use Rattle.report.specs.declared.answer.Answer.{Answer}
use Rattle.report.specs.Outputs.{PlaysInto}
use Rattle.report.specs.Rows.{account_text, refusals_text}
use Rattle.report.specs.Tariffs.{fixed_tariff}

-- an account after late charges up to some line numbers, one after another, each in what the one
-- before has left
abbrev pub after_charges : Tariff → List ℕ → State → State
after_charges s [] a = a
after_charges s (k ∷ ks) a = after_charges s ks (state_after s (late_charge k) a)

-- the row of a late charge up to line k if it is refused, ended by a newline
abbrev pub charge_text : ℕ → Option AccountFault → List ℕ
charge_text k None = []
charge_text k (Some fault) =
    codes "refused late " ++ (decimal k ++ (codes " " ++
    (decimal (account_number fault) ++ codes "\n")))

-- a row for each of them that is refused, in order
abbrev pub charges_text : Tariff → List ℕ → State → List ℕ
charges_text s [] a = []
charges_text s (k ∷ ks) a =
    charge_text k (refusal_by s (late_charge k) a) ++
    charges_text s ks (state_after s (late_charge k) a)

-- what was refused of the journal, what was refused of the late charges, and the account after them
abbrev pub charged_text : List ℕ → State → List Refusal → List ℕ
charged_text numbers b refusals =
    refusals_text refusals ++
    (charges_text fixed_tariff numbers b ++
    account_text (after_charges fixed_tariff numbers b).lines)

-- the text of the account that the journal makes, with these late charges
abbrev pub PrintsCharged : List ℕ → List ℕ → List ℕ → Type 0
PrintsCharged numbers bytes text =
    (b : State) × (refusals : List Refusal) × PlaysInto bytes b refusals ×
    (text ≡ charged_text numbers b refusals)

-- all that the command for late charges answers: what is printed on standard output, nothing on
-- standard error, and status 0; where the input has more than 65,536 bytes, the row that `lines`
-- prints of it, and status 1
abbrev pub AnswersLate : List ℕ → Option (List ℕ) → Answer → Type 0
AnswersLate numbers None answer =
    (string_bytes answer.output ≡ codes "too long\n") × (string_bytes answer.errors ≡ []) ×
    (answer.status ≡ 1)
AnswersLate numbers (Some bytes) answer =
    PrintsCharged numbers bytes (string_bytes answer.output) ×
    (string_bytes answer.errors ≡ []) × (answer.status ≡ 0)
