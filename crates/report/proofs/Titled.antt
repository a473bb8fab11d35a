-- Months under their rows, one after another.
use Rattle.std.proofs.Common.{◌≡◌, ℕ, suc, ◌+◌, List, ◌++◌, append_assoc, arith, flat_map}
use Rattle.std.specs.List.{range_with_len}
use Rattle.ledger.proofs.Printing.{rows}

pub month_next :
    (row : ℕ → List ℕ) (start text more : List ℕ) (month : ℕ) →
    text ≡ start ++ flat_map row (range_with_len 0 month) → more ≡ text ++ row month →
    more ≡ start ++ flat_map row (range_with_len 0 (month + 1))
month_next row start text more month sofar this =
    let next : month + 1 ≡ suc month = omega arith in
    let here : 0 + month ≡ month = omega arith in
    rw (next, rows row 0 month, here, this, sofar) (append_assoc start _ (row month))
