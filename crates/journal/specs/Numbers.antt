-- Numbers in bytes, the lowest byte first.
-- Words:
-- `number_at`, what some bytes stand for, and `row_at`, what they do as a row of numbers of given
-- widths
-- `low_bytes`, the bytes of a number, and `row_bytes`, those of a row of numbers of given widths
use Rattle.std.specs.Prelude.{ℕ, zero, suc, ◌+◌, ◌*◌, ◌/◌, ◌%◌, ◌^◌, ◌<◌, List, [], ◌∷◌, ◌++◌}
use Rattle.std.specs.Prelude.{slice_index}
use Rattle.std.specs.List.{AllZip}

-- the number that the w bytes from offset i on stand for
abbrev pub number_at : List ℕ → ℕ → ℕ → ℕ
number_at bs i zero = 0
number_at bs i (suc w) = slice_index bs i + 256 * number_at bs (suc i) w

-- the numbers from offset i on, by their widths in bytes
abbrev pub row_at : List ℕ → List ℕ → ℕ → List ℕ
row_at [] bs i = []
row_at (w ∷ ws) bs i = number_at bs i w ∷ row_at ws bs (i + w)

-- the lowest w bytes of a number
abbrev pub low_bytes : ℕ → ℕ → List ℕ
low_bytes zero n = []
low_bytes (suc w) n = (n % 256) ∷ low_bytes w (n / 256)

-- the bytes of a row of numbers, by their widths
abbrev pub row_bytes : List ℕ → List ℕ → List ℕ
row_bytes [] ns = []
row_bytes (w ∷ ws) [] = []
row_bytes (w ∷ ws) (n ∷ ns) = low_bytes w n ++ row_bytes ws ns

-- as many numbers as widths, each within its width
abbrev pub Fit : List ℕ → List ℕ → Type 0
Fit ws ns = AllZip (λ w n. n < 256 ^ w) ws ns
