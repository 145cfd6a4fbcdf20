-- Bytes as hexadecimal text.
use Rattle.std.specs.Prelude.{ℕ, ◌+◌, ◌/◌, ◌%◌, cond, List, [], ◌∷◌, nat_lt}
use Rattle.std.specs.List.{flat_map}

-- the code of a digit in lower case
abbrev pub digit_of : ℕ → ℕ
digit_of n = cond (nat_lt n 10) (48 + n) (87 + n)

abbrev pub byte_shown : ℕ → List ℕ
byte_shown b = digit_of (b / 16) ∷ digit_of (b % 16) ∷ []

abbrev pub shown_bytes : List ℕ → List ℕ
shown_bytes = flat_map byte_shown
