-- Hexadecimal text, read from its front.
use Rattle.std.specs.Prelude.{◌≡◌, ℕ, ◌+◌, ◌-◌, ◌*◌, ◌/◌, ◌<◌, ◌≤◌, cond, ◌&&◌, List, [], ◌∷◌, ◌++◌, length, take, Ok, Err, codes, decimal, Result, nat_le, nat_lt, slice_index}
use Rattle.hexadecimal.specs.declared.decode.HexError.{HexError}
use Rattle.hexadecimal.specs.declared.decode.HexError.TheVariants.{SmallBuffer, NotADigit, OddLength}
use Rattle.hexadecimal.specs.Showing.{shown_bytes}
use Rattle.outcome.specs.Outcomes.{bind}

-- a fault in words
abbrev pub fault_shown : HexError → List ℕ
fault_shown SmallBuffer = codes "a small buffer"
fault_shown (NotADigit place) = codes "no digit at " ++ decimal place
fault_shown OddLength = codes "an odd number of digits"

-- the value of the digit c, which stands at that place
abbrev pub digit_at : ℕ → ℕ → Result ℕ HexError
digit_at place c =
    cond (nat_le 48 c && nat_le c 57) (Ok (c - 48))
    (cond (nat_le 97 c && nat_le c 102) (Ok (c - 97 + 10))
    (cond (nat_le 65 c && nat_le c 70) (Ok (c - 65 + 10))
    (Err (NotADigit place))))

-- the byte of two digits
abbrev pub byte_of : ℕ → ℕ → ℕ → Result ℕ HexError
byte_of place c d =
    bind (digit_at place c) λ high.
    bind (digit_at (place + 1) d) λ low.
    Ok (high * 16 + low)

-- the bytes of a text that begins at that place
abbrev pub bytes_at : ℕ → List ℕ → Result (List ℕ) HexError
bytes_at place [] = Ok []
bytes_at place (c ∷ []) = bind (digit_at place c) λ _. Err OddLength
bytes_at place (c ∷ d ∷ l) =
    bind (byte_of place c d) λ b.
    bind (bytes_at (place + 2) l) λ bytes.
    Ok (b ∷ bytes)

abbrev pub checked : Result (List ℕ) HexError → Result (Unit {0}) HexError
checked r = bind r λ _. Ok tt

-- the answer for a buffer of that length
abbrev pub decoding : ℕ → List ℕ → Result (List ℕ) HexError
decoding room text = cond (nat_lt room (length text / 2)) (Err SmallBuffer) (bytes_at 0 text)

-- the first n bytes of the buffer are the text's
abbrev pub Decoded : List ℕ → List ℕ → Result ℕ HexError → List ℕ → Type 0
Decoded text out (Ok n) out' = (n ≤ length out) × (decoding (length out) text ≡ Ok (take n out'))
Decoded text out (Err e) out' = decoding (length out) text ≡ Err e

-- bytes that were shown are decoded again, where there is room for them
abbrev pub DecodesShown : List ℕ → List ℕ → Result ℕ HexError → List ℕ → Type 0
DecodesShown text out r out' =
    (l : List ℕ) → ((i : ℕ) → slice_index l i < 256) → text ≡ shown_bytes l → length l ≤ length out
    → (r ≡ Ok (length l)) × (take (length l) out' ≡ l)
