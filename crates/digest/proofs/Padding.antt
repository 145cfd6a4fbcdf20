-- The last blocks: what is left of a message, and the padding.
use Rattle.std.proofs.Common.{◌≡◌, ℕ, suc, ◌+◌, ◌-◌, ◌*◌, ◌/◌, ◌%◌, ◌^◌, ◌<◌, ◌≤◌, List, [], ◌∷◌, ◌++◌, length, take, drop, set, replicate, sym, refl, ap, ◌∙◌, append_assoc, append-nil, arith, length-append}
use borrow.Rule.Slice.PartMut.{put_mid}
use lib.ListN.{length-replicate, replicate-append-replicate}
use lib.Seq.{take-append-add}
use Rattle.std.proofs.lemmas.List.{set_at, drop_all, drop-drop, drop-replicate, take-replicate}
use Rattle.digest.specs.Hmac.{filled}
use Rattle.digest.specs.Sha256.{whole, compressed, padding, be64}
use Rattle.digest.proofs.Blocks.{whole_append, whole_first, whole_one}

-- the length counts only modulo 2 ^ 64
padding_wraps : (n : ℕ) → padding (n % 2 ^ 64) ≡ padding n
unfolding padding
padding_wraps n =
    let e : n % 2 ^ 64 % 64 ≡ n % 64 = omega arith in
    let f : (n % 2 ^ 64 * 8) % 2 ^ 64 ≡ (n * 8) % 2 ^ 64 = omega arith in
    rw (e, f)

pub length-padding : (n : ℕ) → length (padding n) ≡ 9 + (119 - n % 64) % 64
unfolding padding
length-padding n = simp (length-append, length-replicate) (omega arith)

-- a block of zeros with bytes written over its front
pub filled_up : (bytes front : List ℕ) → length bytes ≤ 64 → front ≡ bytes → front ++ drop (length bytes) (replicate {A = ℕ} 64 0) ≡ filled bytes
filled_up bytes front h e = rw (e, drop-replicate {X = ℕ} (length bytes) 64 0)

-- and the byte 0x80 behind them
pub marked : (rest block : List ℕ) → length rest < 64 → block ≡ filled rest → set block (length rest) 0x80 ≡ rest ++ (0x80 ∷ replicate (63 - length rest) 0)
marked rest block h e =
    let k : 64 - length rest ≡ suc (63 - length rest) = omega arith in
    rw (e, k, set_at rest 0 (replicate (63 - length rest) 0) 0x80 (length rest) refl)

-- a block with its last eight bytes overwritten
pub ended : (block bits : List ℕ) → length block ≡ 64 → put_mid 56 8 block bits ≡ take 56 block ++ bits
ended block bits h =
    let none : drop 8 (drop 56 block) ≡ [] = drop-drop 8 56 block ∙ drop_all 64 block (omega arith) in
    ap (λ (ys : List ℕ). take 56 block ++ (bits ++ ys)) none ∙ ap (λ (ys : List ℕ). take 56 block ++ ys) (append-nil bits)

-- the padding in the block of the rest
pub one_block : (s rest last : List ℕ) (len : ℕ) → length rest ≤ 55 → length rest ≡ len % 64
    → last ≡ take 56 (rest ++ (0x80 ∷ replicate (63 - length rest) 0)) ++ be64 ((len * 8) % 2 ^ 64)
    → compressed s last ≡ whole s (rest ++ padding len)
unfolding padding
one_block s rest last len h e l =
    let bits : List ℕ = be64 ((len * 8) % 2 ^ 64) in
    let tail : List ℕ = 0x80 ∷ replicate (63 - length rest) 0 in
    let z : ℕ = 55 - length rest in
    let n : 56 ≡ length rest + suc z = omega arith in
    let front : take 56 (rest ++ tail) ≡ rest ++ (0x80 ∷ replicate z 0) =
    rw n (take-append-add rest tail (suc z) ∙ ap (λ (ys : List ℕ). rest ++ (0x80 ∷ ys)) (take-replicate z (63 - length rest) 0 (omega arith))) in
    let zeros : (119 - len % 64) % 64 ≡ z = omega arith in
    let same : last ≡ rest ++ padding len = l ∙ rw (front, zeros) (append_assoc rest (0x80 ∷ replicate z 0) bits) in
    let lp = length-padding len in
    let all : length (rest ++ padding len) ≡ 64 = length-append rest (padding len) ∙ omega arith in
    ap (compressed s) same ∙ sym (whole_one s (rest ++ padding len) all)

-- the padding in a block more
pub two_blocks : (s rest block last : List ℕ) (len : ℕ) → 55 < length rest → length rest < 64 → length rest ≡ len % 64
    → block ≡ rest ++ (0x80 ∷ replicate (63 - length rest) 0) → last ≡ take 56 (replicate 64 0) ++ be64 ((len * 8) % 2 ^ 64)
    → compressed (compressed s block) last ≡ whole s (rest ++ padding len)
unfolding padding
two_blocks s rest block last len g h e b l =
    let bits : List ℕ = be64 ((len * 8) % 2 ^ 64) in
    let front : List ℕ = replicate (63 - length rest) 0 in
    let zeros : replicate {A = ℕ} ((119 - len % 64) % 64) 0 ≡ front ++ replicate 56 0 =
    ap (λ (n : ℕ). replicate n 0) (omega arith) ∙ sym (replicate-append-replicate (63 - length rest) 56 0) in
    let same : block ++ last ≡ rest ++ padding len =
    rw (b, l, append_assoc rest (0x80 ∷ front) (replicate 56 0 ++ bits), zeros, append_assoc front (replicate 56 0) bits) in
    let first : length block ≡ 64 = ap length b ∙ simp (length-append, length-replicate) (omega arith) in
    let second : length last ≡ 64 = ap length l in
    sym (ap (whole s) (sym same) ∙ whole_first s block last first ∙ whole_one (compressed s block) last second)

-- the last blocks behind the others
pub finished : (s m rest state last : List ℕ) (n : ℕ) → state ≡ whole s m → rest ≡ drop (length m / 64 * 64) m
    → last ≡ whole state (rest ++ padding (n % 2 ^ 64)) → last ≡ whole s (m ++ padding n)
finished s m rest state last n a b c =
    let wraps = padding_wraps n in
    let split = whole_append s m (padding n) in
    cc
