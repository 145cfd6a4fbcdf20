-- Keys with zeros behind them.
use Rattle.std.proofs.Common.{◌≡◌, ℕ, ◌+◌, ◌-◌, ◌≤◌, List, ◌++◌, length, map, replicate, sym, ap, ◌∙◌, append_assoc, arith, length-append}
use lib.Bits.{bit_xor}
use lib.ListN.{length-replicate, replicate-append-replicate}
use Rattle.std.proofs.lemmas.Bool.{le-ltb}
use Rattle.digest.specs.Hmac.{short_key, filled, xored, key_block, hmac_sha256}

short : (key : List ℕ) → length key ≤ 64 → short_key key ≡ key
short key h = rw (le-ltb 64 (length key) h)

pub length-filled : (key : List ℕ) → length key ≤ 64 → length (filled key) ≡ 64
length-filled key h = simp (length-append, length-replicate) (omega arith)

-- each byte of the filled key, xored
pub key_padded : (x : ℕ) (key : List ℕ) → length key ≤ 64 → map (λ b. bit_xor b x) (filled key) ≡ key_block x key
unfolding key_block
key_padded x key h = rw (short key h)

filled_more : (key : List ℕ) (n : ℕ) → length key + n ≤ 64 → filled (key ++ replicate n 0) ≡ filled key
filled_more key n h =
    let left : n + (64 - length (key ++ replicate n 0)) ≡ 64 - length key = simp (length-append, length-replicate) (omega arith) in
    append_assoc key (replicate n 0) (replicate (64 - length (key ++ replicate n 0)) 0)
    ∙ ap (λ (zeros : List ℕ). key ++ zeros) (replicate-append-replicate n (64 - length (key ++ replicate n 0)) 0 ∙ ap (λ (k : ℕ). replicate k 0) left)

key_block_more : (x : ℕ) (key : List ℕ) (n : ℕ) → length key + n ≤ 64 → key_block x (key ++ replicate n 0) ≡ key_block x key
unfolding key_block
key_block_more x key n h =
    let a : length (key ++ replicate n 0) ≤ 64 = simp (length-append, length-replicate) h in
    let b : length key ≤ 64 = omega arith in
    ap (xored x) (ap filled (short (key ++ replicate n 0) a) ∙ filled_more key n h ∙ ap filled (sym (short key b)))

pub zeros_at_the_end : (key m : List ℕ) (n : ℕ) → length key + n ≤ 64 → hmac_sha256 (key ++ replicate n 0) m ≡ hmac_sha256 key m
unfolding hmac_sha256
zeros_at_the_end key m n h = rw (key_block_more 0x5c key n h, key_block_more 0x36 key n h)
