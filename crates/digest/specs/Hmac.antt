-- HMAC over SHA-256, as RFC 2104 defines it.
use Rattle.std.specs.Prelude.{ℕ, ◌-◌, cond, List, ◌++◌, length, map, replicate, bit_xor, nat_lt}
use Rattle.digest.specs.Sha256.{sha256}

-- each byte, xored with x
abbrev pub xored : ℕ → List ℕ → List ℕ
xored x = map (λ b. bit_xor b x)

-- a key of more bytes than a block has is replaced by its digest
abbrev pub short_key : List ℕ → List ℕ
short_key key = cond (nat_lt 64 (length key)) (sha256 key) key

-- the key with zeros up to a block
abbrev pub filled : List ℕ → List ℕ
filled key = key ++ replicate (64 - length key) 0

unfoldable pub key_block : ℕ → List ℕ → List ℕ
key_block x key = xored x (filled (short_key key))

unfoldable pub hmac_sha256 : List ℕ → List ℕ → List ℕ
hmac_sha256 key m = sha256 (key_block 0x5c key ++ sha256 (key_block 0x36 key ++ m))
