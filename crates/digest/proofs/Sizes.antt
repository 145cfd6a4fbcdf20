-- Every digest has 32 bytes.
use Rattle.std.proofs.Common.{◌≡◌, ℕ, zero, suc, ◌*◌, ◌/◌, ◌<◌, List, [], ◌∷◌, ◌++◌, length, get_or, take, drop, refl, ap, ◌∙◌, arith}
use Rattle.digest.specs.Hmac.{key_block, hmac_sha256}
use Rattle.digest.specs.Laws.{IsDigest}
use Rattle.digest.specs.Sha256.{absorbed, compressed, sums, bytes_of, whole, sha256, start, padding}

length-absorbed : (n : ℕ) (s m : List ℕ) → length s ≡ 8 → length (absorbed n s m) ≡ 8
unfolding absorbed compressed sums
length-absorbed zero s m h = h
length-absorbed (suc n) s m h = length-absorbed n (compressed s (take 64 m)) (drop 64 m) refl

length-bytes : (xs : List ℕ) → length (bytes_of xs) ≡ 4 * length xs
unfolding bytes_of
length-bytes [] = refl
length-bytes (x ∷ xs) = let e = length-bytes xs in omega arith

bytes_below : (xs : List ℕ) (k : ℕ) → get_or (bytes_of xs) k 0 < 256
unfolding bytes_of
bytes_below [] k = omega arith
bytes_below (x ∷ xs) zero = omega arith
bytes_below (x ∷ xs) (suc zero) = omega arith
bytes_below (x ∷ xs) (suc (suc zero)) = omega arith
bytes_below (x ∷ xs) (suc (suc (suc zero))) = omega arith
bytes_below (x ∷ xs) (suc (suc (suc (suc k)))) = bytes_below xs k

pub sha256_digests : (m : List ℕ) → IsDigest (sha256 m)
unfolding sha256 whole start
sha256_digests m =
    let p : List ℕ = m ++ padding (length m) in
    record {
      size = length-bytes (whole start p) ∙ ap (λ (k : ℕ). 4 * k) (length-absorbed (length p / 64) start p refl);
      below = bytes_below (whole start p);
    }

pub hmac_digests : (key m : List ℕ) → IsDigest (hmac_sha256 key m)
unfolding hmac_sha256
hmac_digests key m = sha256_digests (key_block 0x5c key ++ sha256 (key_block 0x36 key ++ m))
