-- What holds of every digest and seal. Callers use these laws, and never look inside the definitions.
use Rattle.std.specs.Prelude.{◌≡◌, ℕ, ◌+◌, ◌%◌, ◌<◌, ◌≤◌, true, List, ◌++◌, length, replicate, slice_index}
use Rattle.std.specs.declared.cmp.Ordering.TheVariants.{Equal}
use Rattle.std.specs.Cmp.{IsTotalOrder}
use Rattle.digest.specs.declared.Digest.{Digest}
use Rattle.digest.specs.Hmac.{hmac_sha256}
use Rattle.digest.specs.Order.{digest_rank}
use Rattle.digest.specs.Roots.{primes, are_fractions}
use Rattle.digest.specs.Sha256.{constants, start, padding, sha256}

pub record IsDigest (d : List ℕ) : Type 0 where
  pub size : length d ≡ 32
  pub below : (i : ℕ) → slice_index d i < 256

pub record DigestsHave32Bytes : Type 0 where
  pub of_messages : (m : List ℕ) → IsDigest (sha256 m)
  pub of_seals : (key m : List ℕ) → IsDigest (hmac_sha256 key m)

-- their order is total, and tells any two apart
pub record DigestsAreOrdered : Type 0 where
  pub total : IsTotalOrder digest_rank
  pub apart : (x y : Digest) → digest_rank x y ≡ Equal → x.bytes ≡ y.bytes

-- the padding of a message of n bytes ends a block, and has fewer zeros than a block has bytes
pub record PaddingEndsABlock : Type 0 where
  pub whole : (n : ℕ) → (n + length (padding n)) % 64 ≡ 0
  pub least : (n : ℕ) → length (padding n) < 9 + 64

-- the round constants are the fractions of the cube roots of the first 64 primes, and the initial hash value
-- those of the square roots of the first 8
pub record ConstantsAreRoots : Type 0 where
  pub cube : are_fractions 3 (primes 311) constants ≡ true
  pub square : are_fractions 2 (primes 19) start ≡ true

-- zeros at the end of a key make no difference, as long as it is no longer than a block
pub record KeysMayEndInZeros : Type 0 where
  pub same : (key m : List ℕ) (n : ℕ) → length key + n ≤ 64 → hmac_sha256 (key ++ replicate n 0) m ≡ hmac_sha256 key m
