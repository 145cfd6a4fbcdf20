-- Messages of 363 bytes, each beginning with the digest of the one before it.
use Rattle.std.specs.Prelude.{ℕ, zero, suc, List, ◌++◌, replicate}
use Rattle.digest.specs.Sha256.{sha256}

unfoldable pub zeros : ℕ → List ℕ
zeros n = replicate n 0

-- the digest of the n-th message
unfoldable pub chained : ℕ → List ℕ
chained zero = zeros 32
chained (suc n) = sha256 (chained n ++ zeros 331)
