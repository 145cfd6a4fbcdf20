-- Worked examples: one that FIPS 180-4's authors publish, and the second test case of RFC 4231.
use Rattle.std.specs.Prelude.{◌≡◌, ℕ, List, ◌++◌, replicate, codes}
use Rattle.hexadecimal.specs.Showing.{shown_bytes}
use Rattle.digest.specs.Hmac.{hmac_sha256}
use Rattle.digest.specs.Sha256.{sha256}

-- d is the digest of "abc"
pub record Examples (d : List ℕ) : Type 0 where
  pub this_digest : d ≡ sha256 (codes "abc")
  pub digest_of_abc : shown_bytes (sha256 (codes "abc")) ≡ codes "ba7816bf8f01cfea414140de5dae2223b00361a396177a9cb410ff61f20015ad"
  -- the key is filled with zeros to 32 bytes
  pub seal_under_jefe : shown_bytes (hmac_sha256 (codes "Jefe" ++ replicate 28 0) (codes "what do ya want for nothing?"))
      ≡ codes "5bdcc146bf60754e6a042426089575c75a003f089d2739839dec58b964ec3843"
