-- The worked examples, by computation, and the laws.
use Rattle.std.proofs.Common.{◌≡◌, ℕ, List, [], ◌∷◌, refl, arith}
use Rattle.digest.specs.Examples.{Examples}
use Rattle.digest.specs.Hmac.{hmac_sha256, key_block}
use Rattle.digest.specs.Laws.{DigestsHave32Bytes, DigestsAreOrdered, PaddingEndsABlock, ConstantsAreRoots, KeysMayEndInZeros}
use Rattle.digest.specs.Sha256.{constants, start, padding, bytes_of, first_words, next_word, grown, schedule}
use Rattle.digest.specs.Sha256.{temp1, temp2, round_of, rounds, sums, compressed, absorbed, whole, sha256}
use Rattle.digest.proofs.Filling.{zeros_at_the_end}
use Rattle.digest.proofs.Padding.{length-padding}
use Rattle.std.proofs.lemmas.Map.Lookups.{exact_bytes}
use Rattle.digest.proofs.Sizes.{sha256_digests, hmac_digests}
use Rattle.std.specs.Cmp.Lexicographic.{on_texts}

pub examples_hold : (d : List ℕ) → d ≡ sha256 (0x61 ∷ 0x62 ∷ 0x63 ∷ []) → Examples d
unfolding hmac_sha256 key_block constants start padding bytes_of first_words next_word grown schedule temp1 temp2 round_of rounds sums compressed absorbed whole sha256
examples_hold d e = record { this_digest = e; digest_of_abc = refl; seal_under_jefe = refl }

pub sizes : DigestsHave32Bytes
sizes = record { of_messages = sha256_digests; of_seals = hmac_digests }

pub ordered : DigestsAreOrdered
ordered = record {
  total = on_texts (λ d. d.bytes);
  apart = λ x y. exact_bytes x.bytes y.bytes;
}

pub ends_a_block : PaddingEndsABlock
ends_a_block = record {
  whole = λ n. let l = length-padding n in omega arith;
  least = λ n. let l = length-padding n in omega arith;
}

pub roots : ConstantsAreRoots
unfolding constants start
roots = record { cube = refl; square = refl }

pub zeros : KeysMayEndInZeros
zeros = record { same = zeros_at_the_end }
