use Rattle.std.proofs.Common.{◌≡◌, length, take, fold}
use Rattle.std.specs.List.{zip}
use Rattle.digest.specs.Sha256.{round_of}
use Rattle.digest.proofs.compression.eight_rounds.Given as goal

abbrev pub invariant-loop-k : goal.invariant-loop-k
invariant-loop-k l = l.s ≡ fold (λ s p. round_of s p.0 p.1) l.fn.first (take (length l.yielded) (zip l.constants l.words))
