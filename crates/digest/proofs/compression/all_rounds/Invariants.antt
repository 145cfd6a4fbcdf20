use Rattle.std.proofs.Common.{◌≡◌, length, take, fold}
use Rattle.std.specs.List.{zip}
use Rattle.digest.specs.Sha256.{round_of}
use Rattle.digest.proofs.compression.all_rounds.Given as goal

abbrev pub invariant-loop-k : goal.invariant-loop-k
invariant-loop-k l =
    let eights = l.initial.k-iterator in
    l.s ≡ fold (λ s q. fold (λ t p. round_of t p.0 p.1) s (zip q.0 q.1)) l.fn.first (take (length l.yielded) (zip eights.a.rest.now eights.b.rest.now))
