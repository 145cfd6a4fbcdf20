use Rattle.std.proofs.Common.{◌≡◌}
use Rattle.hash_chain.specs.Chain.{chained}
use Rattle.hash_chain.proofs.last_of.Given as goal

abbrev pub invariant-loop-i : goal.invariant-loop-i
invariant-loop-i l = l.digest.bytes ≡ chained l._i
