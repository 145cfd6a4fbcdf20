use Rattle.std.proofs.Common.{◌≡◌, take, fold}
use Rattle.digest.specs.Sha256.{compressed}
use Rattle.digest.proofs.hash.absorb.Given as goal

abbrev pub invariant-loop-block : goal.invariant-loop-block
invariant-loop-block l = l.s ≡ fold compressed l.fn.first (take l.block-index l.block-items)
