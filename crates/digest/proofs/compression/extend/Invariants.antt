use Rattle.std.proofs.Common.{◌≡◌, ◌-◌, ◌*◌, length, take}
use Rattle.digest.specs.Sha256.{grown}
use Rattle.digest.proofs.compression.extend.Given as goal

abbrev pub invariant-loop-i : goal.invariant-loop-i
invariant-loop-i l = (take (8 * l.i) l.w ≡ grown l.fn.first (8 * l.i - 16)) × (length l.w ≡ 64)

abbrev pub invariant-loop-t : goal.invariant-loop-t
invariant-loop-t l = (take l.t l.w ≡ grown l.fn.first (l.t - 16)) × (length l.w ≡ 64)
