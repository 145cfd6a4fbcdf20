use Rattle.std.proofs.Common.{◌≡◌, ℕ, ◌*◌, List, drop}
use Rattle.hexadecimal.specs.Decoding.{bytes_at}
use Rattle.hexadecimal.proofs.Steps.{behind}
use Rattle.hexadecimal.proofs.decode.check.Given as goal

abbrev pub invariant-loop-i : goal.invariant-loop-i
invariant-loop-i l = (done : List ℕ) × (bytes_at 0 l.hex ≡ behind done (bytes_at (2 * l.i) (drop (2 * l.i) l.hex)))
