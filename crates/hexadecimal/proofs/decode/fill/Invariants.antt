use Rattle.hexadecimal.proofs.Steps.{Filled}
use Rattle.hexadecimal.proofs.decode.fill.Given as goal

abbrev pub invariant-loop-i : goal.invariant-loop-i
invariant-loop-i l = Filled l.hex l.initial.out l.i l.out
