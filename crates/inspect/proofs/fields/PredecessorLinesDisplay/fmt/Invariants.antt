use Rattle.std.proofs.Common.{take}
use Rattle.std.specs.Fmt.{IsPlainFormatter, HasWritten}
use Rattle.std.specs.List.{flat_map}
use Rattle.inspect.specs.Shown.{predecessor_line}
use Rattle.inspect.proofs.fields.PredecessorLinesDisplay.fmt.Given as goal

abbrev pub invariant-loop-digest : goal.invariant-loop-digest
invariant-loop-digest g l = IsPlainFormatter l.initial.f → HasWritten g.W.Write.write_str_gives l.initial.f (flat_map predecessor_line (take l.digest-index l.digests)) l.f
