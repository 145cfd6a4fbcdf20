use Rattle.std.proofs.Common.{[], arith, rules}
use Rattle.std.proofs.Output.{has_written_of_eq, has_written_append}
use Rattle.hexadecimal.proofs.Printing.{pieces_more}
use Rattle.inspect.specs.Shown.{predecessor_line}
use Rattle.inspect.proofs.fields.PredecessorLinesDisplay.fmt.Goals as goal

pub loop-digest-preserved : goal.loop-digest-preserved
loop-digest-preserved g c plain =
    has_written_of_eq _ _ _ _ _ (pieces_more predecessor_line c.as_chunks.result.0.now c.loop-digest.digest-index [] (omega arith))
    (has_written_append _ _ _ _ _ _ (c.loop-digest.invariant plain) (search rules))
