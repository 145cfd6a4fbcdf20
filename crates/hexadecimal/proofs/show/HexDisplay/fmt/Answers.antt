use Rattle.std.proofs.Common.{arith, rules}
use Rattle.std.proofs.Output.{has_written_of_eq, has_written_append}
use Rattle.hexadecimal.specs.Showing.{byte_shown}
use Rattle.hexadecimal.proofs.Printing.{pieces_more}
use Rattle.hexadecimal.proofs.show.HexDisplay.fmt.Goals as goal

pub loop-b-preserved : goal.loop-b-preserved
loop-b-preserved g c plain =
    has_written_of_eq _ _ _ _ _ (pieces_more byte_shown c.args.self.now.bytes.now c.loop-b.b-index 0 (omega arith))
    (has_written_append _ _ _ _ _ _ (c.loop-b.invariant plain) (search rules))
