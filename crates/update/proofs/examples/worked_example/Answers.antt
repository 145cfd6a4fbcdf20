use Rattle.update.proofs.Worked.{worked}
use Rattle.update.proofs.examples.worked_example.Goals as goal

pub returns : goal.returns
returns c = worked
