use Rattle.std.proofs.Common.{◌++◌, codes, decimal, sym, append_assoc}
use Rattle.std.proofs.Output.{has_written_of_eq}
use Rattle.update.specs.Contents.{contents}
use Rattle.inspect.specs.Shown.{parts_shown}
use Rattle.inspect.proofs.report.UpdateDisplay.fmt.Goals as goal

pub returns-clause-writes : goal.returns-clause-writes
returns-clause-writes g c plain ok =
    has_written_of_eq g.W.Write.write_str_gives _ _ _ _ (sym (append_assoc (codes "an update of " ++ decimal c.args.self.now.length) (codes " bytes") (parts_shown (contents c.args.self.now.parts)))) (c.write.ensures.writes plain ok)
