use Rattle.std.proofs.Common.{◌∙◌, [], refl}
use Rattle.update.proofs.Ascending.{ascending_anywhere}
use Rattle.outcome.proofs.Steps.{answers_ok}
use Rattle.update.proofs.writer.are_ascending.Goals as goal

pub returns : goal.returns
returns c =
    c.is_ok.ensures.value ∙ answers_ok _ _ _ c.check_digests.ensures ∙ ascending_anywhere c.new.result.total 0 c.args.count [] c.new.result.rest.now ∙ rw c.new.ensures.rest refl
