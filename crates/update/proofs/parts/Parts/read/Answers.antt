use Rattle.std.proofs.Common.{rules}
use Rattle.std.proofs.lemmas.List.{take_rest}
use Rattle.update.specs.Contents.{contents}
use Rattle.outcome.proofs.Steps.{answers_as}
use Rattle.update.proofs.Texts.{bytes_fit, accepts_texts}
use Rattle.update.proofs.parts.Parts.read.Goals as goal

pub returns : goal.returns
returns c =
    let a = answers_as contents c.fields.result (simp take_rest (search rules)) c.fields.ensures in
    record { answer = a; accepts_texts = accepts_texts c.args.text.now c.fields.result (bytes_fit c.args.text.now c.type_inv.text) a }
