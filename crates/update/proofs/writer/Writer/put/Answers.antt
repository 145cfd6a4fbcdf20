use Rattle.std.proofs.Common.{◌≤◌, length, refl, ap, ◌∙◌, arith}
use Rattle.std.proofs.lemmas.List.Edits.{length-paste}
use Rattle.std.proofs.lemmas.Slice.{put_mid-paste}
use Rattle.outcome.specs.Buffers.{placed}
use Rattle.update.proofs.writer.Writer.put.Goals as goal

pub returns : goal.returns
unfolding placed
returns c =
    let out = c.args.self.now.out.now in
    let part = c.args.part.now in
    let whole : length part ≤ length part = omega arith in
    let bytes = put_mid-paste _ _ out _ part _ c.copy_from_slice.ensures.after (omega arith) refl in
    record { same = refl; bytes = bytes; size = ap length bytes ∙ length-paste out c.args.self.now.end part (length part) c.requires whole; end = refl }
