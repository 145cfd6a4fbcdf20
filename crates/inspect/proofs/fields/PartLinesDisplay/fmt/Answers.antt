use Rattle.std.proofs.Common.{refl, append_assoc, Some, rules}
use Rattle.std.proofs.Output.{has_written_of_eq}
use Rattle.inspect.proofs.Lines.{shown_there}
use Rattle.inspect.specs.Shown.{address_shown, predecessors_shown, seal_shown}
use Rattle.update.specs.Contents.{borrowed}
use Rattle.inspect.proofs.fields.PartLinesDisplay.fmt.Goals as goal

pub returns-clause-writes : goal.returns-clause-writes
returns-clause-writes g c plain ok =
    let parts = c.args.self.now.0 in
    let address = shown_there (λ line. Some (address_shown (Some line.0))) _ address_shown parts.address c.map.result c.map.ensures.cases refl (λ x y k. search rules) in
    let predecessors = shown_there (λ lines. Some (predecessors_shown (Some lines.0.now))) _ (λ o. predecessors_shown (borrowed o)) parts.predecessors c.map-2.result c.map-2.ensures.cases refl (λ x y k. search rules) in
    let seal = shown_there (λ line. Some (seal_shown (Some line.0.now))) _ (λ o. seal_shown (borrowed o)) parts.seal c.map-3.result c.map-3.ensures.cases refl (λ x y k. search rules) in
    let written = rw (address, predecessors, seal) at c.write.ensures.writes in
    has_written_of_eq g.W.Write.write_str_gives _ _ _ _ (simp append_assoc) (written plain ok)
