use Rattle.std.proofs.Common.{refl, ap, ◌∙◌, arith}
use Rattle.update.specs.Contents.{contents}
use Rattle.update.proofs.Written.{wrote_more, wrote_layout, or_empty}
use Rattle.update.proofs.writer.Writer.put_parts.Goals as goal

pub returns : goal.returns
returns c =
    let a = wrote_more (omega arith) c.put.ensures c.put-2.ensures in
    let b = wrote_more (omega arith) a c.put_address.ensures in
    let d = wrote_more (omega arith) b c.put_counted.ensures in
    let e = wrote_more (omega arith) d c.put_counted-2.ensures in
    let f = wrote_more (omega arith) e c.put-3.ensures in
    let seal = ap (λ s. s.now) c.unwrap_or.ensures ∙ or_empty c.args.parts.seal _ refl in
    wrote_layout _ _ (contents c.args.parts) _ _ _ c.map_byte.ensures c.to_be_bytes.ensures seal f
