use Rattle.std.proofs.Common.{arith}
use Rattle.std.proofs.lemmas.List.{take_all}
use Rattle.digest.proofs.Blocks.{whole_folded}
use Rattle.digest.proofs.hash.absorb.Goals as goal

pub returns : goal.returns
returns c =
    let all = take_all c.loop-block.block-index c.as_chunks.result.0.now (omega arith) in
    let blocks = whole_folded c.args.first c.args.blocks.now in
    let front = c.as_chunks.ensures.front in
    cc
