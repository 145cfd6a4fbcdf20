use Rattle.std.proofs.Common.{◌*◌, take, sym, ◌∙◌, arith}
use Rattle.hexadecimal.proofs.Steps.{found_fault, not_both, filled_more, filled_all, pair_at}
use Rattle.hexadecimal.proofs.decode.fill.Goals as goal
use Rattle.hexadecimal.proofs.decode.fill.Goals.{in-Ok, in_default}

pub loop-i-preserved : goal.loop-i-preserved
loop-i-preserved c =
    let text = c.args.hex.now in
    let out = c.loop-i.out in
    let i = c.loop-i.i in
    let p = c.byte_at.ensures ∙ pair_at text c.as_chunks.result.0.now i c.as_chunks.ensures.front (omega (arith, c.as_chunks.ensures.front_len)) in
    elim c.match-byte_at.branch [
      | in-Ok w ↦ rw w.out-is (filled_more text c.args.out.now out i w.in-Ok.byte c.loop-i.invariant (omega arith) (omega (arith, c.as_chunks.ensures.front_len)) (sym p ∙ w.in-Ok.is))
      | in_default w ↦ absurd (not_both _ _ c.requires.no_fault (found_fault text (take i out) (2 * i) c.loop-i.invariant.front _ (omega (arith, c.as_chunks.ensures.front_len)) (sym p ∙ w.in_default.is)))
    ]

pub returns : goal.returns
returns c = filled_all c.args.hex.now c.args.out.now c.loop-i.out c.loop-i.i c.loop-i.invariant (omega (arith, c.as_chunks.ensures.front_len)) (omega arith) c.requires.no_fault
