use Rattle.std.proofs.Common.{◌≡◌, ◌+◌, ◌*◌, [], ◌∷◌, ◌++◌, sym, ap, ◌∙◌, arith}
use Rattle.std.proofs.lemmas.Result.{err_from_is_err_and}
use Rattle.hexadecimal.specs.Decoding.{bytes_at, checked}
use Rattle.hexadecimal.proofs.Steps.{behind_none, found_byte, found_fault, pair_at}
use Rattle.hexadecimal.proofs.decode.check.Goals as goal

pub loop-i-init : goal.loop-i-init
loop-i-init c = ([], behind_none (bytes_at 0 c.args.hex.now))

pub returns-in_err-byte_at : goal.returns-in_err-byte_at
returns-in_err-byte_at c =
    let e = err_from_is_err_and c.from_residual.result c.from_residual.ensures.1 in
    let text = c.args.hex.now in
    let before = c.loop-i.invariant in
    let p = pair_at text c.as_chunks.result.0.now c.loop-i.i c.as_chunks.ensures.front (omega (arith, c.as_chunks.ensures.front_len)) in
    let fault = found_fault text before.0 (2 * c.loop-i.i) before.1 _ (omega (arith, c.as_chunks.ensures.front_len)) (sym (c.in_err-byte_at.ensures ∙ p)) in
    rw (e.1, e.2) (sym (ap checked fault))

pub loop-i-preserved : goal.loop-i-preserved
loop-i-preserved c =
    let text = c.args.hex.now in
    let before = c.loop-i.invariant in
    let next : 2 * (c.loop-i.i + 1) ≡ 2 * c.loop-i.i + 2 = omega arith in
    let p = pair_at text c.as_chunks.result.0.now c.loop-i.i c.as_chunks.ensures.front (omega (arith, c.as_chunks.ensures.front_len)) in
    let found = found_byte text before.0 (2 * c.loop-i.i) before.1 _ (omega (arith, c.as_chunks.ensures.front_len)) (sym (c.in_ok-byte_at.ensures ∙ p)) in
    (before.0 ++ c.in_ok-byte_at.field-0 ∷ [], rw next found)
