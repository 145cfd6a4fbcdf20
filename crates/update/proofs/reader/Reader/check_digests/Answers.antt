use Rattle.std.proofs.Common.{◌≡◌, suc, ◌+◌, ◌-◌, sym, ◌∙◌, arith}
use Rattle.std.proofs.lemmas.Result.{err_from_is_err_and}
use Rattle.update.proofs.Ascending.{ascending_more, ascending_cut, ascending_not}
use Rattle.update.proofs.reader.Reader.check_digests.Goals as goal

pub returns-in_err-digest : goal.returns-in_err-digest
returns-in_err-digest c =
    let p = err_from_is_err_and c.from_residual.result c.from_residual.ensures.1 in
    let n : c.args.count - c.loop-k._k ≡ suc (c.args.count - (c.loop-k._k + 1)) = omega arith in
    rw (p.1, p.2) (sym c.loop-k.invariant ∙ ascending_cut _ _ _ _ _ _ n c.in_err-digest.ensures.0)

pub returns-then-not-is_below : goal.returns-then-not-is_below
returns-then-not-is_below c =
    let n : c.args.count - c.loop-k._k ≡ suc (c.args.count - (c.loop-k._k + 1)) = omega arith in
    rw c.place-place.ensures (sym c.loop-k.invariant ∙ ascending_not _ _ _ _ _ _ n c.in_ok-digest.ensures.0 (sym c.if-not-is_below.ensures))

pub loop-k-preserved : goal.loop-k-preserved
loop-k-preserved c =
    let n : c.args.count - c.loop-k._k ≡ suc (c.args.count - (c.loop-k._k + 1)) = omega arith in
    rw c.in_ok-digest.ensures.1 (sym (ascending_more _ _ _ _ _ _ n c.in_ok-digest.ensures.0 (sym c.if-not-is_below.ensures)) ∙ c.loop-k.invariant)
