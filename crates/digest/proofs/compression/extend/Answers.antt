use Rattle.std.proofs.Common.{◌≡◌, ◌+◌, ◌*◌, ◌<◌, length, sym, ◌∙◌, arith, length-set, length-append}
use Rattle.std.proofs.lemmas.List.{take_all, take_at}
use Rattle.digest.specs.Sha256.{grown, next_word}
use Rattle.digest.proofs.Schedule.{grown_more}
use Rattle.digest.proofs.compression.extend.Goals as goal

pub loop-i-init : goal.loop-i-init
unfolding grown
loop-i-init c =
    let long = c.copy_from_slice.ensures.len in
    (take_at c.copy_from_slice.new.self _ 16 long ∙ c.copy_from_slice.ensures.after, rw (length-append, long))

pub loop-t-preserved : goal.loop-t-preserved
unfolding next_word
loop-t-preserved c =
    let w = c.loop-t.w in
    let t = c.loop-t.t in
    let inside : t < length w = omega arith in
    let more = grown_more c.args.first w t (omega arith) inside c.loop-t.invariant.0 in
    (cc, simp length-set c.loop-t.invariant.1)

pub loop-i-preserved : goal.loop-i-preserved
loop-i-preserved c =
    let more : 8 * (c.loop-i.i + 1) ≡ c.loop-t.t = omega arith in
    (rw more c.loop-t.invariant.0, c.loop-t.invariant.1)

pub returns : goal.returns
returns c =
    let e : 8 * c.loop-i.i ≡ 64 = omega arith in
    sym (take_all (8 * c.loop-i.i) c.loop-i.w (omega arith)) ∙ c.loop-i.invariant.0 ∙ rw e
