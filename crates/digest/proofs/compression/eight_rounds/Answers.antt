use Rattle.std.proofs.Common.{ap, ◌∙◌, fold, arith}
use Rattle.std.proofs.lemmas.Iterator.{YieldsList-from_slice, YieldsList-from_zip}
use Rattle.std.proofs.lemmas.Iterator.Consumers.{YieldsList-turn, YieldsList-end}
use Rattle.std.proofs.lemmas.List.{length_push, take_all}
use Rattle.std.specs.List.{zip}
use Rattle.digest.specs.Sha256.{round_of}
use Rattle.digest.proofs.Schedule.{fold_turn}
use Rattle.digest.proofs.compression.eight_rounds.Goals as goal

pub loop-k-preserved : goal.loop-k-preserved
loop-k-preserved c =
    let all = YieldsList-from_zip {s = c.into_iter-k-iterator.result} (YieldsList-from_slice c.args.constants.now cc) (YieldsList-from_slice c.args.words.now cc) in
    let turn = YieldsList-turn all c.loop-k.yielded c.loop-k.k-iterator c.loop-k.yielded_by c.next.result c.next.new.self (c.in-Some.k, c.in-Some.w) c.in-Some.is c.next.ensures.steps in
    fold_turn (λ s p. round_of s p.0 p.1) c.args.first c.loop-k.s c.round-next.result _ _ _ (c.in-Some.k.now, c.in-Some.w.now) c.loop-k.invariant turn.0 turn.1 c.round-next.ensures (length_push c.loop-k.yielded _)

pub returns : goal.returns
returns c =
    let all = YieldsList-from_zip {s = c.into_iter-k-iterator.result} (YieldsList-from_slice c.args.constants.now cc) (YieldsList-from_slice c.args.words.now cc) in
    let end = YieldsList-end all c.loop-k.yielded c.loop-k.k-iterator c.loop-k.yielded_by c.next.result c.next.new.self c.in-None.is c.next.ensures.steps in
    c.loop-k.invariant ∙ ap (fold (λ s p. round_of s p.0 p.1) c.args.first) (take_all _ (zip c.args.constants.now c.args.words.now) (omega (arith, end.1)))
