use Rattle.std.proofs.Common.{◌≡◌, ◌/◌, length, ap, ◌∙◌, refl, fold, rules}
use Rattle.std.proofs.lemmas.Iterator.{YieldsList-from_slice, YieldsList-from_zip}
use Rattle.std.proofs.lemmas.Iterator.Consumers.{YieldsList-turn, YieldsList-end}
use Rattle.std.proofs.lemmas.List.{length_push}
use Rattle.std.specs.List.{zip}
use Rattle.std.specs.Simd.{first_chunks}
use Rattle.digest.specs.Sha256.{constants, round_of}
use Rattle.digest.proofs.Schedule.{fold_turn, eights_done}
use Rattle.digest.proofs.compression.all_rounds.Goals as goal

pub loop-k-preserved : goal.loop-k-preserved
loop-k-preserved c =
    let all = YieldsList-from_zip {s = c.into_iter-k-iterator.result} (YieldsList-from_slice _ refl) (YieldsList-from_slice _ refl) in
    let turn = YieldsList-turn all c.loop-k.yielded c.loop-k.k-iterator c.loop-k.yielded_by c.next.result c.next.new.self (c.in-Some.k, c.in-Some.w) c.in-Some.is c.next.ensures.steps in
    fold_turn (λ s q. fold (λ t p. round_of t p.0 p.1) s (zip q.0 q.1)) c.args.first c.loop-k.s c.eight_rounds-next.result _ _ _ (c.in-Some.k.now, c.in-Some.w.now) c.loop-k.invariant turn.0 turn.1 c.eight_rounds-next.ensures (length_push c.loop-k.yielded _)

pub returns : goal.returns
unfolding constants
returns c =
    let eights = c.into_iter-k-iterator.result in
    let all = YieldsList-from_zip {s = eights} (YieldsList-from_slice _ refl) (YieldsList-from_slice _ refl) in
    let end = YieldsList-end all c.loop-k.yielded c.loop-k.k-iterator c.loop-k.yielded_by c.next.result c.next.new.self c.in-None.is c.next.ensures.steps in
    let given = c.into_iter-k-iterator.ensures.into_iter_gives in
    let table : c.as_chunks.result.0.now ≡ first_chunks 8 8 constants = search rules in
    let many : length c.args.w ≡ 64 = search rules in
    eights_done c.args.w c.args.first c.loop-k.s eights.a.rest.now eights.b.rest.now _ many
    (ap (λ i. i.a.rest.now) given ∙ ap (λ i. i.rest.now) c.zip-k-items.ensures.first ∙ c.iter.ensures.rest ∙ table)
    (ap (λ i. i.b.rest.now) given ∙ c.zip-k-items.ensures.second.0 ∙ c.as_chunks-2.ensures.front ∙ ap (λ n. first_chunks 8 (n / 8) c.args.w) many)
    end.1 c.loop-k.invariant
