use Rattle.std.proofs.Common.{sym, ◌∙◌, rules}
use Rattle.outcome.proofs.Ranking.{first_decides_rank, first_passes_rank}
use Rattle.digest.proofs.value.order.Goals as goal

pub returns-then-x-y : goal.returns-then-x-y
returns-then-x-y c =
    let steps = c.in-Some.ensures.steps in
    c.cmp.ensures ∙ sym (c.loop-x.invariant.0 ∙ first_decides_rank _ _ _ _ _ _ steps.0 steps.1 c.if-x-y.true)

pub loop-x-preserved : goal.loop-x-preserved
loop-x-preserved c =
    let steps = c.in-Some.ensures.steps in
    (c.loop-x.invariant.0 ∙ first_passes_rank _ _ _ _ _ _ steps.0 steps.1 c.if-x-y.false, search rules)
