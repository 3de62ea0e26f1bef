use Rattle.std.proofs.Common.{ap, subst, ◌∙◌, arith}
use Rattle.grader.proofs.Params.{Filling, fill_more, fill_none, fill_all}
use Rattle.grader.proofs.stores.eight_ceilings.Goals as goal
use Rattle.grader.proofs.stores.eight_ceilings.Goals.{in-Some, in_default}

pub loop-i-preserved : goal.loop-i-preserved
loop-i-preserved g c =
    let f = g.S.Scale.ops.ceiling in
    let kept = c.loop-i.invariant in
    elim c.match-get.branch [
      | in-Some w ↦ (let y = w.in-Some.ensures.lookup.3 in fill_more f kept c.loop-i-test.true _ w.ceiling-items-is y.0 (λ x. w.ceiling.ensures ∙ ap f (y.1 x)))
      | in_default w ↦ fill_none f kept c.loop-i-test.true _ w.ceiling-items-is w.in_default.ensures.lookup.3 (kept.later _ _ (omega arith) c.loop-i-test.true)
    ]

pub returns : goal.returns
returns g c =
    fill_all g.S.Scale.ops.ceiling g.S.Scale.ops.zero (subst (Filling g.S.Scale.ops.ceiling c.args.grades.now c.loop-i.ceiling-items) (omega arith) c.loop-i.invariant)
