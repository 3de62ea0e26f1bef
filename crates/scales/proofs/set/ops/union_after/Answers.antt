use Rattle.std.proofs.Common.{ℕ, ◌+◌, sym, ◌∙◌, subst, arith}
use Rattle.scales.specs.Masks.{after}
use Rattle.scales.proofs.SetCode.{Gathered, gathered_none, gathered_skip, gathered_take, gathered_all, after_none, after_more}
use Rattle.scales.proofs.set.ops.union_after.Goals as goal
use Rattle.scales.proofs.set.ops.union_after.Goals.{then-has, else-has}

pub loop-n-init : goal.loop-n-init
loop-n-init g c = λ next acts. (gathered_none c.args.counts (after next c.args.first), after_none next c.args.first)

pub loop-n-preserved : goal.loop-n-preserved
loop-n-preserved g c = λ next acts.
    let S = after next c.args.first in
    let n = c.loop-n.n in
    let kept = c.loop-n.invariant next acts in (
      elim c.if-has.branch [
        | then-has w ↦ subst (Gathered c.args.counts S (n + 1)) (sym w.all-is) (gathered_take c.args.counts S n c.loop-n.all c.loop-n.stepped kept.0 (sym c.has.ensures ∙ w.if-has.true) (omega arith) kept.1)
        | else-has w ↦ subst (Gathered c.args.counts S (n + 1)) (sym w.all-is) (gathered_skip c.args.counts S n c.loop-n.all kept.0 (sym c.has.ensures ∙ w.if-has.false))
      ],
      after_more next c.args.first n c.loop-n.stepped c.step-stepped.result kept.1 (acts c.loop-n.stepped c.step-stepped.result c.step-stepped.ensures),
    )

pub returns : goal.returns
returns g c = λ next acts.
    gathered_all next c.args.counts c.args.first c.loop-n.all
    (subst (λ (n : ℕ). Gathered c.args.counts (after next c.args.first) n c.loop-n.all) (omega arith) (c.loop-n.invariant next acts).0)
