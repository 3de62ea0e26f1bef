use Rattle.std.proofs.Common.{◌+◌, ◌≤◌, length, take, sym, ap, ◌∙◌, subst}
use Rattle.std.proofs.lemmas.List.{get_or_default}
use Rattle.plan.specs.Plans.{leg_in}
use Rattle.typer.specs.Walk.{no_leg}
use Rattle.grading.specs.Least.{leg_grades}
use Rattle.grader.specs.Walk.{lower_needs, put}
use Rattle.grader.proofs.Legs.{room_for, next_leg}
use Rattle.grader.proofs.walk.grade_legs.Goals as goal

pub grade_leg-requires-clause-binders : goal.grade_leg-requires-clause-binders
grade_leg-requires-clause-binders g c =
    let o = g.S.Scale.ops in
    let ns = c.args.nodes.now in
    let gs = c.args.legs.now in
    let k = c.loop-k.k in
    let lt = c.loop-k-test.true in
    let leg_is = c.index-legs-k.is ∙ get_or_default gs k c.index-legs-k.result no_leg lt in
    subst (λ f. f.binder.index + length (leg_grades o (lower_needs o ns (take k gs)) (leg_in ns f)) ≤ length c.loop-k.answers) (sym leg_is)
    (room_for o ns gs c.args.answers.now k c.loop-k.answers c.loop-k.invariant lt c.requires.ready c.requires.binders)

pub loop-k-preserved : goal.loop-k-preserved
loop-k-preserved g c =
    let o = g.S.Scale.ops in
    let ns = c.args.nodes.now in
    let gs = c.args.legs.now in
    let k = c.loop-k.k in
    let lt = c.loop-k-test.true in
    let leg_is = c.index-legs-k.is ∙ get_or_default gs k c.index-legs-k.result no_leg lt in
    next_leg o ns gs c.args.answers.now k c.loop-k.answers c.loop-k.invariant lt c.requires.ready c.requires.binders c.grade_leg.new.answers
    (c.grade_leg.ensures ∙ ap (λ f. put f.binder.index (leg_grades o (lower_needs o ns (take k gs)) (leg_in ns f)) c.loop-k.answers) leg_is)
