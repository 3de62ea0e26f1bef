use Rattle.std.proofs.Common.{◌≡◌, length, sym, ap, ◌∙◌, arith, rules}
use Rattle.plan.specs.Plans.{tree}
use Rattle.grading.specs.Least.{least, legs_grades, legs_binders, binder_count}
use Rattle.grader.specs.Walk.{put}
use Rattle.grader.proofs.Given.{tables_ready, granted, least_long}
use Rattle.grader.proofs.Params.{stores_at}
use Rattle.grader.proofs.grades.grade_plan.Goals as goal

pub binder_count-count-requires : goal.binder_count-count-requires
binder_count-count-requires g c =
    let e = c.in_ok-typed.ensures in
    let h = tables_ready c.in_ok-typed.typed.plan e.answer.0 e.answer.1 e.exactly c.as_slice-nodes.ensures.value c.as_slice-legs.ensures.value in
    record { spells = h.spells; order = h.order; ready = h.ready }

pub grade_legs-requires : goal.grade_legs-requires
grade_legs-requires g c =
    let e = c.in_ok-typed.ensures in
    let h = tables_ready c.in_ok-typed.typed.plan e.answer.0 e.answer.1 e.exactly c.as_slice-nodes.ensures.value c.as_slice-legs.ensures.value in
    let count = c.binder_count-count.ensures in
    record { spells = h.spells; ready = h.ready; binders = omega arith; room = omega arith }

pub returns : goal.returns
returns g c =
    let p = c.in_ok-typed.typed.plan in
    let e = c.in_ok-typed.ensures in
    let h = tables_ready p e.answer.0 e.answer.1 e.exactly c.as_slice-nodes.ensures.value c.as_slice-legs.ensures.value in
    let o = g.S.Scale.ops in
    let counted = c.binder_count-count.ensures in
    let count : c.binder_count-count.result ≡ binder_count (tree p) = counted ∙ ap legs_binders h.same in
    let stores =
    stores_at o (tree p) c.as_slice-nodes.result.now c.as_slice-legs.result.now h.spells h.order h.ready h.same c.args.answers.now c.grade_legs.new.answers (omega arith) c.grade_legs.ensures
    c.main_params.result c.main_params.ensures.first c.main_params.ensures.behind in (
      tree p,
      e.answer.0,
      (count, stores),
      (
        least o (tree p),
        granted o (length c.args.work.now) (length c.args.answers.now) c.args.bytes.now (tree p) e.answer.0 (omega arith) (omega arith),
        sym (least_long o (tree p)),
        c.grade_legs.ensures ∙ ap (λ ls. put 0 (legs_grades o ls) c.args.answers.now) h.same,
        search rules,
      ),
    )
