use Rattle.std.proofs.Common.{◌++◌, cond, length, Ok, Err, sym, ap, ap₂, ◌∙◌}
use Rattle.std.proofs.lemmas.Result.{err_from_is_err_and}
use Rattle.plan.specs.declared.faults.TypeFault.TheVariants.{«Type» as BadType}
use Rattle.plan.specs.Table.{term_at}
use Rattle.typer.specs.Walk.{world_in}
use Rattle.typer.specs.Levels.{levels}
use Rattle.typer.proofs.Legs.{leg_checked}
use Rattle.typer.proofs.world.World.type_leg.Goals as goal

pub returns-in_err-y-clause-answer : goal.returns-in_err-y-clause-answer
returns-in_err-y-clause-answer c =
    let p = err_from_is_err_and c.from_residual.result c.from_residual.ensures.1 in
    let plan = c.args.self.now.plan.now in
    rw (p.1, p.2) (sym (leg_checked (world_in plan) plan.nodes.items c.args.leg.now c.from-first.result c.leg_scope-scope.result.items (Err c.in_err-y.field-0.0) c.from-first.ensures c.leg_scope-scope.ensures c.in_err-y.ensures.answer))

pub returns-then-eq-clause-answer : goal.returns-then-eq-clause-answer
returns-then-eq-clause-answer c =
    let plan = c.args.self.now.plan.now in
    let g = c.args.leg.now in
    sym (leg_checked (world_in plan) plan.nodes.items g c.from-first.result c.leg_scope-scope.result.items (Ok c.in_ok-y.y) c.from-first.ensures c.leg_scope-scope.ensures c.in_ok-y.ensures.answer
    ∙ ap (λ b. cond b (Ok tt) (Err (BadType g.first))) (sym c.eq.ensures ∙ c.if-eq.true))

pub returns-then-eq-clause-levels : goal.returns-then-eq-clause-levels
returns-then-eq-clause-levels c =
    c.in_ok-y.ensures.levels ∙ ap₂ (λ ys i. c.args.levels.now.items ++ levels (length ys) (term_at c.args.self.now.plan.now.nodes.items i)) c.leg_scope-scope.ensures c.from-first.ensures

pub returns-else-eq-clause-answer : goal.returns-else-eq-clause-answer
returns-else-eq-clause-answer c =
    let plan = c.args.self.now.plan.now in
    let g = c.args.leg.now in
    ap (λ n. Err (BadType n)) c.from-first.ensures
    ∙ sym (leg_checked (world_in plan) plan.nodes.items g c.from-first.result c.leg_scope-scope.result.items (Ok c.in_ok-y.y) c.from-first.ensures c.leg_scope-scope.ensures c.in_ok-y.ensures.answer
    ∙ ap (λ b. cond b (Ok tt) (Err (BadType g.first))) (sym c.eq.ensures ∙ c.if-eq.false))
