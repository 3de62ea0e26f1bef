use Rattle.std.proofs.Common.{Ok, sym, ap, ◌∙◌, subst}
use Rattle.plan.specs.Plans.{tree}
use Rattle.typer.specs.declared.TypedPlan.{TypedPlan}
use Rattle.flight.specs.Flights.{Flies}
use Rattle.flight.proofs.flight.Flight.load.Goals as goal

pub over-requires : goal.over-requires
over-requires c =
    let a = c.in_ok-plan.ensures in
    (a.answer.1, ((a.exactly (tree c.in_ok-plan.plan.plan)).accepted a.answer.0).1)

pub returns : goal.returns
returns c =
    let a = c.in_ok-plan.ensures in
    let m = c.over.result in
    let e = c.over.ensures.plan in
    (a.answer.0 ∙ ap (λ (q : TypedPlan). Ok (tree q.plan)) (sym e), λ y. subst (λ (q : TypedPlan). Flies m (tree q.plan) y 0 y) (sym e) (c.over.ensures.begun y))
