use Rattle.std.proofs.Common.{◌≡◌, ◌∷◌, ◌++◌, [], drop, vec_capacity}
use Rattle.typer.specs.Walk.{world_in}
use Rattle.typer.proofs.Legs.{AtLeg}
use Rattle.typer.proofs.walk.type_legs.Given as goal

abbrev pub invariant-loop-leg : goal.invariant-loop-leg
invariant-loop-leg l =
    (vec_capacity l.levels ≡ vec_capacity l.initial.levels)
    × AtLeg (world_in l.plan) l.plan.nodes.items l.plan.legs.items (drop l.leg-index l.lower ++ l.main ∷ []) l.levels.items
