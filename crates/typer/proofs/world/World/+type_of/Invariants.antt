use Rattle.std.proofs.Common.{◌≡◌, ◌-◌, length, vec_capacity}
use Rattle.plan.specs.Trees.{head, kids}
use Rattle.plan.specs.Table.{term_at}
use Rattle.typer.specs.Walk.{world_in, scope_of}
use Rattle.typer.proofs.Walking.{Walking}
use Rattle.typer.proofs.world.World.+type_of.Given as goal

abbrev pub decreases-type_of : goal.decreases-type_of
decreases-type_of l = length l.self.now.plan.now.nodes.items - l.at

abbrev pub invariant-loop : goal.invariant-loop
invariant-loop l =
    let ns = l.self.plan.now.nodes.items in
    let e = term_at ns l.at in
    (l.node ≡ head e) × (l.end ≡ length (kids e)) × (l.scope.items ≡ l.initial.scope.items) × (length l.kids.items ≡ l.counter) × (vec_capacity l.levels ≡ vec_capacity l.initial.levels)
    × Walking (world_in l.self.plan.now) (scope_of l.initial.scope.items) ns l.at e l.kids.items l.place l.initial.levels.items l.levels.items
