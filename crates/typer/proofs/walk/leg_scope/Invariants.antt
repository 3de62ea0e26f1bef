use Rattle.std.proofs.Common.{◌≡◌, take}
use Rattle.typer.proofs.walk.leg_scope.Given as goal

abbrev pub invariant-loop-y : goal.invariant-loop-y
invariant-loop-y l = l.scope.items ≡ take l.y-index l.leg.params.items
