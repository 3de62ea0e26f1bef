use Rattle.std.proofs.Common.{◌≡◌, take}
use Rattle.plan.specs.Plans.{legs_in, Sound}
use Rattle.listing.specs.Binders.{leg_kinds}
use Rattle.listing.proofs.binders.binder_kinds.Given as goal

abbrev pub invariant-loop-k : goal.invariant-loop-k
invariant-loop-k l = Sound l.plan → l.kinds.items ≡ leg_kinds (legs_in l.plan.nodes.items (take l.k l.plan.legs.items))
