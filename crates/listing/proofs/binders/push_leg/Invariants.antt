use Rattle.std.proofs.Common.{◌≡◌, ◌++◌, take}
use Rattle.plan.specs.Table.{nodes_of}
use Rattle.listing.specs.Binders.{bound_in, params}
use Rattle.listing.proofs.binders.push_leg.Given as goal

abbrev pub invariant-loop : goal.invariant-loop
invariant-loop l = l.kinds.items ≡ l.initial.kinds.items ++ params l.index

abbrev pub invariant-loop-row : goal.invariant-loop-row
invariant-loop-row l = l.kinds.items ≡ l.initial.kinds.items ++ bound_in (nodes_of (take l.row-index l.body))
