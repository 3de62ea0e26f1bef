use Rattle.std.proofs.Common.{◌≡◌, ◌<◌, ◌≤◌, length}
use Rattle.evaluation.specs.Flight.{at}
use Rattle.evaluation.specs.Flight.{Limits, kept, v_unit}
use Rattle.flight.specs.Nodes.{Runner}
use Rattle.flight.specs.Tables.{tables, size_at}
use Rattle.flight.specs.Means.{scope_at}
use Rattle.flight.specs.Sound.{Tabled}
use Rattle.flight.proofs.machine.Machine.find.Given as goal

abbrev pub invariant-loop-at : goal.invariant-loop-at
invariant-loop-at l =
    (l.at ≤ length (tables l.self).bindings) × (0 < l.at) × (l.level < size_at (tables l.self).bindings l.at)
    × (Tabled (tables l.self) → (E : Runner) (L : Limits) → at (kept v_unit) (scope_at E L (tables l.self).values (tables l.self).bindings l.at) l.level
    ≡ at (kept v_unit) (scope_at E L (tables l.self).values (tables l.self).bindings l.scope) l.level)

abbrev pub decreases-loop-at : goal.decreases-loop-at
decreases-loop-at l = l.at
