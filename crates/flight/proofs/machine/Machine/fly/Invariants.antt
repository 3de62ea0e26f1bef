use Rattle.std.proofs.Common.{◌≡◌}
use Rattle.flight.specs.Tables.{tables}
use Rattle.flight.specs.Sound.{left}
use Rattle.flight.specs.Fly.{Flying}
use Rattle.flight.proofs.machine.Machine.fly.Given as goal

abbrev pub invariant-loop-self : goal.invariant-loop-self
invariant-loop-self g l =
    (l.from ≡ l.initial.self.begun)
    × Flying l.code.nodes.now l.code.legs.now l.n (g.B.Bay.readings l.initial.bay) (tables l.initial.self) l.initial.control (g.B.Bay.readings l.bay) (tables l.self) l.control

abbrev pub decreases-loop-self : goal.decreases-loop-self
decreases-loop-self g l = left (tables l.self) l.control
