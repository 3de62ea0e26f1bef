use Rattle.std.proofs.Common.{sym}
use Rattle.flight.specs.Tables.{tables}
use Rattle.flight.proofs.Fly.{fly_done}
use Rattle.flight.proofs.machine.Machine.fly.Goals as goal

pub returns-clause-flies : goal.returns-clause-flies
returns-clause-flies g c =
    fly_done c.args.code.nodes.now c.args.code.legs.now c.args.n (g.B.Bay.readings c.args.bay.now) (tables c.args.self.now) c.args.self.now.control
    (g.B.Bay.readings c.loop-self.bay) (tables c.loop-self.self) c.loop-self.control c.loop-self.invariant.1 (sym c.loop-self-test.ensures)
