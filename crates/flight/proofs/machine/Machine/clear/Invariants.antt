use Rattle.flight.specs.Tables.{tables}
use Rattle.flight.specs.Spelled.{Storing}
use Rattle.flight.proofs.machine.Machine.clear.Given as goal

abbrev pub invariant-loop-i : goal.invariant-loop-i
invariant-loop-i l = Storing l.fn.code.nodes.now l.fn.code.legs.now l.main (tables l.self) l.i
