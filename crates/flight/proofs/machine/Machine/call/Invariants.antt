use Rattle.flight.specs.Tables.{tables}
use Rattle.flight.specs.Calling.{Calling}
use Rattle.flight.proofs.machine.Machine.call.Given as goal

abbrev pub invariant-loop-k : goal.invariant-loop-k
invariant-loop-k l = Calling l.code.nodes.now l.code.legs.now (tables l.initial.self) (tables l.self) l.leg l.count l.spot l.k l.kid l.inner
