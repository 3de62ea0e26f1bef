use Rattle.std.proofs.Common.{vec_items}
use Rattle.flight.specs.Tables.{tables}
use Rattle.flight.proofs.Step.{given}
use Rattle.flight.proofs.machine.Machine.give.Goals as goal

pub resume-requires : goal.resume-requires
resume-requires c =
    given c.args.code.nodes.now c.args.code.legs.now (tables c.args.self.now) c.args.v c.requires.ready (vec_items c.pop.new.self) c.in-Some.frame c.in-Some.ensures.items
