use Rattle.std.proofs.Common.{Some, length, subst}
use Rattle.flight.specs.Tables.{tables}
use Rattle.flight.specs.Sound.{FirstOk}
use Rattle.flight.proofs.Giving.{frame_as}
use Rattle.flight.proofs.machine.Machine.resume.Goals as goal

pub join-requires : goal.join-requires
join-requires c = record { poised = c.requires.poised; one = subst (FirstOk (length (tables c.args.self.now).values)) c.in-Some.is c.requires.first; two = c.requires.value }

pub returns-in-Some : goal.returns-in-Some
returns-in-Some c = frame_as c.args.code.nodes.now c.args.code.legs.now (tables c.args.self.now) c.args.frame c.args.v (Some c.in-Some.u) c.in-Some.is _ _ c.join.ensures
