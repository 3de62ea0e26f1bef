use Rattle.std.proofs.Common.{ap}
use Rattle.flight.specs.Nodes.{kind_at}
use Rattle.flight.specs.Tables.{tables}
use Rattle.plan.specs.declared.Node.TheVariants.{Name, Let}
use Rattle.flight.specs.declared.machine.Control.TheVariants.{Return}
use Rattle.flight.proofs.Leads.{leads_at}
use Rattle.flight.proofs.Working.{strict_of, kind_leads, let_binds, calls, waits, wait_as, unit_leads, number_leads}
use Rattle.flight.proofs.machine.Machine.work.Goals as goal

pub call-requires : goal.call-requires
call-requires c = rw c.leg.ensures (calls c.args.code.nodes.now c.args.code.legs.now (tables c.args.self.now) c.args.spot c.requires c.in-Call.leg c.in-Call.count c.in-Call.is)

pub returns-in-Unit : goal.returns-in-Unit
returns-in-Unit c = unit_leads c.args.code.nodes.now c.args.code.legs.now (tables c.args.self.now) c.args.spot c.requires c.in-Unit.is

pub returns-in-Number : goal.returns-in-Number
returns-in-Number c =
    leads_at c.args.code.nodes.now c.args.code.legs.now (tables c.args.self.now) _ _ _ _ _ c.value.ensures.tables (ap Return c.value.ensures.place)
    (number_leads c.args.code.nodes.now c.args.code.legs.now (tables c.args.self.now) c.args.spot c.requires c.in-Number.x c.in-Number.is)

pub returns-in-Name : goal.returns-in-Name
returns-in-Name c =
    kind_leads c.args.code.nodes.now c.args.code.legs.now (tables c.args.self.now) c.args.spot c.requires (Name c.in-Name.level) c.in-Name.is _ _ (c.look.ensures c.args.code.nodes.now c.args.code.legs.now c.requires)

pub returns-in-Let : goal.returns-in-Let
returns-in-Let c =
    let h = rw c.after_first-body.ensures at (c.bind.ensures c.args.code.nodes.now c.args.code.legs.now) in
    kind_leads c.args.code.nodes.now c.args.code.legs.now (tables c.args.self.now) c.args.spot c.requires (Let c.in-Let.binder) c.in-Let.is _ _ (h (let_binds c.args.code.nodes.now c.args.code.legs.now (tables c.args.self.now) c.args.spot c.requires c.in-Let.binder c.in-Let.is))

pub returns-in_default : goal.returns-in_default
returns-in_default c =
    let st = strict_of (kind_at c.args.code.nodes.now c.args.spot.node) c.in_default.not-Unit c.in_default.not-Number c.in_default.not-Name c.in_default.not-Let c.in_default.not-Call in
    wait_as c.args.code.nodes.now c.args.code.legs.now (tables c.args.self.now) c.args.spot c.requires st _ _ (c.wait.ensures c.args.code.nodes.now c.args.code.legs.now (waits c.args.code.nodes.now c.args.code.legs.now (tables c.args.self.now) c.args.spot c.requires st))
