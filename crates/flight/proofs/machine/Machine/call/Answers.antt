use Rattle.std.proofs.Common.{◌+◌, refl}
use Rattle.flight.specs.Tables.{tables}
use Rattle.flight.proofs.Leads.{leads_at}
use Rattle.flight.proofs.Calling.{call_start, call_step, call_full, kid_there, calling_at}
use Rattle.flight.proofs.machine.Machine.call.Goals as goal

pub loop-k-init : goal.loop-k-init
loop-k-init c =
    call_start c.args.code.nodes.now c.args.code.legs.now (tables c.args.self.now) c.args.leg.now c.args.count c.args.spot c.requires

pub bounds-code-kid : goal.bounds-code-kid
bounds-code-kid c =
    let h = kid_there c.args.code.nodes.now c.args.code.legs.now (tables c.args.self.now) c.args.leg.now c.args.count c.args.spot
    (tables c.loop-k.self) c.loop-k.k c.loop-k.kid c.loop-k.inner c.loop-k.invariant c.loop-k-test.true in
    h

pub returns-in_default : goal.returns-in_default
returns-in_default c =
    let e = c.in_default.ensures.full in
    leads_at c.args.code.nodes.now c.args.code.legs.now (tables c.args.self.now) _ _ _ _ _ e.1 refl
    (call_full c.args.code.nodes.now c.args.code.legs.now (tables c.args.self.now) c.args.leg.now c.args.count c.args.spot
    (tables c.loop-k.self) c.loop-k.k c.loop-k.kid c.loop-k.inner c.loop-k.invariant c.loop-k-test.true e.0)

pub loop-k-preserved : goal.loop-k-preserved
loop-k-preserved c =
    let e = c.in-Some.ensures in
    let h = call_step c.args.code.nodes.now c.args.code.legs.now (tables c.args.self.now) c.args.leg.now c.args.count c.args.spot
    (tables c.loop-k.self) c.loop-k.k c.loop-k.kid c.loop-k.inner c.loop-k.invariant c.loop-k-test.true e.room in
    calling_at c.args.code.nodes.now c.args.code.legs.now (tables c.args.self.now) c.args.leg.now c.args.count c.args.spot _ (tables c.try_open.new.self) (c.loop-k.k + 1) _ _ c.in-Some.scope
    (rw c.from.ensures at e.tables) e.scope h
