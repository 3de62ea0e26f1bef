use Rattle.std.proofs.Common.{ap}
use Rattle.flight.specs.Tables.{tables}
use Rattle.plan.specs.declared.Node.TheVariants.{Take}
use Rattle.flight.specs.declared.machine.Control.TheVariants.{Return}
use Rattle.flight.proofs.Leads.{leads_at}
use Rattle.flight.proofs.Giving.{after_as, take_binds, splits, split_as, joined_waits, joined_as, left_leads, right_leads}
use Rattle.flight.proofs.machine.Machine.after.Goals as goal

pub returns-in-Take : goal.returns-in-Take
returns-in-Take c =
    let h = rw c.after_first-body.ensures at (c.bind.ensures c.args.code.nodes.now c.args.code.legs.now) in
    let P = c.requires.poised in
    after_as c.args.code.nodes.now c.args.code.legs.now (tables c.args.self.now) c.args.spot P (Take c.in-Take.binder) c.args.v c.in-Take.is _ _
    (h (take_binds c.args.code.nodes.now c.args.code.legs.now (tables c.args.self.now) c.args.spot P c.in-Take.binder c.args.v c.in-Take.is c.requires.value))

pub returns-in-Split : goal.returns-in-Split
returns-in-Split c =
    let h = rw c.after_first-body-in-Split.ensures at (c.split.ensures c.args.code.nodes.now c.args.code.legs.now) in
    let P = c.requires.poised in
    let H = c.halves-parts.ensures in
    split_as c.args.code.nodes.now c.args.code.legs.now (tables c.args.self.now) c.args.spot P c.in-Split.binder c.args.v c.halves-parts.result.0 c.halves-parts.result.1 c.in-Split.is H _ _
    (h (splits c.args.code.nodes.now c.args.code.legs.now (tables c.args.self.now) c.args.spot P c.in-Split.binder c.halves-parts.result.0 c.in-Split.is H.one))

pub returns-in-Left : goal.returns-in-Left
returns-in-Left c =
    leads_at c.args.code.nodes.now c.args.code.legs.now (tables c.args.self.now) _ _ _ _ _ c.value.ensures.tables (ap Return c.value.ensures.place) (left_leads c.args.code.nodes.now c.args.code.legs.now (tables c.args.self.now) c.args.spot c.requires.poised _ c.args.v c.in-Left.is c.requires.value)

pub returns-in-Right : goal.returns-in-Right
returns-in-Right c =
    leads_at c.args.code.nodes.now c.args.code.legs.now (tables c.args.self.now) _ _ _ _ _ c.value-in-Right.ensures.tables (ap Return c.value-in-Right.ensures.place) (right_leads c.args.code.nodes.now c.args.code.legs.now (tables c.args.self.now) c.args.spot c.requires.poised _ c.args.v c.in-Right.is c.requires.value)

pub returns-in-Pair : goal.returns-in-Pair
returns-in-Pair c =
    let h = rw c.after_first-kid.ensures at (c.wait.ensures c.args.code.nodes.now c.args.code.legs.now) in
    let P = c.requires.poised in
    joined_as c.args.code.nodes.now c.args.code.legs.now (tables c.args.self.now) c.args.spot P c.args.v c.in-Pair.is _ _
    (h (joined_waits c.args.code.nodes.now c.args.code.legs.now (tables c.args.self.now) c.args.spot P c.args.v c.requires.value c.in-Pair.is))
