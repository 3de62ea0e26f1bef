use Rattle.std.proofs.Common.{ℕ, ◌+◌, min, ap, ◌∙◌, ap₂, arith}
use Rattle.flight.specs.Tables.{tables}
use Rattle.plan.specs.declared.Node.TheVariants.{Pair, Add, Less}
use Rattle.flight.specs.declared.machine.Control.TheVariants.{Return}
use Rattle.flight.proofs.Leads.{leads_at}
use Rattle.flight.proofs.Giving.{join_pair, join_add, join_less, join_more, join_as}
use Rattle.flight.proofs.machine.Machine.join.Goals as goal

pub returns-in-Pair : goal.returns-in-Pair
returns-in-Pair c =
    let ns = c.args.code.nodes.now in
    let gs = c.args.code.legs.now in
    let spot = c.args.spot in
    let J = c.requires in
    join_as ns gs (tables c.args.self.now) spot J.poised _ Pair c.args.u c.args.v c.in-Pair.is _ _
    (leads_at ns gs (tables c.args.self.now) _ _ _ _ _ c.value.ensures.tables (ap Return c.value.ensures.place)
    (join_pair ns gs (tables c.args.self.now) spot J.poised c.args.u c.args.v J.one J.two))

pub returns-in-Add : goal.returns-in-Add
returns-in-Add c =
    let ns = c.args.code.nodes.now in
    let gs = c.args.code.legs.now in
    let spot = c.args.spot in
    let J = c.requires in
    join_as ns gs (tables c.args.self.now) spot J.poised _ Add c.args.u c.args.v c.in-Add.is _ _
    (leads_at ns gs (tables c.args.self.now) _ _ _ _ _ c.value-in-Add.ensures.tables (ap Return c.value-in-Add.ensures.place)
    (join_add ns gs (tables c.args.self.now) spot J.poised c.args.u c.args.v c.saturating_add-sum.result
    (c.saturating_add-sum.ensures ∙ ap₂ (λ (x y : ℕ). min (x + y) 4294967295) c.number.ensures c.number-in-Add.ensures)))

pub returns-then-number : goal.returns-then-number
returns-then-number c =
    let ns = c.args.code.nodes.now in
    let gs = c.args.code.legs.now in
    let spot = c.args.spot in
    let J = c.requires in
    let a = c.number-in-Less.ensures in
    let b = c.number-in-Less-2.ensures in
    let t = c.if-number.true in
    join_as ns gs (tables c.args.self.now) spot J.poised _ Less c.args.u c.args.v c.in-Less.is _ _ (join_less ns gs (tables c.args.self.now) spot J.poised c.args.u c.args.v (omega arith))

pub returns-else-number : goal.returns-else-number
returns-else-number c =
    let ns = c.args.code.nodes.now in
    let gs = c.args.code.legs.now in
    let spot = c.args.spot in
    let J = c.requires in
    let a = c.number-in-Less.ensures in
    let b = c.number-in-Less-2.ensures in
    let t = c.if-number.false in
    join_as ns gs (tables c.args.self.now) spot J.poised _ Less c.args.u c.args.v c.in-Less.is _ _ (join_more ns gs (tables c.args.self.now) spot J.poised c.args.u c.args.v (omega arith))
