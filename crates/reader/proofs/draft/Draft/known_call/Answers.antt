use Rattle.std.proofs.Common.{◌∙◌, ap, Some, rules, arith}
use Rattle.plan.specs.declared.Node.TheVariants.{Call}
use Rattle.plan.specs.Trees.{the_leg}
use Rattle.reader.proofs.Calls.{call_there, call_not}
use Rattle.reader.proofs.draft.Draft.known_call.Goals as goal

pub returns-in_err-leg : goal.returns-in_err-leg
returns-in_err-leg c = c.from_residual.ensures ∙ call_not c.args.number c.args.self.now.legs.items (grind arith)

pub returns : goal.returns
returns c =
    let h = c.in_ok-leg.ensures.lookup in
    ap (λ n. Some (Call (the_leg c.args.number) n)) (c.len.ensures.value ∙ search rules) ∙ call_there c.args.number c.args.self.now.legs.items c.in_ok-leg.leg.now (omega arith)
