use Rattle.std.proofs.Common.{◌≡◌, Some, None, sym, ap, ◌∙◌, rules}
use Rattle.std.specs.List.{slice_get}
use Rattle.std.proofs.lemmas.Option.{slice_get_read, slice_get_past}
use Rattle.plan.specs.Plans.{params_of}
use Rattle.typer.specs.Typing.{same_list}
use Rattle.typer.proofs.Scopes.{call_there, call_past}
use Rattle.typer.proofs.world.World.call_type.Goals as goal

pub returns-in-Some : goal.returns-in-Some
returns-in-Some c =
    let gs = c.args.self.now.plan.now.legs.items in
    let there : slice_get gs c.args.leg.index ≡ Some c.in-Some.callee.now = search (rules, slice_get_read) in
    let same : c.eq.result ≡ same_list c.args.kids.now (params_of c.in-Some.callee.now) = c.eq.ensures ∙ ap (same_list c.args.kids.now) c.as_slice.ensures.value in
    sym (call_there c.args.at gs c.args.leg c.in-Some.callee.now c.args.kids.now _ there (sym same ∙ c.if-eq.true))

pub returns-in_default : goal.returns-in_default
returns-in_default c =
    let gs = c.args.self.now.plan.now.legs.items in
    let there : slice_get gs c.args.leg.index ≡ Some c.in-Some.callee.now = search (rules, slice_get_read) in
    let same : c.eq.result ≡ same_list c.args.kids.now (params_of c.in-Some.callee.now) = c.eq.ensures ∙ ap (same_list c.args.kids.now) c.as_slice.ensures.value in
    sym (call_there c.args.at gs c.args.leg c.in-Some.callee.now c.args.kids.now _ there (sym same ∙ c.if-eq.false))

pub returns-in_default-2 : goal.returns-in_default-2
returns-in_default-2 c =
    let gs = c.args.self.now.plan.now.legs.items in
    let past : slice_get gs c.args.leg.index ≡ None = search (rules, slice_get_past) in
    sym (call_past c.args.at gs c.args.leg c.args.kids.now past)
