use Rattle.std.proofs.Common.{◌≡◌, Some, None, Err, position, sym, ap, ◌∙◌, rules}
use Rattle.plan.specs.declared.faults.TypeFault.TheVariants.{«Type»}
use Rattle.plan.specs.Written.{same_type}
use Rattle.typer.specs.Typing.{as_type, there_at}
use Rattle.typer.proofs.Scopes.{place_is}
use Rattle.typer.proofs.world.World.number_of.Goals as goal

pub returns-in_err-index : goal.returns-in_err-index
returns-in_err-index c =
    let ts = c.args.self.now.plan.now.types.items in
    let there : position (λ x. same_type x c.args.y) ts ≡ None = search rules in
    let is : c.from_residual.result ≡ Err («Type» c.args.at) = search rules in
    is ∙ ap (λ o. there_at c.args.at (as_type o)) (sym there ∙ place_is c.args.y ts)

pub returns : goal.returns
returns c =
    let ts = c.args.self.now.plan.now.types.items in
    let there : position (λ x. same_type x c.args.y) ts ≡ Some c.in_ok-index.index = search rules in
    ap (λ o. there_at c.args.at (as_type o)) (sym there ∙ place_is c.args.y ts)
