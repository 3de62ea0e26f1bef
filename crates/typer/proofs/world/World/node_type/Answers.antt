use Rattle.std.proofs.Common.{◌≡◌, sym, ap, ◌∙◌, rules}
use Rattle.std.specs.List.{slice_get}
use Rattle.typer.specs.Typing.{named_at}
use Rattle.typer.proofs.Scopes.{found_kept}
use Rattle.typer.proofs.world.World.node_type.Goals as goal

pub returns-in-Name : goal.returns-in-Name
returns-in-Name c =
    let there : c.ok_or.result ≡ named_at c.args.at (slice_get c.args.scope.now c.in-Name.level.index) = grind rules in
    rw c.in-Name.is (there ∙ sym (ap (named_at c.args.at) (found_kept c.args.scope.now c.in-Name.level.index)))
