use Rattle.std.proofs.Common.{map, ap, ◌∙◌}
use Rattle.plan.specs.Limits.{max_params}
use Rattle.grading.specs.Least.{filled}
use Rattle.grader.proofs.stores.ceilings.Goals as goal

pub returns : goal.returns
returns g c =
    let e = c.in_ok-places.ensures in
    (e.0, e.1, c.eight_ceilings.ensures ∙ ap (λ gs. filled max_params (map g.S.Scale.ops.ceiling gs)) e.2.are, e.3)
