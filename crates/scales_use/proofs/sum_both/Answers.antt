use Rattle.std.proofs.Common.{sym, ◌∙◌, ap₂}
use Rattle.scales.specs.Laws.{scale_of}
use Rattle.scales.proofs.RowTheorems.{total_append, swaps}
use Rattle.scales_use.proofs.sum_both.Goals as goal

pub returns : goal.returns
returns g c =
    let L = g.met.S.Scale.lawful in
    c.add.ensures ∙ ap₂ g.S.Scale.ops.plus c.sum.ensures c.sum-2.ensures
    ∙ sym (total_append L c.args.xs.now c.args.ys.now) ∙ swaps (scale_of L) c.args.xs.now c.args.ys.now
