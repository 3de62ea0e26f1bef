use Rattle.std.proofs.Common.{◌∙◌, arith, rules}
use Rattle.scales.specs.Masks.{sum}
use Rattle.scales.proofs.SetCode.{sum_is_union}
use Rattle.scales.proofs.set.ops.sum_of_masks.Goals as goal

pub returns : goal.returns
returns c = c.union_after.ensures (sum 2) (λ m r h. search rules) ∙ sum_is_union c.args.a c.args.b (omega arith) (omega arith)
