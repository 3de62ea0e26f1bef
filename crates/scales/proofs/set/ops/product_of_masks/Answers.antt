use Rattle.std.proofs.Common.{◌∙◌, rules}
use Rattle.scales.specs.Masks.{sum}
use Rattle.scales.proofs.SetCode.{product_is_union}
use Rattle.scales.proofs.set.ops.product_of_masks.Goals as goal

pub returns : goal.returns
returns c = c.union_after.ensures (sum c.args.b) (λ m r h. search rules) ∙ product_is_union c.args.a c.args.b
