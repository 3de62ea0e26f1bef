use Rattle.std.proofs.Common.{arith, rules}
use Rattle.grader.proofs.Merging.{cleared}
use Rattle.grader.proofs.contexts.clear.Goals as goal

pub returns : goal.returns
returns g c = cleared c.args.row.now c.loop-grade.grade-items g.G.Scale.ops.zero (search rules) (λ k d h. c.loop-grade.invariant k d (omega arith))
