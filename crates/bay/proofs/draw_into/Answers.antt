use Rattle.std.proofs.Common.{arith}
use Rattle.bay.proofs.Drawing.{midway_more}
use Rattle.bay.proofs.draw_into.Goals as goal

pub loop-came-preserved : goal.loop-came-preserved
loop-came-preserved g c = midway_more _ _ _ _ _ _ _ _ (omega arith) c.loop-came.invariant c.in-Some.ensures.draws
