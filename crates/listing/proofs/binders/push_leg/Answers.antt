use Rattle.std.proofs.Common.{arith, rules}
use Rattle.std.proofs.lemmas.Grind.{common_steps}
use Rattle.plan.specs.Table.{no_row}
use Rattle.listing.proofs.Listed.{bound_more}
use Rattle.listing.proofs.binders.push_leg.Goals as goal

pub loop-row-preserved : goal.loop-row-preserved
loop-row-preserved c = let b = bound_more c.args.body.now c.loop-row.row-index no_row (search rules) in grind (arith, common_steps, b)
