use Rattle.scales.specs.Set.{set_join}
use Rattle.scales.proofs.set.ops.SetScale.join.Goals as goal

pub invariant_of-result : goal.invariant_of-result
invariant_of-result c = let r = set_join c.args.self c.args.other in record { some = r.some; fits = r.fits }
