use Rattle.evaluation.proofs.Bounded.{bounds_kept}
use Rattle.evaluation.proofs.bounds_are_kept.Goals as goal

pub returns : goal.returns
returns c = bounds_kept
