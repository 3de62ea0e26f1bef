use Rattle.grading.proofs.Whole as facts
use Rattle.grading.proofs.ceilings_of_stores.Goals as goal

pub returns : goal.returns
returns g c = facts.ceilings_of g.S.Scale.ops
