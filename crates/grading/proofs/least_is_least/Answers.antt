use Rattle.grading.proofs.Whole as facts
use Rattle.grading.proofs.least_is_least.Goals as goal

pub returns : goal.returns
returns g c = facts.least_least g.met.S.Scale.lawful
