use Rattle.grading.proofs.Whole as facts
use Rattle.grading.proofs.least_is_allowed.Goals as goal

pub returns : goal.returns
returns g c = facts.least_allowed g.met.S.Scale.lawful
