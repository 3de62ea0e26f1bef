use Rattle.grading.proofs.WorkedOut as facts
use Rattle.grading.proofs.examples.Goals as goal

pub returns : goal.returns
returns c = facts.examples
