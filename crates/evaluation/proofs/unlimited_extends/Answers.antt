use Rattle.evaluation.proofs.Follows.{unlimited_extends}
use Rattle.evaluation.proofs.unlimited_extends.Goals as goal

pub returns : goal.returns
returns c = unlimited_extends
