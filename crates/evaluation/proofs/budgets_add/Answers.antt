use Rattle.evaluation.proofs.Follows.{budgets_add}
use Rattle.evaluation.proofs.budgets_add.Goals as goal

pub returns : goal.returns
returns c = budgets_add
