use Rattle.evaluation.proofs.Bounded.{stocks_add_up}
use Rattle.evaluation.proofs.stocks_add_up.Goals as goal

pub returns : goal.returns
returns c = stocks_add_up
