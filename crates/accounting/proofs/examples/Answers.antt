use Rattle.accounting.proofs.WorkedOut.{enough, too_few, worked_out}
use Rattle.accounting.proofs.examples.Goals as goal

pub returns : goal.returns
returns c = record { enough = enough; too_few = too_few; others = worked_out }
