use Rattle.accounting.proofs.Grades.{one_is_once}
use Rattle.accounting.proofs.one_is_once.Goals as goal

pub returns : goal.returns
returns g c = one_is_once g.met.S.Scale.lawful
