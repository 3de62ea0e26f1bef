use Rattle.accounting.proofs.Grades.{keeps_within}
use Rattle.accounting.proofs.within_grades.Goals as goal

pub returns : goal.returns
returns g c = keeps_within g.met.S.Scale.lawful
