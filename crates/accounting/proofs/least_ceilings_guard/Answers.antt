use Rattle.accounting.proofs.Never.{least_guards}
use Rattle.accounting.proofs.least_ceilings_guard.Goals as goal

pub returns : goal.returns
returns g c = least_guards g.met.S.Scale.lawful
