use Rattle.accounting.proofs.Never.{allowed_guards}
use Rattle.accounting.proofs.ceilings_guard.Goals as goal

pub returns : goal.returns
returns g c = allowed_guards g.met.S.Scale.lawful
