use Rattle.accounting.proofs.Never.{stocks_suffice}
use Rattle.accounting.proofs.stocks_suffice.Goals as goal

pub returns : goal.returns
returns g c = stocks_suffice g.met.S.Scale.lawful
