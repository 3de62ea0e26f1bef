use Rattle.scales.proofs.RowTheorems as facts
use Rattle.scales.proofs.rows.row_laws.Goals as goal

pub returns : goal.returns
returns g c = facts.row_laws g.met.S.Scale.lawful
