use Rattle.scales.specs.Laws.{scale_of}
use Rattle.scales.proofs.RowTheorems as facts
use Rattle.scales.proofs.rows.regroups.Goals as goal

pub returns : goal.returns
returns g c = facts.regroups (scale_of g.met.S.Scale.lawful)
