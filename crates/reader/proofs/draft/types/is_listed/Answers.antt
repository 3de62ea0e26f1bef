use Rattle.plan.proofs.Types.{listed_any}
use Rattle.reader.proofs.draft.types.is_listed.Goals as goal

pub returns : goal.returns
returns c = cc (listed_any c.args.entry c.args.table.now)
