use Rattle.std.proofs.Common.{rules}
use Rattle.bay.specs.Rolled.{roll_draw}
use Rattle.bay.proofs.roll_bay.RollBayBay.draw.Goals as goal

pub returns-clause-draws : goal.returns-clause-draws
returns-clause-draws c =
    rw c.from.ensures (roll_draw _ c.args.store _ c.index-self-from.result _ c.if-store-ge-STORES.false (search rules) (search rules))
