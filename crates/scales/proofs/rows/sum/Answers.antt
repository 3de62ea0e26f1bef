use Rattle.std.proofs.Common.{◌∙◌, rules, tests}
use Rattle.std.proofs.lemmas.Iterator.{YieldsList-from_slice}
use Rattle.std.proofs.lemmas.Iterator.Consumers.{fold_from_yields_List}
use Rattle.scales.proofs.RowTheorems.{sum_is}
use Rattle.scales.proofs.rows.sum.Goals as goal

pub returns : goal.returns
returns g c =
    fold_from_yields_List _ g.S.Scale.ops.plus c.zero.result c.fold.result c.fold.ensures.ran (YieldsList-from_slice c.args.row.now cc) (λ a x b q k. search (rules, tests))
    ∙ let e = sum_is g.met.S.Scale.lawful c.args.row.now in cc
