use Rattle.std.proofs.Common.{◌∙◌, arith, rules, tests}
use Rattle.std.proofs.lemmas.Iterator.{YieldsList-from_slice, YieldsList-from_zip}
use Rattle.std.proofs.lemmas.Iterator.Search.{all_from_yields_List}
use Rattle.scales.proofs.RowLists.{leq_lengths, leq_all}
use Rattle.scales.proofs.rows.is_below.Goals as goal

pub returns-then-row-other : goal.returns-then-row-other
returns-then-row-other g c =
    all_from_yields_List (λ p. g.S.Scale.ops.leq p.0 p.1) c.all.new.self _ c.all.result c.all.ensures.ran
    (YieldsList-from_zip (YieldsList-from_slice c.args.row.now cc) (YieldsList-from_slice c.args.other.now cc)) (λ x b q k. search (rules, tests))
    ∙ leq_all g.S.Scale.ops c.args.row.now c.args.other.now (omega arith)

pub returns-else-row-other : goal.returns-else-row-other
returns-else-row-other g c = let e = leq_lengths g.S.Scale.ops c.args.row.now c.args.other.now (λ e. omega arith) in search rules
