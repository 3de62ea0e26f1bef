use Rattle.std.proofs.Common.{arith}
use Rattle.std.proofs.lemmas.Grind.{elements}
use Rattle.scales.proofs.RowLists.{zip_places}
use Rattle.scales.proofs.rows.zip_into.Goals as goal

pub loop-i-preserved : goal.loop-i-preserved
loop-i-preserved g c = λ op acts.
    let kept = c.loop-i.invariant op acts in
    let made = acts _ _ _ c.f.ensures in (
      λ k d h. grind (arith, elements, kept.0 k d, kept.1 k d, made),
      λ k d h. grind (arith, elements, kept.1 k d),
    )

pub returns : goal.returns
returns g c = λ op acts.
    let kept = c.loop-i.invariant op acts in
    zip_places op c.args.row.now c.args.more.now c.loop-i.row (omega arith) (λ k d h l. kept.0 k d (omega arith)) (λ k d l. kept.1 k d (omega arith))
