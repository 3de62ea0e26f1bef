use Rattle.std.proofs.Common.{rules}
use Rattle.listing.proofs.Listed.{legs_more}
use Rattle.listing.proofs.binders.binder_kinds.Goals as goal

pub loop-k-preserved : goal.loop-k-preserved
loop-k-preserved c = λ s.
    let e = legs_more c.args.plan.now.nodes.items c.args.plan.now.legs.items c.loop-k.k c.leg-item.result (search rules) in
    let b = c.body.ensures c.leg-item.result s in
    let i = c.loop-k.invariant s in
    cc c.in_ok-push_leg.ensures
