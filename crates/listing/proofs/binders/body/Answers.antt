use Rattle.std.proofs.Common.{◌≡◌, get_or, ap, ◌∙◌, rules}
use Rattle.std.proofs.lemmas.List.{get_or_read}
use Rattle.std.specs.Slice.{IsGetRangeResult}
use Rattle.plan.specs.Table.{nodes_of}
use Rattle.listing.proofs.Listed.{body_at, part_of}
use Rattle.listing.proofs.binders.body.Goals as goal

pub returns : goal.returns
returns c = λ d s.
    let ns = c.args.plan.now.nodes.items in
    let gs = c.args.plan.now.legs.items in
    let leg : c.index.result.now ≡ get_or gs c.args.k d = get_or_read gs c.args.k c.index.result.now (search rules) c.index.ensures d in
    let b = body_at ns gs c.args.k d c.body_end.result (search rules) s.spells s.in_order (search rules) (search rules) in
    let part : IsGetRangeResult ns c.index.result.now.first c.body_end.result c.get.result = let v = c.deref.ensures.value in rw (← v) c.get.ensures.lookup in
    let part : IsGetRangeResult ns (get_or gs c.args.k d).first c.body_end.result c.get.result = rw (← leg) part in
    ap nodes_of (ap (λ r. r.now) c.unwrap_or.ensures ∙ part_of ns (get_or gs c.args.k d).first c.body_end.result c.get.result _ part b.0 b.1) ∙ b.2
