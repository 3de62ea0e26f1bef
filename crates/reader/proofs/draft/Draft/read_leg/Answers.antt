use Rattle.std.proofs.Common.{◌≡◌, length, vec_items, vec_len, refl, ◌∙◌, arith, rules}
use Rattle.reader.proofs.Legs.{leg_fails, leg_made}
use Rattle.reader.proofs.draft.Draft.read_leg.Goals as goal

pub returns-then-not-close_leg : goal.returns-then-not-close_leg
returns-then-not-close_leg c =
    let d = c.args.self.now in
    let i = c.args.input.now in
    let before = vec_items d.nodes in
    let P = c.in_ok-params.ensures in
    let Y = c.in_ok-result.ensures in
    let N = c.in_ok-size.ensures.read in
    let O = c.in_ok-read_nodes.ensures in
    let first : c.len-first.result ≡ length before = search rules in
    let count : c.len.result ≡ length c.in_ok-params.params.items = search rules in
    leg_fails i.all (vec_len d.types) (vec_items d.legs) d.next before O.0 i.rest.now c.read_params.new.input.rest.now c.type_id.new.self.rest.now c.node_count.new.self.rest.now c.read_nodes.new.input.rest.now
    c.in_ok-params.params.items c.len.result c.in_ok-result.result c.in_ok-size.size c.read_params.new.input.all c.type_id.new.self.all c.node_count.new.self.all c.len-types.result c.len-first.result
    P.1 Y.1 N.1 c.len-types.ensures first count P.0 Y.0 N.0 O.2
    (vec_items c.read_nodes.new.self.nodes) (vec_items c.close_leg.new.nodes) c.close_leg.result _ c.if-not-close_leg.true O.1 c.close_leg.ensures.closed c.place-body.ensures

pub returns : goal.returns
returns c =
    let d = c.args.self.now in
    let i = c.args.input.now in
    let before = vec_items d.nodes in
    let P = c.in_ok-params.ensures in
    let Y = c.in_ok-result.ensures in
    let N = c.in_ok-size.ensures.read in
    let O = c.in_ok-read_nodes.ensures in
    let first : c.len-first.result ≡ length before = search rules in
    let count : c.len.result ≡ length c.in_ok-params.params.items = search rules in (
      leg_made i.all (vec_len d.types) (vec_items d.legs) d.next before O.0 i.rest.now c.read_params.new.input.rest.now c.type_id.new.self.rest.now c.node_count.new.self.rest.now c.read_nodes.new.input.rest.now
          c.in_ok-params.params.items c.len.result c.in_ok-result.result c.in_ok-size.size c.read_params.new.input.all c.type_id.new.self.all c.node_count.new.self.all c.len-types.result c.len-first.result
          P.1 Y.1 N.1 c.len-types.ensures first count P.0 Y.0 N.0 O.2
          (vec_items c.read_nodes.new.self.nodes) (vec_items c.close_leg.new.nodes) c.close_leg.result _ _ c.if-not-close_leg.false O.1 c.close_leg.ensures.closed
          c.requires.stands refl refl refl (omega arith) refl O.3,
      O.5 ∙ N.1 ∙ Y.1 ∙ P.1,
      O.6,
      O.7,
    )
