use Rattle.std.proofs.Common.{◌≡◌, ◌+◌, [], ◌∷◌, ◌++◌, length, vec_items, vec_len, sym, ap, ◌∙◌, subst, arith, rules}
use Rattle.std.proofs.lemmas.Result.{err_from_is_err_and}
use Rattle.plan.specs.declared.faults.ReadFault.TheVariants.{Limit}
use Rattle.plan.specs.Trees.{flat}
use Rattle.plan.specs.Written.{with_leg, none_before}
use Rattle.plan.specs.Table.{term_at, node_size, InOrder}
use Rattle.plan.specs.Plans.{params_of, leg_in, legs_in}
use Rattle.plan.proofs.Ends.{some_nodes}
use Rattle.plan.proofs.Plans.{legs_push}
use Rattle.reader.specs.Reading.{then_read, many, byte_if, between, read_leg}
use Rattle.reader.specs.Replies.{before_of}
use Rattle.reader.proofs.Drafts.{leg_same, leg_read_same}
use Rattle.reader.proofs.Legs.{legs_kept, order_push, state_next, binders_bound}
use Rattle.reader.proofs.Loops.{Left, left_next, left_fails}
use Rattle.reader.proofs.draft.Draft.read_legs.Goals as goal

pub returns-in_err-leg : goal.returns-in_err-leg
returns-in_err-leg c =
    let p = err_from_is_err_and c.from_residual-in_err-leg.result c.from_residual-in_err-leg.ensures.1 in
    let v = c.loop.invariant in
    let d = c.loop.self in
    let n = c.in_ok-count.ensures.read in
    let all = c.args.input.now.all in
    let types = vec_len c.args.self.now.types in
    let state = before_of (vec_items d.legs) d.next (vec_items d.nodes) in
    let at = leg_same state c.loop.input.all all (vec_len d.types) types c.loop.input.rest.now _ v.same_all (ap vec_len v.same_types) c.in_err-leg.ensures in
    rw (p.1, p.2) (ap (λ g. then_read g (λ n r. many with_leg (read_leg all types) n none_before r)) (ap (λ h. byte_if (between 1 h) Limit all c.args.input.now.rest.now) (sym c.from.ensures) ∙ n.0)
    ∙ left_fails with_leg (read_leg all types) c.in_ok-count.count none_before c.count.new.self.rest.now c.loop.counter state c.loop.input.rest.now (legs_in (vec_items d.nodes) (vec_items d.legs)) _ c.loop-test.true v.left at)

pub loop-preserved : goal.loop-preserved
loop-preserved c =
    let v = c.loop.invariant in
    let d = c.loop.self in
    let gs = vec_items d.legs in
    let g = c.in_ok-leg.leg in
    let before = vec_items d.nodes in
    let after = vec_items c.read_leg.new.self.nodes in
    let all = c.args.input.now.all in
    let types = vec_len c.args.self.now.types in
    let rest = c.loop.input.rest.now in
    let then = c.read_leg.new.input.rest.now in
    let next = c.read_leg.new.self.next in
    let A = c.in_ok-leg.ensures in
    let L = leg_read_same c.loop.input.all all (vec_len d.types) types gs d.next rest before after g next then v.same_all (ap vec_len v.same_types) A.0 in
    let items = c.push_reserved.ensures.items ∙ ap (λ l. vec_items l ++ (g ∷ [])) A.3 in
    let state = state_next gs d.next before after g next L.next_is L.longer in
    let old : legs_in after gs ≡ legs_in before gs = legs_kept 0 before after gs v.in_order L.kept in
    let left = left_next with_leg (read_leg all types) c.in_ok-count.count none_before c.count.new.self.rest.now c.loop.counter (before_of gs d.next before) rest (legs_in before gs) (leg_in after g) then c.loop-test.true v.left L.is in
    let body = (leg_in after g).body in
    let size = some_nodes body in
    let longer = L.longer in
    let first_is = L.first_is in
    let few = L.few in
    let next_is = L.next_is in
    let low = v.low in
    let bound = binders_bound (d.next + length (params_of g)) (flat body) in
    let lb : vec_len d.nodes ≡ length before = search rules in
    let la : vec_len c.read_leg.new.self.nodes ≡ length after = search rules in
    record {
      length_is = c.push_reserved.ensures.len ∙ ap (λ k. k + 1) (ap vec_len A.3 ∙ v.length_is);
      low = omega arith;
      same_types = A.2 ∙ v.same_types;
      same_all = A.1 ∙ v.same_all;
      stands = L.stands;
      in_order = subst (InOrder 0 after) (sym items) (order_push 0 before after gs g L.kept v.in_order first_is few (omega arith) (longer ∙ ap (λ x. length before + node_size (term_at after x)) first_is));
      left = subst (λ x. Left with_leg (read_leg all types) c.in_ok-count.count none_before c.count.new.self.rest.now (c.loop.counter + 1) (before_of x next after) then (legs_in after x)) (sym items)
          (subst (Left with_leg (read_leg all types) c.in_ok-count.count none_before c.count.new.self.rest.now (c.loop.counter + 1) (before_of (gs ++ (g ∷ [])) next after) then) (ap (λ l. l ++ (leg_in after g ∷ [])) (sym old) ∙ sym (legs_push after gs g))
          (subst (λ s. Left with_leg (read_leg all types) c.in_ok-count.count none_before c.count.new.self.rest.now (c.loop.counter + 1) s then (legs_in before gs ++ (leg_in after g ∷ []))) state left));
    }
