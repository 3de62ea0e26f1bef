use Rattle.std.proofs.Common.{◌≡◌, ◌+◌, [], ◌∷◌, ◌++◌, Ok, Err, vec_items, vec_len, sym, ap, ◌∙◌, subst, append_assoc, arith, length-append}
use Rattle.std.proofs.lemmas.Result.{err_from_is_err_and}
use Rattle.plan.specs.declared.Row.{Row}
use Rattle.plan.specs.Table.{nodes_of}
use Rattle.plan.specs.Written.{with_node, binders_in}
use Rattle.reader.specs.Reading.{read_node}
use Rattle.reader.specs.Replies.{arities_of}
use Rattle.reader.proofs.Drafts.{node_same}
use Rattle.reader.proofs.Loops.{Left, left_next, left_fails}
use Rattle.plan.proofs.Ends.{nodes_push, binders_push}
use Rattle.reader.proofs.draft.Draft.read_nodes.Goals as goal

pub returns-in_err-node : goal.returns-in_err-node
returns-in_err-node c =
    let p = err_from_is_err_and c.from_residual.result c.from_residual.ensures.1 in
    let v = c.loop.invariant in
    let d = c.args.self.now in
    let i = c.args.input.now in
    let r = v.read in
    let at : read_node i.all (vec_len d.types) (arities_of (vec_items d.legs)) c.loop.self.next c.loop.input.rest.now ≡ Err c.in_err-node.field-0.0 = node_same d c.loop.self c.loop.input.all i.all c.loop.input.rest.now _ v.same_types v.same_legs v.same_all c.in_err-node.ensures in
    rw (p.1, p.2) (left_fails with_node (read_node i.all (vec_len d.types) (arities_of (vec_items d.legs))) c.args.count d.next i.rest.now c.loop.counter c.loop.self.next c.loop.input.rest.now (nodes_of r.0) _ c.loop-test.true r.4 at)

pub loop-preserved : goal.loop-preserved
loop-preserved c =
    let v = c.loop.invariant in
    let d = c.args.self.now in
    let i = c.args.input.now in
    let arities = arities_of (vec_items d.legs) in
    let types = vec_len d.types in
    let node = c.in_ok-node.node in
    let row : Row = record { node = node; end = 0 } in
    let r = v.read in
    let old = r.0 in
    let e = c.in_ok-node.ensures in
    let few = c.binders_of.ensures.few in
    let v_few = v.few in
    let next = c.loop.self.next in
    let then = c.read_node.new.input.rest.now in
    let at : read_node i.all types arities next c.loop.input.rest.now ≡ Ok (node, then) = node_same d c.loop.self c.loop.input.all i.all c.loop.input.rest.now _ v.same_types v.same_legs v.same_all e.0 in
    let more : with_node next node ≡ next + c.binders_of.result = ap (λ b. next + b) (sym c.binders_of.ensures.is) in
    let len = length-append old (row ∷ []) in
    let old_len = r.2 in
    let left = left_next with_node (read_node i.all types arities) c.args.count d.next i.rest.now c.loop.counter next c.loop.input.rest.now (nodes_of old) node then c.loop-test.true r.4 at in
    record {
      few = omega arith;
      length_is = c.push_reserved.ensures.len ∙ ap (λ k. k + 1) v.length_is ∙ omega arith;
      same_types = v.same_types;
      same_legs = v.same_legs;
      same_all = e.1 ∙ v.same_all;
      read = (
        old ++ (row ∷ []),
        c.push_reserved.ensures.items ∙ ap (λ l. l ++ (row ∷ [])) r.1 ∙ append_assoc (vec_items d.nodes) old (row ∷ []),
        omega arith,
        sym more ∙ ap (λ k. with_node k node) r.3 ∙ sym (binders_push d.next (nodes_of old) node) ∙ ap (binders_in d.next) (sym (nodes_push old row)),
        subst (λ os. Left with_node (read_node i.all types arities) c.args.count d.next i.rest.now (c.loop.counter + 1) (next + c.binders_of.result) then os) (sym (nodes_push old row))
            (subst (λ k. Left with_node (read_node i.all types arities) c.args.count d.next i.rest.now (c.loop.counter + 1) k then (nodes_of old ++ (node ∷ []))) more left),
      );
    }
