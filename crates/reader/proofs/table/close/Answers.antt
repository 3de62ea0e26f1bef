use Rattle.std.proofs.Common.{◌≡◌, eqb, length, sym, refl, ap, ◌∙◌, subst, arith, le-ltb}
use Rattle.plan.specs.Table.{Standing}
use Rattle.plan.proofs.Ends.{closing_begins, turn, stop, finish, one_by_end, none_past}
use Rattle.reader.proofs.table.close.Goals as goal

pub loop-i-init : goal.loop-i-init
loop-i-init c = record { low = c.requires.within; closing = closing_begins c.args.nodes.now (length c.args.nodes.now) refl }

pub overflow_cast-nodes : goal.overflow_cast-nodes
overflow_cast-nodes c =
    let v = c.loop-i.invariant.closing in
    let same_length = v.same_length in
    let w = turn c.loop-i.i c.args.nodes.now c.loop-i.nodes (omega arith) (omega arith) v c.kids_of.result c.kids_of.ensures c.in-Some.end (λ ts e. sym c.in-Some.is ∙ c.skip.ensures ts e) in
    omega arith

pub loop-i-preserved : goal.loop-i-preserved
loop-i-preserved c =
    let v = c.loop-i.invariant.closing in
    let same_length = v.same_length in
    let w = turn c.loop-i.i c.args.nodes.now c.loop-i.nodes (omega arith) (omega arith) v c.kids_of.result c.kids_of.ensures c.in-Some.end (λ ts e. sym c.in-Some.is ∙ c.skip.ensures ts e) in
    record { low = omega arith; closing = w.1 }

pub returns-in_default : goal.returns-in_default
returns-in_default c =
    let v = c.loop-i.invariant in
    let same_length = v.closing.same_length in
    stop c.loop-i.i c.args.nodes.now c.loop-i.nodes (omega arith) (omega arith) v.closing c.kids_of.result c.kids_of.ensures (λ ts e. sym c.in_default.is ∙ c.skip.ensures ts e)
    c.args.first (omega arith)

pub returns-then-first-nodes : goal.returns-then-first-nodes
returns-then-first-nodes c =
    let v = c.loop-i.invariant in
    let low = v.low in
    let e : c.loop-i.i ≡ c.args.first = omega arith in
    let ns = c.loop-i.nodes in
    let s = subst (λ k. Standing k ns) e v.closing.stands in
    finish c.args.first c.loop-i.i c.args.nodes.now ns e v.closing _
    (ap (λ x. eqb x (length ns)) c.from.ensures ∙ one_by_end c.args.first ns s (omega arith))

pub returns-else-first-nodes : goal.returns-else-first-nodes
returns-else-first-nodes c =
    let v = c.loop-i.invariant in
    let low = v.low in
    let e : c.loop-i.i ≡ c.args.first = omega arith in
    let ns = c.loop-i.nodes in
    finish c.args.first c.loop-i.i c.args.nodes.now ns e v.closing _
    (le-ltb c.args.first (length ns) (omega arith) ∙ sym (none_past c.args.first ns (omega arith)))
