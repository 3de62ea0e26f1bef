use Rattle.std.proofs.Common.{◌≡◌, suc, ◌+◌, ◌≤◌, length, drop, sym, ap, ◌∙◌, ap₂, arith}
use Rattle.std.proofs.lemmas.List.{drop_all}
use Rattle.plan.specs.Table.{nodes_of}
use Rattle.plan.specs.Written.{binders_in}
use Rattle.plan.proofs.Ends.{drop_nodes, nodes_length}
use Rattle.grader.proofs.grades.binder_behind.Goals as goal

pub loop-row-preserved : goal.loop-row-preserved
loop-row-preserved c =
    let ns = c.args.nodes.now in
    let i = c.loop-row.row-index in
    let v = c.loop-row.invariant in
    let few = c.binders_of.ensures.few in
    let was = v.few in
    record {
      few = omega arith;
      counted =
          v.counted ∙ ap (binders_in c.loop-row.binder) (drop_nodes ns i c.loop-row-test.true)
          ∙ ap₂ (λ b k. binders_in (c.loop-row.binder + b) (drop k (nodes_of ns))) (sym c.binders_of.ensures.is) (let e : suc i ≡ i + 1 = omega arith in e);
    }

pub returns : goal.returns
returns c =
    let ns = c.args.nodes.now in
    let n = nodes_length ns in
    let all : length ns ≤ c.loop-row.row-index = c.loop-row-test.false in
    sym (c.loop-row.invariant.counted ∙ ap (binders_in c.loop-row.binder) (drop_all c.loop-row.row-index (nodes_of ns) (omega arith)))
