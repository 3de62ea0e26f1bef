use Rattle.std.proofs.Common.{◌+◌, ◌-◌, ◌≤◌, length, ap, ◌∙◌, arith}
use Rattle.std.proofs.lemmas.List.{length-take-le}
use Rattle.scales.specs.Rows.{row_plus}
use Rattle.grader.proofs.Merging.{merged}
use Rattle.grader.proofs.contexts.Contexts.add_top.Goals as goal

pub returns-clause-held : goal.returns-clause-held
returns-clause-held g c h a b ea eb is =
    let s = c.self.inside in
    let n = c.args.width in
    let m = c.args.top in
    let there = c.requires in
    let held_is = ap (λ v. v.held) c.self.view_is in
    let fits = c.self.invariant in
    let both = ap length held_is in
    let long = length-take-le s.used s.places.now fits in
    let deep : n + m ≤ s.used = omega arith in
    merged g.G.Scale.ops.plus s.places.now c.merge_rest.new.grades s.used n m (s.used - m - n) (s.used - (s.used - m - n)) (s.used - m) fits (omega arith) (omega arith) (omega arith)
    (c.merge_rest.ensures (row_plus g.G.Scale.ops) (λ x y r x' p. p)) h a b ea eb (held_is ∙ is)
