use Rattle.std.proofs.Common.{◌+◌, ◌-◌, ◌≤◌, length, ap, ◌∙◌, arith}
use lib.ListN.{length-map}
use Rattle.std.proofs.lemmas.List.{length-take-le}
use Rattle.scales.specs.Rows.{row_times}
use Rattle.grader.proofs.Merging.{below}
use Rattle.grader.proofs.contexts.Contexts.scale_below.Goals as goal

pub returns-clause-held : goal.returns-clause-held
returns-clause-held g c h a b ea eb is =
    let s = c.self.inside in
    let n = c.args.width in
    let m = c.args.top in
    let there = c.requires in
    let held_is = ap (λ v. v.held) c.self.view_is in
    let fits = c.self.invariant in
    let both = ap length held_is in
    let long = length-take-le s.used s.places.now fits in
    let deep : n + m ≤ s.used = omega arith in
    below s.places.now c.scale_into.new.row s.used n m (s.used - m - n) (s.used - m - (s.used - m - n)) fits (omega arith) (omega arith)
    (row_times g.G.Scale.ops c.args.by) (λ l. length-map l (g.G.Scale.ops.times c.args.by)) c.scale_into.ensures h a b ea eb (held_is ∙ is)
