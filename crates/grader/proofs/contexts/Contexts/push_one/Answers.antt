use Rattle.std.proofs.Common.{◌≡◌, ◌+◌, ◌-◌, ◌≤◌, ◌++◌, length, take, drop, set, replicate, ap, ◌∙◌, arith, length-drop}
use Rattle.std.proofs.lemmas.List.{length-take-le}
use Rattle.grading.specs.Grading.{one_of}
use Rattle.grading.specs.Least.{from_0}
use Rattle.grading.proofs.Numbers.{from_0_length}
use Rattle.grader.proofs.Merging.{pushed, name_row}
use Rattle.grader.proofs.contexts.Contexts.push_one.Goals as goal

pub returns-clause-held : goal.returns-clause-held
returns-clause-held g c =
    let s = c.self.inside in
    let o = g.G.Scale.ops in
    let n = c.args.width in
    let x = c.one.result in
    let row = from_0 n (one_of o c.args.level) in
    let held_is = ap (λ v. v.held) c.self.view_is in
    let long = length-take-le s.used s.places.now c.self.invariant in
    let both = ap length held_is in
    let above = ap (λ v. length v.free) c.self.view_is in
    let rest = length-drop s.used s.places.now in
    let room_is = c.requires.room in
    let fits : s.used + n ≤ length s.places.now = omega arith in
    let part : length (take (s.used + n - s.used) (drop s.used s.places.now)) ≡ n = length-take-le _ (drop s.used s.places.now) (omega arith) ∙ (let e : s.used + n - s.used ≡ n = omega arith in e) in
    pushed s.places.now (set c.clear.new.row c.args.level x) s.used n (s.used + n - s.used) row fits (omega arith) (from_0_length n (one_of o c.args.level))
    (ap (λ l. set l c.args.level x) (c.clear.ensures ∙ ap (λ k. replicate k o.zero) part) ∙ name_row o n c.args.level x c.requires.level c.one.ensures)
    ∙ ap (λ l. l ++ row) held_is
