use Rattle.std.proofs.Common.{◌≡◌, ℕ, ◌<◌, get_or}
use Rattle.grader.proofs.contexts.clear.Given as goal

abbrev pub invariant-loop-grade : goal.invariant-loop-grade
invariant-loop-grade g l = (k : ℕ) (d : g.row.G.Denot) → k < l.grade-index → get_or l.grade-items k d ≡ g.G.Scale.ops.zero
