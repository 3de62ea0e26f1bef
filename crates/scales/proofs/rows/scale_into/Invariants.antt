use Rattle.std.proofs.Common.{◌≡◌, ℕ, ◌<◌, ◌≤◌, get_or}
use Rattle.scales.proofs.rows.scale_into.Given as goal

abbrev pub invariant-loop-x : goal.invariant-loop-x
invariant-loop-x g l =
    ((k : ℕ) (d : g.row.S.Denot) → k < l.x-index → get_or l.row k d ≡ g.S.Scale.ops.times l.by (get_or l.initial.row k d))
    × ((k : ℕ) (d : g.row.S.Denot) → l.x-index ≤ k → get_or l.row k d ≡ get_or l.initial.row k d)
