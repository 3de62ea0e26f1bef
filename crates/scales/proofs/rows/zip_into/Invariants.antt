use Rattle.std.proofs.Common.{◌≡◌, ℕ, ◌<◌, ◌≤◌, get_or}
use Rattle.scales.proofs.rows.zip_into.Given as goal

abbrev pub invariant-loop-i : goal.invariant-loop-i
invariant-loop-i g l =
    (op : g.row.S.Denot → g.row.S.Denot → g.row.S.Denot) → ((x y r : g.row.S.Denot) → goal.F-post g l.f x y r → r ≡ op x y)
    → ((k : ℕ) (d : g.row.S.Denot) → k < l.i → get_or l.row k d ≡ op (get_or l.initial.row k d) (get_or l.more k d))
    × ((k : ℕ) (d : g.row.S.Denot) → l.i ≤ k → get_or l.row k d ≡ get_or l.initial.row k d)
