use Rattle.std.proofs.Common.{◌≡◌, ℕ}
use Rattle.scales.specs.Masks.{after}
use Rattle.scales.proofs.SetCode.{Gathered}
use Rattle.scales.proofs.set.ops.union_after.Given as goal

abbrev pub invariant-loop-n : goal.invariant-loop-n
invariant-loop-n g l =
    (next : ℕ → ℕ) → ((m r : ℕ) → goal.F-post g l.step m r → r ≡ next m)
    → Gathered l.counts (after next l.first) l.n l.all × (l.stepped ≡ after next l.first l.n)
