use Rattle.std.proofs.Common.{◌≤◌, length}
use Rattle.scales.proofs.SetCode.{Marked}
use Rattle.scales.proofs.set.Set.new.Given as goal

abbrev pub invariant-loop-n : goal.invariant-loop-n
invariant-loop-n l = (l.n-index ≤ length l.members) × Marked l.members l.n-index l.mask
