use Rattle.std.proofs.Common.{◌≤◌}
use Rattle.plan.proofs.Ends.{Closing}
use Rattle.reader.proofs.table.close.Given as goal

abbrev pub invariant-loop-i : goal.invariant-loop-i
invariant-loop-i l = record { low : l.first ≤ l.i; closing : Closing l.i l.initial.nodes l.nodes }
