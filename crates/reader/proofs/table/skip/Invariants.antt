use Rattle.std.proofs.Common.{◌-◌, ◌≤◌}
use Rattle.plan.proofs.Ends.{Skips}
use Rattle.reader.proofs.table.skip.Given as goal

abbrev pub invariant-loop : goal.invariant-loop
invariant-loop l = (l.at ≤ l.place) × Skips l.nodes l.at l.count l.place (l.count - l.counter)
