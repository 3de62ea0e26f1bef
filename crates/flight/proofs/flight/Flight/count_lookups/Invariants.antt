use Rattle.std.proofs.Common.{◌≤◌}
use Rattle.flight.specs.Flights.{Written, lookups_of}
use Rattle.flight.proofs.flight.Flight.count_lookups.Given as goal

abbrev pub invariant-loop-store : goal.invariant-loop-store
invariant-loop-store l = (l.store ≤ 8) × Written (lookups_of l.self) l.initial.counts l.counts l.store
