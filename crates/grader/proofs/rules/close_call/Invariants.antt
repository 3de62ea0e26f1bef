use Rattle.std.proofs.Common.{◌≡◌, ◌-◌, ◌≤◌, length}
use Rattle.grader.specs.Stack.{room}
use Rattle.grader.proofs.Calling.{Taken}
use Rattle.grader.proofs.rules.close_call.Given as goal

abbrev pub invariant-loop-grade : goal.invariant-loop-grade
invariant-loop-grade g l = record {
  same_room : room l.contexts ≡ room l.initial.contexts;
  few : length l.yielded ≤ length l.grades;
  taken : Taken g.S.Scale.ops l.width l.grades l.initial.contexts.held (length l.grades - length l.yielded) l.contexts.held;
}
