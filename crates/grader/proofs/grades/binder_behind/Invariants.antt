use Rattle.std.proofs.Common.{◌≡◌, ◌+◌, ◌*◌, ◌≤◌, drop}
use Rattle.plan.specs.Table.{nodes_of}
use Rattle.plan.specs.Written.{binders_in}
use Rattle.grader.proofs.grades.binder_behind.Given as goal

abbrev pub invariant-loop-row : goal.invariant-loop-row
invariant-loop-row l = record {
  few : l.binder ≤ l.next + 2 * l.row-index;
  counted : binders_in l.next (nodes_of l.nodes) ≡ binders_in l.binder (drop l.row-index (nodes_of l.nodes));
}
