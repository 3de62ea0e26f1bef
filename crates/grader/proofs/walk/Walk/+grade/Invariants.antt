use Rattle.std.proofs.Common.{◌≡◌, ◌-◌, length}
use Rattle.plan.specs.Trees.{kids, head}
use Rattle.plan.specs.Table.{term_at}
use Rattle.grader.specs.Stack.{room}
use Rattle.grader.specs.Walk.{lower_needs}
use Rattle.grader.proofs.Walking.{Walking}
use Rattle.grader.proofs.walk.Walk.+grade.Given as goal

abbrev pub decreases-grade : goal.decreases-grade
decreases-grade g l = length l.self.now.nodes.now - l.at

abbrev pub invariant-loop-k : goal.invariant-loop-k
invariant-loop-k g l = record {
  count_is : l.k-end ≡ length (kids (term_at l.self.nodes.now l.at));
  node_is : l.node ≡ head (term_at l.self.nodes.now l.at);
  same_room : room l.progress.contexts ≡ room l.initial.progress.contexts;
  same : l.progress.answers.ghost_name ≡ l.initial.progress.answers.ghost_name;
  walking :
      Walking g.S.Scale.ops (lower_needs g.S.Scale.ops l.self.nodes.now l.self.lower.now) l.self.lower.now l.self.nodes.now l.at l.width l.own (term_at l.self.nodes.now l.at)
      l.initial.progress.contexts.held l.initial.progress.answers.now l.k l.place l.progress.next l.progress.contexts.held l.progress.answers.now;
}
