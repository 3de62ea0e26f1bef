use Rattle.grader.proofs.Legs.{AtLeg}
use Rattle.grader.proofs.walk.grade_legs.Given as goal

abbrev pub invariant-loop-k : goal.invariant-loop-k
invariant-loop-k g l = AtLeg g.S.Scale.ops l.nodes l.legs l.initial.answers l.k l.answers
