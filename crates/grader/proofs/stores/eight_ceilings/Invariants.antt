use Rattle.grader.proofs.Params.{Filling}
use Rattle.grader.proofs.stores.eight_ceilings.Given as goal

abbrev pub invariant-loop-i : goal.invariant-loop-i
invariant-loop-i g l = Filling g.S.Scale.ops.ceiling l.grades l.ceiling-items l.i
