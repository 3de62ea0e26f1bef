use Rattle.bay.proofs.Drawing.{Midway}
use Rattle.bay.proofs.draw_into.Given as goal

abbrev pub invariant-loop-came : goal.invariant-loop-came
invariant-loop-came g l = Midway (g.B.Bay.readings l.initial.bay) l.store l.initial.places l.came l.places (g.B.Bay.readings l.bay)
