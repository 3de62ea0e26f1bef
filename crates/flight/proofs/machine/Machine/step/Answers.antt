use Rattle.std.proofs.Common.{◌<◌, length, ap, ◌∙◌, subst, rules}
use Rattle.flight.specs.Tables.{Tables, tables, valued}
use Rattle.flight.specs.Sound.{Ready}
use Rattle.flight.specs.declared.machine.Part.TheVariants.{Num}
use Rattle.flight.specs.declared.machine.Control.TheVariants.{Return}
use Rattle.flight.proofs.Step.{draw_some, steps_at, steps_from}
use Rattle.flight.proofs.machine.Machine.step.Goals as goal

pub returns-in-Eval : goal.returns-in-Eval
returns-in-Eval g c =
    steps_from c.args.code.nodes.now c.args.code.legs.now _ (tables c.args.self.now) c.args.control _ _ _ _ c.in-Eval.is (c.begin.ensures (g.B.Bay.readings c.args.bay.now))

pub returns-in-Return : goal.returns-in-Return
returns-in-Return g c =
    steps_from c.args.code.nodes.now c.args.code.legs.now _ (tables c.args.self.now) c.args.control _ _ _ _ c.in-Return.is (c.give.ensures (g.B.Bay.readings c.args.bay.now))

pub returns-in-Some : goal.returns-in-Some
returns-in-Some g c =
    let ns = c.args.code.nodes.now in
    let gs = c.args.code.legs.now in
    let t = tables c.args.self.now in
    let h = c.in-Some.ensures.draws in
    let fits : c.in-Some.x < 4294967296 = search rules in
    steps_from ns gs _ t c.args.control _ _ _ _ c.in-Draw.is
    (steps_at ns gs _ t _ _ _ _ _ _
    (c.value.ensures.tables ∙ ap (valued (Num c.in-Some.x)) c.note_lookup.ensures)
    (ap Return (c.value.ensures.place ∙ ap (λ (x : Tables). length x.values) c.note_lookup.ensures))
    (draw_some ns gs t c.in-Draw.binder c.in-Draw.store (subst (Ready ns gs t) c.in-Draw.is c.requires.ready) (g.B.Bay.readings c.args.bay.now) (g.B.Bay.readings c.draw.new.self) c.in-Some.x fits h.0 h.1))
