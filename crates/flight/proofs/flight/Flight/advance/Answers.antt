use Rattle.std.proofs.Common.{List, sym, subst₂}
use Rattle.plan.specs.declared.Row.{Row}
use Rattle.plan.specs.declared.Leg.{Leg}
use Rattle.flight.specs.Tables.{tables}
use Rattle.flight.specs.Sound.{Ready}
use Rattle.flight.specs.Fly.{Flies}
use Rattle.flight.specs.Held.{rows_of, legs_of}
use Rattle.flight.proofs.Props.{ready_of}
use Rattle.flight.proofs.Going.{goes_on}
use Rattle.flight.proofs.flight.Flight.advance.Goals as goal

pub fly-requires : goal.fly-requires
fly-requires g c =
    let s = c.args.self.now in
    let m = s.machine in
    let e = c.code_of.ensures in
    subst₂ (λ (ns : List Row) (gs : List Leg). Ready ns gs (tables m) m.control) (sym e.nodes) (sym e.legs)
    (ready_of (rows_of s.plan) (legs_of s.plan) (tables m) m.control s.ready)

pub returns-clause-flies : goal.returns-clause-flies
returns-clause-flies g c p y₀ N A =
    let q = c.args.self.now.plan in
    let y = g.B.Bay.readings c.args.bay.now in
    let z = g.B.Bay.readings c.fly.new.bay in
    let m = c.args.self.now.machine in
    let w = c.fly.new.self in
    let n = c.args.n in
    let e = c.code_of.ensures in
    let on = subst₂ (λ (ns : List Row) (gs : List Leg). Flies ns gs n y (tables m) m.control z (tables w) w.control) e.nodes e.legs c.fly.ensures.flies in
    let r = goes_on q A.flyable (tables m) (tables w) m.control w.control y z n on p y₀ N A.aloft in
    record { flyable = A.flyable; plan = A.plan; out = r.1; aloft = r.0 }
