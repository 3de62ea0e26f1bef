use Rattle.std.proofs.Common.{List, subst, subst₂}
use Rattle.plan.specs.declared.Row.{Row}
use Rattle.plan.specs.declared.Leg.{Leg}
use Rattle.flight.specs.Tables.{tables}
use Rattle.flight.specs.Spelled.{Begun}
use Rattle.flight.specs.Held.{rows_of, legs_of}
use Rattle.flight.proofs.flight.calls.stand.Goals as goal

pub returns-clause-begun : goal.returns-clause-begun
returns-clause-begun c =
    let e = c.code_of.ensures in
    let q = c.args.plan.now in
    let m = c.clear.new.self in
    subst (λ (g : Leg). Begun (rows_of q) (legs_of q) g (tables m) m.control) c.main_of.ensures
    (subst₂ (λ (ns : List Row) (gs : List Leg). Begun ns gs c.main_of.result.now (tables m) m.control) e.nodes e.legs c.clear.ensures.begun)
