use Rattle.std.proofs.Common.{◌≤◌, length, vec_len, refl, rules}
use Rattle.flight.specs.Tables.{tables}
use Rattle.flight.specs.Held.{legs_of}
use Rattle.flight.proofs.Flyable.{plan_main, some_legs}
use Rattle.flight.proofs.Going.{begins}
use Rattle.flight.proofs.flight.Flight.over.Goals as goal

pub stand-requires : goal.stand-requires
stand-requires c =
    let q = c.args.plan in
    let h : 1 ≤ length (legs_of q) = some_legs q.plan c.requires.0 c.requires.1 in
    let l : 1 ≤ vec_len q.plan.legs = search rules in
    record { legs = l; main = plan_main q.plan c.requires.0 c.requires.1 }

pub invariant_of-result : goal.invariant_of-result
invariant_of-result c =
    let q = c.args.plan in
    let h : 1 ≤ length (legs_of q) = some_legs q.plan c.requires.0 c.requires.1 in
    let l : 1 ≤ vec_len q.plan.legs = search rules in
    record { legs = l; main = ∣ plan_main q.plan c.requires.0 c.requires.1 ∣₁; ready = ∣ c.stand.ensures.ready ∣₁ }

pub returns : goal.returns
returns c =
    let q = c.args.plan in
    let m = c.stand.new.machine in
    record {
      plan = refl;
      begun = λ y. (let r = begins q c.requires (tables m) m.control c.stand.ensures.begun y in record { flyable = c.requires; plan = refl; out = r.1; aloft = r.0 });
    }
