use Rattle.std.proofs.Common.{refl}
use Rattle.flight.specs.Tables.{tables}
use Rattle.flight.specs.Held.{rows_of, legs_of, main_in}
use Rattle.flight.proofs.Props.{main_of}
use Rattle.flight.proofs.Going.{begins}
use Rattle.flight.proofs.flight.Flight.begin.Goals as goal

pub stand-requires : goal.stand-requires
stand-requires c =
    let s = c.args.self.now in
    record { legs = s.legs; main = main_of (rows_of s.plan) (legs_of s.plan) (main_in s.plan) s.main }

pub invariant_of-self : goal.invariant_of-self
invariant_of-self c = let s = c.args.self.now in record { legs = s.legs; main = s.main; ready = ∣ c.stand.ensures.ready ∣₁ }

pub returns : goal.returns
returns c =
    let q = c.args.self.now.plan in
    let m = c.stand.new.machine in
    record {
      plan = refl;
      begun = λ f y. (let r = begins q f (tables m) m.control c.stand.ensures.begun y in record { flyable = f; plan = refl; out = r.1; aloft = r.0 });
    }
