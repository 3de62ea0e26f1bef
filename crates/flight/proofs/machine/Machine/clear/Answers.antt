use Rattle.std.proofs.Common.{ℕ, ◌<◌, ◌≤◌, sym, subst}
use Rattle.flight.specs.Tables.{tables, the_spot}
use Rattle.flight.specs.Spelled.{Begun}
use Rattle.flight.specs.declared.machine.Control.TheVariants.{Eval}
use Rattle.flight.proofs.Spelled.{store_more, storing_at, begin_stands}
use Rattle.flight.proofs.machine.Machine.clear.Goals as goal

pub loop-i-preserved : goal.loop-i-preserved
loop-i-preserved c =
    storing_at c.args.code.nodes.now c.args.code.legs.now c.args.main.now _ _ _ c.open.ensures.tables
    (store_more c.args.code.nodes.now c.args.code.legs.now c.args.main.now (tables c.loop-i.self) c.loop-i.i c.loop-i.invariant
    (subst (λ (n : ℕ). c.loop-i.i < n) c.len-count.ensures.value c.loop-i-test.true))

pub returns-clause-begun : goal.returns-clause-begun
returns-clause-begun c =
    let ns = c.args.code.nodes.now in
    let gs = c.args.code.legs.now in
    let main = c.args.main.now in
    let t = tables c.loop-i.self in
    let e = c.len-count.ensures.value in
    let all = subst (λ (n : ℕ). n ≤ c.loop-i.i) e c.loop-i-test.false in
    subst (λ (n : ℕ). Begun ns gs main t (Eval (the_spot main.first n 1))) (sym e) (begin_stands ns gs main t c.loop-i.i c.loop-i.invariant all)
