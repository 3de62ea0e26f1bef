use Rattle.std.proofs.Common.{ℕ, ◌+◌, refl, ap, ◌∙◌}
use Rattle.flight.specs.Tables.{tables, the_spot}
use Rattle.flight.specs.declared.machine.Control.TheVariants.{Eval}
use Rattle.flight.proofs.Leads.{leads_at, bind_leads, bind_full}
use Rattle.flight.proofs.machine.Machine.bind.Goals as goal

pub returns-in-None : goal.returns-in-None
returns-in-None c ns gs H =
    let e = c.in-None.ensures.full in
    leads_at ns gs (tables c.args.self.now) _ _ _ _ _ e.1 refl
    (bind_full ns gs (tables c.args.self.now) c.args.spot H.poised c.args.binder c.args.what c.args.body e.0)

pub returns-in-Some : goal.returns-in-Some
returns-in-Some c ns gs H =
    let e = c.in-Some.ensures in
    leads_at ns gs (tables c.args.self.now) _ _ _ _ _ e.tables (ap Eval (c.below.ensures H.poised.least ∙ ap (λ (i : ℕ). the_spot c.args.body i (c.args.spot.depth + 1)) e.scope))
    (bind_leads ns gs (tables c.args.self.now) c.args.spot H.poised c.args.binder c.args.what c.args.body e.room H.what H.body)
