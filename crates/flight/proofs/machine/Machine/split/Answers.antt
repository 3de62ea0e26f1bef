use Rattle.std.proofs.Common.{ℕ, ◌+◌, ◌<◌, length, sym, refl, ap, ◌∙◌, subst, ap₂}
use Rattle.flight.specs.Tables.{Tables, tables, the_spot, opened}
use Rattle.flight.specs.declared.machine.What.TheVariants.{Kept}
use Rattle.flight.specs.declared.machine.Control.TheVariants.{Eval}
use Rattle.flight.proofs.Leads.{leads_at}
use Rattle.flight.proofs.Giving.{split_half, split_both}
use Rattle.flight.proofs.machine.Machine.split.Goals as goal

pub returns-in_default-try_open : goal.returns-in_default-try_open
returns-in_default-try_open c ns gs H =
    let e = c.in-Some.ensures in
    let f = c.in_default-try_open.ensures.full in
    leads_at ns gs (tables c.args.self.now) _ _ _ _ _ (f.1 ∙ e.tables) refl
    (split_half ns gs (tables c.args.self.now) c.args.spot H.poised c.args.binder c.args.parts.0 c.args.parts.1 c.args.body H.value c.requires.second H.body e.room
    (ap (λ (x : Tables). length x.log) (sym e.tables) ∙ f.0))

pub returns : goal.returns
returns c ns gs H =
    let e = c.in-Some.ensures in
    let f = c.in-Some-try_open.ensures in
    leads_at ns gs (tables c.args.self.now) _ _ _ _ _
    (f.tables ∙ ap₂ (λ (i : ℕ) (x : Tables). opened (c.args.binder + 1) (Kept c.args.parts.1) i x) e.scope e.tables)
    (ap Eval (c.below.ensures H.poised.least ∙ ap (λ (i : ℕ). the_spot c.args.body i (c.args.spot.depth + 1)) (f.scope ∙ ap (λ (x : Tables). length x.bindings + 1) e.tables)))
    (split_both ns gs (tables c.args.self.now) c.args.spot H.poised c.args.binder c.args.parts.0 c.args.parts.1 c.args.body H.value c.requires.second H.body e.room
    (subst (λ (x : Tables). length x.log < 4096) e.tables f.room))
