use Rattle.std.proofs.Common.{◌≡◌, ℕ, ◌-◌, ◌<◌, ◌≤◌, length, get_or, sym, ap, ◌∙◌, subst, rules}
use Rattle.std.proofs.lemmas.List.{get_or_read}
use Rattle.evaluation.specs.Flight.{at}
use Rattle.evaluation.specs.Flight as byname
use Rattle.flight.specs.Nodes.{Runner}
use Rattle.flight.specs.Tables.{tables, no_binding, size_at}
use Rattle.flight.specs.Means.{scope_at}
use Rattle.flight.specs.declared.machine.Binding.{Binding}
use Rattle.flight.specs.Sound.{Tabled}
use Rattle.flight.proofs.Links.{linked_of}
use Rattle.flight.proofs.Find.{further, here}
use Rattle.flight.proofs.machine.Machine.find.Goals as goal

pub loop-at-preserved : goal.loop-at-preserved
loop-at-preserved c =
    let t = tables c.args.self.now in
    let B = t.bindings in
    let a = c.loop-at.at in
    let l = c.args.level in
    let i = c.loop-at.invariant in
    let x : c.index.result.now ≡ get_or B (a - 1) no_binding = search (rules, get_or_read) in
    let y : c.index-in-loop-at.result.now ≡ get_or B (a - 1) no_binding = search (rules, get_or_read) in
    let ne : ¬ ((get_or B (a - 1) no_binding).level ≡ l) = λ p. c.loop-at-test.true (ap (λ (b : Binding). b.level) x ∙ p) in
    let f = further t (linked_of _ _ _ c.args.self.now.linked) a l i.1 i.0 ne i.2 in
    let e : (get_or B (a - 1) no_binding).parent ≡ c.index-in-loop-at.result.now.parent = ap (λ (b : Binding). b.parent) (sym y) in
    subst (λ (p : ℕ). (p ≤ length B) × (0 < p) × (l < size_at B p)
    × (Tabled t → (E : Runner) (L : byname.Limits) → at (byname.kept byname.v_unit) (scope_at E L t.values B p) l ≡ at (byname.kept byname.v_unit) (scope_at E L t.values B c.args.scope) l)) e
    (f.0, f.1, f.2, λ T E L. f.3 T E L ∙ i.3 T E L)

pub returns-clause-finds : goal.returns-clause-finds
returns-clause-finds c T =
    let t = tables c.args.self.now in
    let B = t.bindings in
    let a = c.loop-at.at in
    let i = c.loop-at.invariant in
    let x : c.index.result.now ≡ get_or B (a - 1) no_binding = search (rules, get_or_read) in
    let h = here t (linked_of _ _ _ c.args.self.now.linked) a c.args.level i.1 i.0 (ap (λ (b : Binding). b.level) (sym x) ∙ c.loop-at-test.false) T in
    (h.0, λ E L. sym (i.3 T E L) ∙ h.1 E L)
