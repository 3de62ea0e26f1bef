-- The walk along the scope. Assumes nothing.
use Rattle.std.proofs.Common.{◌≡◌, ℕ, zero, suc, ◌-◌, ◌<◌, ◌≤◌, List, length, get_or, sym, ap, ◌∙◌, subst, arith}
use Rattle.evaluation.specs.Flight.{at}
use Rattle.evaluation.specs.Flight as byname
use Rattle.flight.specs.Nodes.{Runner}
use Rattle.flight.specs.Tables.{Tables, no_binding, size_at}
use Rattle.flight.specs.Means.{scope_at}
use Rattle.flight.specs.Sound.{Tabled, Finds}
use Rattle.flight.specs.Links.{Linked}
use Rattle.flight.specs.declared.machine.Binding.{Binding}
use Rattle.flight.proofs.Decode.{found_here, found_further, size_pos}

size_zero : (bs : List Binding) (p l : ℕ) → l < size_at bs p → 0 < p
size_zero bs zero l h = absurd (omega arith)
size_zero bs (suc p) l h = omega arith

module _ (t : Tables) (W : Linked t.bindings t.values t.log) (a l : ℕ) (pos : 0 < a) (le : a ≤ length t.bindings) where
  abbrev B : List Binding
  B = t.bindings

  abbrev b : Binding
  b = get_or B (a - 1) no_binding

  one : suc (a - 1) ≡ a
  one = omega arith

  pub further : ¬ (b.level ≡ l) → l < size_at B a
      → (b.parent ≤ length B) × (0 < b.parent) × (l < size_at B b.parent)
      × (Tabled t → (E : Runner) (L : byname.Limits) → at (byname.kept byname.v_unit) (scope_at E L t.values B b.parent) l ≡ at (byname.kept byname.v_unit) (scope_at E L t.values B a) l)
  further ne lt =
      let fits : a - 1 < length B = omega arith in
      let o = W.bindings (a - 1) fits in
      let p = o.older in
      let z = size_pos B a pos in
      let v = o.level in
      let n : l < size_at B b.parent = (let u : l < b.level = omega arith in subst (λ (x : ℕ). l < x) v u) in (
        omega arith,
        size_zero B b.parent l n,
        n,
        λ T E L. sym (found_further E L t.values B T.sound.bindings (a - 1) l fits ne) ∙ ap (λ (x : ℕ). at (byname.kept byname.v_unit) (scope_at E L t.values B x) l) one,
      )

  pub here : b.level ≡ l → Tabled t → Finds t a l (a - 1)
  here e T =
      let fits : a - 1 < length B = omega arith in
      (fits, λ E L. ap (λ (x : ℕ). at (byname.kept byname.v_unit) (scope_at E L t.values B x) l) (sym one) ∙ found_here E L t.values B T.sound.bindings (a - 1) l fits e)
