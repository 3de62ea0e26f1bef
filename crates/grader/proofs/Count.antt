-- How many binders a plan has, by its tables. Assumes nothing.
use Rattle.std.proofs.Common.{◌≡◌, ℕ, zero, suc, ◌+◌, List, [], ◌∷◌, length, get_or, take, drop, sym, ap, ◌∙◌, ap₂, arith, length-drop}
use Rattle.std.proofs.lemmas.List.{take_all}
use Rattle.plan.specs.declared.Leg.{Leg as FlatLeg}
use Rattle.plan.specs.declared.Row.{Row}
use Rattle.plan.specs.Trees.{flat}
use Rattle.plan.specs.Written.{binders_in}
use Rattle.plan.specs.Table.{nodes_of, term_at, node_size, Spells, InOrder}
use Rattle.plan.specs.Plans.{params_of, leg_in, legs_in}
use Rattle.plan.proofs.Kids.{rows_here}
use Rattle.typer.specs.Walk.{no_leg}
use Rattle.grading.specs.Grading.{turned}
use Rattle.grading.specs.Least.{legs_binders}
use Rattle.grader.specs.Walk.{LegReady}
use Rattle.grader.proofs.Legs.{lower_more}

-- The last body ends with the table.
last_ends : (p : ℕ) (ns : List Row) (gs : List FlatLeg) (k : ℕ) → k + 1 ≡ length gs → InOrder p ns gs → (get_or gs k no_leg).first + node_size (term_at ns (get_or gs k no_leg).first) ≡ length ns
last_ends p ns [] k e o = absurd (omega arith)
last_ends p ns (g ∷ []) zero e o = ap (λ x. x + node_size (term_at ns x)) o.0 ∙ o.3
last_ends p ns (g ∷ []) (suc k) e o = absurd (omega arith)
last_ends p ns (g ∷ h ∷ gs) zero e o = absurd (omega arith)
last_ends p ns (g ∷ h ∷ gs) (suc k) e o = last_ends (p + node_size (term_at ns p)) ns (h ∷ gs) k (omega arith) o.3

module _ (ns : List Row) (gs : List FlatLeg) (k : ℕ) (last : k + 1 ≡ length gs) (s : Spells ns) (o : InOrder 0 ns gs) (r : LegReady ns (take k gs) (get_or gs k no_leg)) where
  pub legs_are : turned [] (legs_in ns gs) ≡ leg_in ns (get_or gs k no_leg) ∷ turned [] (legs_in ns (take k gs))
  legs_are = ap (λ l. turned [] (legs_in ns l)) (sym (take_all (k + 1) gs (omega arith))) ∙ lower_more ns gs k (omega arith)

  body_is : nodes_of (drop (get_or gs k no_leg).first ns) ≡ flat (term_at ns (get_or gs k no_leg).first)
  body_is =
      let first = (get_or gs k no_leg).first in
      let size = node_size (term_at ns first) in
      let rest = length-drop first ns in
      let e = last_ends 0 ns gs k last o in
      ap nodes_of (sym (take_all size (drop first ns) (omega arith))) ∙ rows_here ns s first r.within

  pub counted : binders_in ((get_or gs k no_leg).binder.index + length (params_of (get_or gs k no_leg))) (nodes_of (drop (get_or gs k no_leg).first ns)) ≡ legs_binders (turned [] (legs_in ns gs))
  counted = ap₂ (λ b os. binders_in (b + length (params_of (get_or gs k no_leg))) os) r.numbered body_is ∙ sym (ap legs_binders legs_are)
