-- One more node, one more leg. Assumes nothing.
use Rattle.std.proofs.Common.{◌≡◌, ℕ, zero, suc, ◌+◌, ◌-◌, ◌<◌, ◌≤◌, List, [], ◌∷◌, ◌++◌, length, get_or, take, drop, drop-cons, slice_range, Some, None, Option, sym, ap, ◌∙◌, subst, inl, inr, append-nil, arith}
use Rattle.std.proofs.lemmas.Bool.{cases_lt}
use Rattle.std.proofs.lemmas.List.{drop_all, take_more}
use Rattle.std.proofs.lemmas.List.Concat.{flat_map-append}
use Rattle.std.specs.Slice.{IsGetRangeResult}
use Rattle.std.specs.Option.{unwrap_or}
use denote.Ref.{Bor}
use Rattle.plan.specs.declared.Row.{Row}
use Rattle.plan.specs.declared.Leg.{Leg as FlatLeg}
use Rattle.plan.specs.Plans.{params_of, legs_in}
use Rattle.plan.specs.Trees.{flat}
use Rattle.plan.specs.Table.{nodes_of, term_at, node_size, Spells, InOrder}
use Rattle.plan.proofs.Kids.{rows_here}
use Rattle.plan.proofs.Plans.{nodes_append, legs_push}
use Rattle.listing.specs.Binders.{bound_by, bound_in, params, leg_kinds}

pub bound_more : (ns : List Row) (i : ℕ) (d : Row) → i < length ns → bound_in (nodes_of (take (i + 1) ns)) ≡ bound_in (nodes_of (take i ns)) ++ bound_by (get_or ns i d).node
bound_more ns i d lt = rw (take_more ns i d lt, nodes_append, flat_map-append) (ap (λ l. bound_in (nodes_of (take i ns)) ++ l) (append-nil (bound_by (get_or ns i d).node)))

-- ---- legs

module _ (ns : List Row) where
  pub legs_more : (gs : List FlatLeg) (k : ℕ) (d : FlatLeg) → k < length gs
      → leg_kinds (legs_in ns (take (k + 1) gs)) ≡ leg_kinds (legs_in ns (take k gs)) ++ (params (length (params_of (get_or gs k d))) ++ bound_in (flat (term_at ns (get_or gs k d).first)))
  legs_more gs k d lt =
      let g = get_or gs k d in
      let new = params (length (params_of g)) ++ bound_in (flat (term_at ns g.first)) in
      rw (take_more gs k d lt, legs_push, flat_map-append) (ap (λ l. leg_kinds (legs_in ns (take k gs)) ++ l) (append-nil new))

  -- The body of the k-th leg begins where the leg says.
  order_at : (p : ℕ) (gs : List FlatLeg) (k : ℕ) (d : FlatLeg) → k < length gs → InOrder p ns gs → InOrder (get_or gs k d).first ns (get_or gs k d ∷ drop (k + 1) gs)
  order_at p [] k d lt o = absurd (omega arith)
  order_at p (g ∷ gs) zero d lt o = subst (λ x. InOrder x ns (g ∷ gs)) (sym o.0) o
  order_at p (g ∷ gs) (suc k) d lt o =
      let e : suc (k + 1) ≡ suc k + 1 = omega arith in
      subst (λ m. InOrder (get_or gs k d).first ns (get_or gs k d ∷ drop m (g ∷ gs))) e (order_at (p + node_size (term_at ns p)) gs k d (omega arith) o.3)

  order_ends : (p : ℕ) (gs : List FlatLeg) → InOrder p ns gs → p ≤ length ns
  order_ends p [] o = omega (arith, o)
  order_ends p (g ∷ gs) o = let lt = o.1 in omega arith

  -- Up to where the next leg's begins, or to the table's end, it is what the leg's expression spells.
  pub body_at : (gs : List FlatLeg) (k : ℕ) (d : FlatLeg) (end : ℕ) → k < length gs → Spells ns → InOrder 0 ns gs → (k + 1 < length gs → end ≡ (get_or gs (k + 1) d).first) → (length gs ≤ k + 1 → end ≡ length ns)
      → ((get_or gs k d).first ≤ end) × (end ≤ length ns) × (nodes_of (slice_range ns (get_or gs k d).first end) ≡ flat (term_at ns (get_or gs k d).first))
  body_at gs k d end lt s o next last =
      let p = (get_or gs k d).first in
      let size = node_size (term_at ns p) in
      let here = order_at 0 gs k d lt o in
      let fits = order_ends (p + size) (drop (k + 1) gs) here.3 in
      let is : end ≡ p + size =
      elim (cases_lt (k + 1) (length gs)) [
        | inl more ↦ next more ∙ (subst (InOrder (p + size) ns) (drop-cons gs (k + 1) d more) here.3).0
        | inr le ↦ last le ∙ sym (subst (InOrder (p + size) ns) (drop_all (k + 1) gs le) here.3)
      ] in
      let long : end - p ≡ size = omega arith in
      (omega arith, omega arith, ap (λ n. nodes_of (take n (drop p ns))) long ∙ rows_here ns s p here.1)

pub part_of : {X : Type 0} (xs : List X) (i j : ℕ) (r : Option (Bor (List X))) (other : Bor (List X)) → IsGetRangeResult xs i j r → i ≤ j → j ≤ length xs → (unwrap_or r other).now ≡ slice_range xs i j
part_of xs i j None other h le fits = let t = h.1 (le, fits) in cc
part_of xs i j (Some x) other h le fits = h.0.2
