-- The legs of an accepted plan can be graded. Assumes nothing.
use Rattle.std.proofs.Common.{◌≡◌, ℕ, zero, suc, ◌+◌, ◌-◌, ◌<◌, ◌≤◌, true, false, cond, eqb, List, [], ◌∷◌, length, get_or, take, vec_items, sym, ap, ◌∙◌, subst, inl, inr, arith, eq-eqb, ne_eqb}
use Rattle.std.proofs.lemmas.List.{take_all, get_or-take, length-take-le}
use Rattle.std.proofs.lemmas.Bool.{cases_lt}
use Rattle.plan.specs.declared.TypeId.{TypeId}
use Rattle.plan.specs.declared.Leg.{Leg as FlatLeg}
use Rattle.plan.specs.declared.Row.{Row}
use Rattle.plan.specs.declared.Plan.{Plan as FlatPlan}
use Rattle.plan.specs.Limits.{max_levels, max_nodes, max_params}
use Rattle.plan.specs.Trees.{Term, t_unit, t_number, t_name, t_let, t_take, t_pair, t_split, t_left, t_right, t_case, t_call, t_add, t_less, Terms, t_none, t_more, how_many, Leg}
use Rattle.plan.specs.Written.{Run, with_leg, LegLaid, Before, none_before}
use Rattle.plan.specs.Table.{term_at, node_size, InOrder}
use Rattle.plan.specs.Plans.{params_of, leg_in, legs_in, tree, Sound}
use Rattle.typer.specs.Typing.{World, Typed, AllTyped, scope_on, LegTyped, LegsTyped, world_of, PlanTyped}
use Rattle.typer.specs.Walk.{no_leg as no_flat}
use Rattle.grading.specs.Grading.{turned, at, no_leg, arity}
use Rattle.grading.proofs.Formed.{Formed, AllFormed, LegsFormed}
use Rattle.grading.proofs.Standing.{LegsStand, types_of, accepted_stands, accepted_formed}
use Rattle.grader.specs.Walk.{Fit, FitEach, Callable, LegsReady}
use Rattle.grader.proofs.Legs.{lower, lower_more, lower_long}

module _ (w : World) (legs : List Leg) (gs : List FlatLeg) (callable : (l c : ℕ) → l < length legs → c ≡ arity (at no_leg legs l) → Callable gs l c) where
  mutual
    -- typing bounds the levels; the rest is that the expression is formed
    pub fits : (t : Term) (Γ : List TypeId) (y : TypeId) → length Γ ≤ max_levels → Typed w Γ t y → Formed legs t (length Γ) → Fit gs (length Γ) t
    fits t_unit Γ y le h f = le
    fits (t_number v) Γ y le h f = le
    fits (t_name j) Γ y le h f = (le, f)
    fits (t_let m a b) Γ y le h f = (le, fits a Γ h.0 le h.1 f.0, fits b (h.0 ∷ Γ) y (let z = h.2 in omega arith) h.3 f.1)
    fits (t_take m a b) Γ y le h f = (le, fits a Γ h.0 le h.1 f.0, fits b (h.0 ∷ Γ) y (let z = h.2 in omega arith) h.3 f.1)
    fits (t_pair a b) Γ y le h f = (le, fits a Γ h.0 le h.2 f.0, fits b Γ h.1 le h.3 f.1)
    fits (t_split m a b) Γ y le h f = (le, fits a Γ h.0 le h.3 f.0, fits b (h.2 ∷ h.1 ∷ Γ) y (let z = h.5 in omega arith) h.6 f.1)
    fits (t_left x a) Γ y le h f = (le, fits a Γ h.0 le h.2 f)
    fits (t_right x a) Γ y le h f = (le, fits a Γ h.1 le h.2 f)
    fits (t_case m a b c) Γ y le h f =
        (le, fits a Γ h.0 le h.3 f.0, fits b (h.1 ∷ Γ) y (let z = h.5 in omega arith) h.6 f.1, fits c (h.2 ∷ Γ) y (let z = h.5 in omega arith) h.7 f.2)
    fits (t_call i ts) Γ y le h f = (le, callable i (how_many ts) f.0 f.1, all_fit ts Γ h.1 le h.2 f.2)
    fits (t_add a b) Γ y le h f = (le, fits a Γ _ le h.0 f.0, fits b Γ _ le h.1 f.1)
    fits (t_less a b) Γ y le h f = (le, fits a Γ _ le h.0 f.0, fits b Γ _ le h.1 f.1)

    all_fit : (ts : Terms) (Γ ys : List TypeId) → length Γ ≤ max_levels → AllTyped w Γ ts ys → AllFormed legs ts (length Γ) → FitEach gs (length Γ) ts
    all_fit t_none Γ ys le h f = tt
    all_fit (t_more a ts) Γ ys le h f = (fits a Γ h.0 le h.2 f.0, all_fit ts Γ h.1 le h.3 f.1)

-- ---- the legs, by their numbers

leg_typed_at : (w : World) (ns : List Row) (gs : List FlatLeg) (k : ℕ) → k < length gs → LegsTyped w (legs_in ns gs) → LegTyped w (leg_in ns (get_or gs k no_flat))
leg_typed_at w ns [] k lt h = absurd (omega arith)
leg_typed_at w ns (g ∷ []) zero lt h = h.1
leg_typed_at w ns (g ∷ []) (suc k) lt h = absurd (omega arith)
leg_typed_at w ns (g ∷ f ∷ gs) zero lt h = h.0
leg_typed_at w ns (g ∷ f ∷ gs) (suc k) lt h = leg_typed_at w ns (f ∷ gs) k (omega arith) h.1

few_at : (types : ℕ) (s : Before) (ns : List Row) (gs : List FlatLeg) (k : ℕ) → k < length gs → Run with_leg (LegLaid types) s (legs_in ns gs) → node_size (term_at ns (get_or gs k no_flat).first) ≤ max_nodes
few_at types s ns [] k lt r = absurd (omega arith)
few_at types s ns (g ∷ gs) zero lt r = let f = r.0.few_nodes in omega arith
few_at types s ns (g ∷ gs) (suc k) lt r = few_at types (with_leg s (leg_in ns g)) ns gs k (omega arith) r.1

order_at : (p : ℕ) (ns : List Row) (gs : List FlatLeg) (k : ℕ) → k < length gs → InOrder p ns gs → ((get_or gs k no_flat).first < length ns) × (length (params_of (get_or gs k no_flat)) ≤ max_params)
order_at p ns [] k lt o = absurd (omega arith)
order_at p ns (g ∷ gs) zero lt o = (subst (λ q. q < length ns) (sym o.0) o.1, o.2)
order_at p ns (g ∷ gs) (suc k) lt o = order_at (p + node_size (term_at ns p)) ns gs k (omega arith) o.3

scope_long : (ps Γ : List TypeId) → length (scope_on Γ ps) ≡ length Γ + length ps
scope_long [] Γ = omega arith
scope_long (p ∷ ps) Γ = let e = scope_long ps (p ∷ Γ) in omega arith

module _ (ns : List Row) (gs : List FlatLeg) where
  more : (k : ℕ) → k < length gs → lower ns gs (k + 1) ≡ leg_in ns (get_or gs k no_flat) ∷ lower ns gs k
  more = lower_more ns gs

  -- what holds of each leg over those behind it, at any leg
  down : (P : List Leg → Type 0) → ((g : Leg) (l : List Leg) → P (g ∷ l) → P l) → (k d : ℕ) → k + d ≤ length gs → P (lower ns gs (k + d)) → P (lower ns gs k)
  down P step k zero le h = subst (λ m. P (lower ns gs m)) (let q : k + 0 ≡ k = omega arith in q) h
  down P step k (suc d) le h =
      down P step k d (omega arith) (step (leg_in ns (get_or gs (k + d) no_flat)) (lower ns gs (k + d)) (subst P (more (k + d) (omega arith)) (subst (λ m. P (lower ns gs m)) (let q : k + suc d ≡ k + d + 1 = omega arith in q) h)))

  at_leg : (P : List Leg → Type 0) → ((g : Leg) (l : List Leg) → P (g ∷ l) → P l) → (k : ℕ) → k < length gs → P (turned [] (legs_in ns gs)) → P (leg_in ns (get_or gs k no_flat) ∷ lower ns gs k)
  at_leg P step k lt h =
      let d = length gs - (k + 1) in
      let whole : turned [] (legs_in ns gs) ≡ lower ns gs (k + 1 + d) = ap (λ l. turned [] (legs_in ns l)) (sym (take_all (k + 1 + d) gs (omega arith))) in
      subst P (more k lt) (down P step (k + 1) d (omega arith) (subst P whole h))

  numbered_at : (k l : ℕ) → k ≤ length gs → l < k → at no_leg (lower ns gs k) l ≡ leg_in ns (get_or gs l no_flat)
  numbered_at zero l le lt = absurd (omega arith)
  numbered_at (suc k) l le lt =
      let long = lower_long ns gs k (omega arith) in
      let e : lower ns gs (suc k) ≡ leg_in ns (get_or gs k no_flat) ∷ lower ns gs k = ap (lower ns gs) (let q : suc k ≡ k + 1 = omega arith in q) ∙ more k (omega arith) in
      ap (λ ls. at no_leg ls l) e ∙ elim (cases_lt l k) [
        | inl z ↦
            let ne : eqb l (length (lower ns gs k)) ≡ false = ne_eqb l (length (lower ns gs k)) (λ q. let q' = q in omega arith) in
            ap (λ b. cond b (leg_in ns (get_or gs k no_flat)) (at no_leg (lower ns gs k) l)) ne ∙ numbered_at k l (omega arith) z
        | inr z ↦
            let l_is : l ≡ k = omega arith in
            let eq : eqb l (length (lower ns gs k)) ≡ true = eq-eqb l (length (lower ns gs k)) (omega arith) in
            ap (λ b. cond b (leg_in ns (get_or gs k no_flat)) (at no_leg (lower ns gs k) l)) eq ∙ ap (λ m. leg_in ns (get_or gs m no_flat)) (sym l_is)
      ]

  callable_at : (k : ℕ) → k ≤ length gs → (l c : ℕ) → l < length (lower ns gs k) → c ≡ arity (at no_leg (lower ns gs k) l) → Callable (take k gs) l c
  callable_at k le l c lt e =
      let long = lower_long ns gs k le in
      let q : l < k = omega arith in
      let t = length-take-le k gs le in
      (omega arith, e ∙ ap arity (numbered_at k l le q) ∙ ap (λ g. length (params_of g)) (sym (get_or-take k gs l no_flat q)))

-- Every leg of an accepted plan can be graded.
pub legs_ready : (p : FlatPlan) → Sound p → PlanTyped (tree p) → LegsReady (vec_items p.nodes) (vec_items p.legs)
legs_ready p s typed k lt =
    let ns = vec_items p.nodes in
    let gs = vec_items p.legs in
    let g = get_or gs k no_flat in
    let w = world_of (tree p) in
    let stands = (at_leg ns gs (LegsStand (types_of (tree p))) (λ g l h. h.1) k lt (accepted_stands (tree p) s.laid)).0 in
    let formed = (at_leg ns gs LegsFormed (λ g l h. h.1) k lt (accepted_formed (tree p) (s.laid, typed))).0 in
    let o = order_at 0 ns gs k lt s.in_order in
    let Γ = scope_on [] (params_of g) in
    let long : length Γ ≡ length (params_of g) = scope_long (params_of g) [] ∙ (let q : 0 + length (params_of g) ≡ length (params_of g) = omega arith in q) in
    let few = stands.few in
    record {
      within = o.0;
      few_nodes = few_at (3 + length (tree p).entries) none_before ns gs k lt s.laid.legs_laid;
      few_params = o.1;
      fit = subst (λ d. Fit (take k gs) d (term_at ns g.first)) long
          (fits w (lower ns gs k) (take k gs) (callable_at ns gs k (omega arith)) (term_at ns g.first) Γ g.result (omega arith) (leg_typed_at w ns gs k lt typed) (subst (Formed (lower ns gs k) (term_at ns g.first)) (sym long) formed));
      numbered = stands.numbered;
    }
