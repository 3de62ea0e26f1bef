-- What the tables hold, place by place. Assumes nothing.
use Rattle.std.proofs.Common.{◌≡◌, ℕ, zero, suc, ◌+◌, ◌-◌, ◌<◌, ◌≤◌, min, cond, eqb, List, [], ◌∷◌, ◌++◌, length, get_or, take, sym, refl, ap, ◌∙◌, subst, ap₂, zero-add, add-one, arith, length-take}
use Rattle.std.proofs.lemmas.Bool.{eq-eqb, ne_eqb}
use Rattle.evaluation.specs.Flight.{at}
use Rattle.evaluation.specs.Flight as byname
use Rattle.flight.specs.Grow.{grow}
use Rattle.flight.specs.Nodes.{Runner}
use Rattle.flight.specs.Tables.{no_binding, size_at}
use Rattle.flight.specs.Means.{part_of, value_at, lookup_of, scope_of, scopes, scope_at}
use Rattle.flight.specs.Sound.{PartOk, WhatOk, BindingOk}
use Rattle.flight.specs.declared.machine.Part.{Part}
use Rattle.flight.specs.declared.machine.Part.TheVariants.{Nothing, Num, Both, InLeft, InRight}
use Rattle.flight.specs.declared.machine.What.{What}
use Rattle.flight.specs.declared.machine.What.TheVariants.{Thunk, Kept, Store}
use Rattle.flight.specs.declared.machine.Binding.{Binding}
use Rattle.plan.specs.declared.Row.{Row}
use Rattle.flight.proofs.Grow.{grow_length, stable, grow_old, grow_new, grow_at, grow_front, grow_ext}

-- values

pub value_old : (ps : List Part) (p : Part) (i : ℕ) → i < length ps → value_at (ps ++ (p ∷ [])) i ≡ value_at ps i
value_old ps p i lt = grow_old part_of byname.v_unit [] ps p i (omega arith)

pub value_new : (ps : List Part) (p : Part) → value_at (ps ++ (p ∷ [])) (length ps) ≡ part_of (grow part_of [] ps) p
value_new ps p = grow_new part_of byname.v_unit [] ps p (length ps) (sym (zero-add _))

part_same : (vs ws : List byname.Value) (p : Part) (i : ℕ) → PartOk i p
    → ((j : ℕ) → j < i → get_or vs j byname.v_unit ≡ get_or ws j byname.v_unit) → part_of vs p ≡ part_of ws p
part_same vs ws Nothing i ok h = refl
part_same vs ws (Num n) i ok h = refl
part_same vs ws (Both u v) i ok h = ap₂ byname.v_pair (h u ok.0) (h v ok.1)
part_same vs ws (InLeft u) i ok h = ap byname.v_left (h u ok)
part_same vs ws (InRight u) i ok h = ap byname.v_right (h u ok)

pub value_here : (ps : List Part) (i : ℕ) → i < length ps → PartOk i (get_or ps i Nothing)
    → value_at ps i ≡ part_of (grow part_of [] ps) (get_or ps i Nothing)
value_here ps i lt ok =
    ap (λ n. get_or (grow part_of [] ps) n byname.v_unit) (sym (zero-add i))
    ∙ grow_at part_of byname.v_unit Nothing [] ps i lt
    ∙ part_same (grow part_of [] (take i ps)) (grow part_of [] ps) (get_or ps i Nothing) i ok
    (λ j lt'. grow_front part_of byname.v_unit [] ps i j (omega arith) (omega arith))

-- how many names a scope has

pub size_pos : (bs : List Binding) (p : ℕ) → 0 < p → size_at bs p ≡ (get_or bs (p - 1) no_binding).level + 1
size_pos bs zero h = absurd (omega arith)
size_pos bs (suc i) h =
    let e : suc i - 1 ≡ i = omega arith in
    sym (add-one (get_or bs i no_binding).level) ∙ ap (λ j. (get_or bs j no_binding).level + 1) (sym e)

-- scopes

module _ (E : Runner) (L : byname.Limits) (ps : List Part) (bs : List Binding) where
  abbrev F : List byname.Scope → Binding → byname.Scope
  F = scope_of E L (value_at ps)

  abbrev S : List byname.Scope
  S = scopes E L (value_at ps) bs

  pub scopes_length : length S ≡ 1 + length bs
  scopes_length = grow_length F ([] ∷ []) bs

  pub scope_none : scope_at E L ps bs 0 ≡ []
  scope_none = stable F [] ([] ∷ []) bs 0 (omega arith)

  pub scope_old : (b : Binding) (i : ℕ) → i ≤ length bs → scope_at E L ps (bs ++ (b ∷ [])) i ≡ scope_at E L ps bs i
  scope_old b i le = grow_old F [] ([] ∷ []) bs b i (omega arith)

  pub scope_new : (b : Binding) → scope_at E L ps (bs ++ (b ∷ [])) (length bs + 1)
      ≡ lookup_of E L (value_at ps) S b.binder (length bs) b.what ∷ scope_at E L ps bs b.parent
  scope_new b =
      grow_new F [] ([] ∷ []) bs b (length bs + 1) (omega arith)
      ∙ ap (λ n. lookup_of E L (value_at ps) S b.binder n b.what ∷ scope_at E L ps bs b.parent)
      (let k = scopes_length in let e : length S - 1 ≡ length bs = omega arith in e)

  look_same : (es : List byname.Scope) (k n i : ℕ) (w : What) → ((j : ℕ) → j ≤ i → get_or es j [] ≡ get_or S j [])
      → ((q s : ℕ) → w ≡ Thunk q s → s ≤ i) → lookup_of E L (value_at ps) es k n w ≡ lookup_of E L (value_at ps) S k n w
  look_same es k n i (Thunk q s) h le = ap (λ ρ. byname.bound L k n (byname.begin L (E L q ρ))) (h s (le q s refl))
  look_same es k n i (Kept v) h le = refl
  look_same es k n i Store h le = refl

  module _ {ns : List Row} {lv : ℕ → ℕ} {vs : ℕ} (ok : (i : ℕ) → i < length bs → BindingOk ns lv bs vs i (get_or bs i no_binding)) where
    thunk_older : (i : ℕ) (w : What) → WhatOk ns lv bs vs i w → (q s : ℕ) → w ≡ Thunk q s → s ≤ i
    thunk_older i (Thunk q s) h q' s' e = subst (λ x. x ≤ i) (let p : s ≡ s' = cc in p) h.0
    thunk_older i (Kept v) h q s e = absurd (let z : ◌≡◌ {A = ℕ} 0 1 = cc in omega arith)
    thunk_older i Store h q s e = absurd (let z : ◌≡◌ {A = ℕ} 0 1 = cc in omega arith)

    pub scope_here : (i : ℕ) → i < length bs
        → scope_at E L ps bs (suc i)
        ≡ lookup_of E L (value_at ps) S (get_or bs i no_binding).binder i (get_or bs i no_binding).what ∷ scope_at E L ps bs (get_or bs i no_binding).parent
    scope_here i lt =
        let b = get_or bs i no_binding in
        let o = ok i lt in
        let q : suc i ≡ 1 + i = omega arith in
        let k : length (grow F ([] ∷ []) (take i bs)) ≡ 1 + length (take i bs) = grow_length F ([] ∷ []) (take i bs) in
        let m : length (take i bs) ≡ min i (length bs) = length-take i bs in
        let n : length (grow F ([] ∷ []) (take i bs)) - 1 ≡ i = omega arith in
        ap (λ n. get_or S n []) q
        ∙ grow_at F [] no_binding ([] ∷ []) bs i lt
        ∙ ap (λ n. lookup_of E L (value_at ps) (grow F ([] ∷ []) (take i bs)) b.binder n b.what ∷ get_or (grow F ([] ∷ []) (take i bs)) b.parent []) n
        ∙ ap₂ (λ (x : byname.Comp) (xs : byname.Scope). x ∷ xs)
        (look_same (grow F ([] ∷ []) (take i bs)) b.binder i i b.what (λ j le. grow_front F [] ([] ∷ []) bs i j (omega arith) (omega arith))
        (thunk_older i b.what o.what))
        (grow_front F [] ([] ∷ []) bs i b.parent (omega arith) (let p = o.older in omega arith))

    size_fuel : (f i : ℕ) → i ≤ f → i ≤ length bs → length (scope_at E L ps bs i) ≡ size_at bs i
    size_fuel f zero h le = ap length scope_none
    size_fuel zero (suc i) h le = absurd (omega arith)
    size_fuel (suc f) (suc i) h le =
        let o = ok i (omega arith) in
        let p = o.older in
        ap length (scope_here i (omega arith))
        ∙ ap suc (size_fuel f (get_or bs i no_binding).parent (omega arith) (omega arith) ∙ sym o.level)

    pub scope_size : (i : ℕ) → i ≤ length bs → length (scope_at E L ps bs i) ≡ size_at bs i
    scope_size i le = size_fuel i i (omega arith) le

    -- a name at the innermost level, and one further out
    pub found_here : (i l : ℕ) → i < length bs → (get_or bs i no_binding).level ≡ l
        → at (byname.kept byname.v_unit) (scope_at E L ps bs (suc i)) l
        ≡ lookup_of E L (value_at ps) S (get_or bs i no_binding).binder i (get_or bs i no_binding).what
    found_here i l lt e =
        let b = get_or bs i no_binding in
        let o = ok i lt in
        let p = o.older in
        ap (λ ρ. at (byname.kept byname.v_unit) ρ l) (scope_here i lt)
        ∙ ap (λ x. cond x (lookup_of E L (value_at ps) S b.binder i b.what) (at (byname.kept byname.v_unit) (scope_at E L ps bs b.parent) l))
        (ap (eqb l) (scope_size b.parent (omega arith) ∙ sym o.level ∙ e) ∙ eq-eqb l l refl)

    pub found_further : (i l : ℕ) → i < length bs → ¬ ((get_or bs i no_binding).level ≡ l)
        → at (byname.kept byname.v_unit) (scope_at E L ps bs (suc i)) l
        ≡ at (byname.kept byname.v_unit) (scope_at E L ps bs (get_or bs i no_binding).parent) l
    found_further i l lt ne =
        let b = get_or bs i no_binding in
        let o = ok i lt in
        let p = o.older in
        ap (λ ρ. at (byname.kept byname.v_unit) ρ l) (scope_here i lt)
        ∙ ap (λ x. cond x (lookup_of E L (value_at ps) S b.binder i b.what) (at (byname.kept byname.v_unit) (scope_at E L ps bs b.parent) l))
        (ne_eqb l _ (λ q. ne (o.level ∙ sym (scope_size b.parent (omega arith)) ∙ sym q)))

-- One more value changes no scope.
pub scopes_valued : (E : Runner) (L : byname.Limits) (ps : List Part) (p : Part) (bs : List Binding)
    → ((i : ℕ) → i < length bs → (v : ℕ) → (get_or bs i no_binding).what ≡ Kept v → v < length ps)
    → scopes E L (value_at (ps ++ (p ∷ []))) bs ≡ scopes E L (value_at ps) bs
scopes_valued E L ps p bs h = grow_ext (scope_of E L (value_at (ps ++ (p ∷ [])))) (scope_of E L (value_at ps)) no_binding ([] ∷ []) bs one
  where
    look : (es : List byname.Scope) (k n : ℕ) (w : What) → ((v : ℕ) → w ≡ Kept v → v < length ps)
        → lookup_of E L (value_at (ps ++ (p ∷ []))) es k n w ≡ lookup_of E L (value_at ps) es k n w
    look es k n (Thunk q s) h = refl
    look es k n (Kept v) h = ap (λ x. byname.bound L k n (byname.kept x)) (value_old ps p v (h v refl))
    look es k n Store h = refl

    one : (i : ℕ) → i < length bs → (ys : List byname.Scope)
        → scope_of E L (value_at (ps ++ (p ∷ []))) ys (get_or bs i no_binding) ≡ scope_of E L (value_at ps) ys (get_or bs i no_binding)
    one i lt ys =
        let b = get_or bs i no_binding in
        ap (λ (x : byname.Comp). x ∷ get_or ys b.parent []) (look ys b.binder (length ys - 1) b.what (h i lt))
