-- Legs, one after another. Assumes nothing.
use Rattle.std.proofs.Common.{◌≡◌, ℕ, zero, suc, ◌+◌, ◌-◌, ◌<◌, ◌≤◌, true, false, cond, eqb, List, [], ◌∷◌, ◌++◌, length, get_or, take, drop, sym, refl, ap, ◌∙◌, subst, ap₂, inl, inr, arith, length-append, length-drop, eq-eqb, ne_eqb}
use Rattle.std.proofs.lemmas.List.{take_more, take_all, length-take-le, get_or-take, get_or_append_left, drop-drop}
use borrow.Rule.Slice.PartMut.{put_mid}
use Rattle.std.proofs.lemmas.Bool.{cases_lt}
use Rattle.scales.specs.Laws.{Ops}
use Rattle.plan.specs.declared.Leg.{Leg as FlatLeg}
use Rattle.plan.specs.declared.Row.{Row}
use Rattle.plan.specs.Trees.{Leg, flat}
use Rattle.plan.specs.Table.{term_at}
use Rattle.plan.specs.Written.{binders_in}
use Rattle.plan.specs.Plans.{params_of, leg_in, legs_in}
use Rattle.plan.proofs.Plans.{legs_push}
use Rattle.typer.specs.Walk.{no_leg}
use Rattle.grading.specs.Grading.{turned, at, arity}
use Rattle.grading.specs.Least.{need, param_needs, leg_needs, inner, from_0, leg_grades, legs_grades, legs_binders}
use Rattle.grading.proofs.Binders.{needs_length}
use Rattle.grading.proofs.Turned.{turned_push, turned_length}
use Rattle.grading.proofs.Numbers.{inner_counted, from_0_length}
use Rattle.grading.proofs.Standing.{legs_counted}
use Rattle.grader.specs.Walk.{Known, ParamsIn, param_grade, put, LegsReady}
use Rattle.grader.proofs.Merging.{get_or_from_0}
use Rattle.grader.proofs.Puts.{put_more, put_front, put_below, put_here, put_long}

-- a row of the table for each leg
pub legs_length : (ns : List Row) (gs : List FlatLeg) → length (legs_in ns gs) ≡ length gs
legs_length ns [] = refl
legs_length ns (g ∷ gs) = ap suc (legs_length ns gs)

abbrev pub lower : List Row → List FlatLeg → ℕ → List Leg
lower ns gs k = turned [] (legs_in ns (take k gs))

module _ (ns : List Row) (gs : List FlatLeg) where
  pub lower_more : (k : ℕ) → k < length gs → lower ns gs (k + 1) ≡ leg_in ns (get_or gs k no_leg) ∷ lower ns gs k
  lower_more k lt = ap (λ l. turned [] (legs_in ns l)) (take_more gs k no_leg lt) ∙ ap (turned []) (legs_push ns (take k gs) (get_or gs k no_leg)) ∙ turned_push [] (legs_in ns (take k gs)) (leg_in ns (get_or gs k no_leg))

  pub lower_long : (k : ℕ) → k ≤ length gs → length (lower ns gs k) ≡ k
  lower_long k le =
      let a = turned_length [] (legs_in ns (take k gs)) in
      let b = legs_length ns (take k gs) in
      let c = length-take-le k gs le in
      omega arith

module _ {G : Type 0} (o : Ops G) (ns : List Row) (gs : List FlatLeg) (start : List G) where
  -- The legs before the k-th are graded.
  pub record AtLeg (k : ℕ) (answers : List G) : Type 0 where
    pub answers_are : answers ≡ put 0 (legs_grades o (lower ns gs k)) start
    pub known : Known o (leg_needs o (lower ns gs k)) (take k gs) answers
    pub params : ParamsIn (take k gs) (legs_binders (lower ns gs k))

  -- how many binders the lower legs and this one have
  leg_long : (Γ : List (ℕ → G)) (g : Leg) (s : ℕ) → s + length (leg_grades o Γ g) ≡ binders_in (s + arity g) (flat g.body)
  leg_long Γ g s =
      let a = length-append (from_0 (arity g) (param_needs o Γ g)) (inner o Γ g.body (arity g)) in
      let b = from_0_length (arity g) (param_needs o Γ g) in
      let c = inner_counted o Γ g.body (arity g) (s + arity g) in
      omega arith

  binders_more : (k : ℕ) → k < length gs → legs_binders (lower ns gs (k + 1)) ≡ legs_binders (lower ns gs k) + length (leg_grades o (leg_needs o (lower ns gs k)) (leg_in ns (get_or gs k no_leg)))
  binders_more k lt = ap legs_binders (lower_more ns gs k lt) ∙ sym (leg_long (leg_needs o (lower ns gs k)) (leg_in ns (get_or gs k no_leg)) (legs_binders (lower ns gs k)))

  -- fewer legs have no more binders
  binders_grow : (k d : ℕ) → k + d ≤ length gs → legs_binders (lower ns gs k) ≤ legs_binders (lower ns gs (k + d))
  binders_grow k zero le = let e = ap (λ m. legs_binders (lower ns gs m)) (let q : k ≡ k + 0 = omega arith in q) in omega arith
  binders_grow k (suc d) le =
      let a = binders_grow k d (omega arith) in
      let b = binders_more (k + d) (omega arith) in
      let e = ap (λ m. legs_binders (lower ns gs m)) (let q : k + d + 1 ≡ k + suc d = omega arith in q) in
      omega arith

  pub fits_below : (k : ℕ) → k ≤ length gs → legs_binders (turned [] (legs_in ns gs)) ≤ length start → legs_binders (lower ns gs k) ≤ length start
  fits_below k le fits =
      let d = length gs - k in
      let a = binders_grow k d (omega arith) in
      let e : lower ns gs (k + d) ≡ turned [] (legs_in ns gs) = ap (λ l. turned [] (legs_in ns l)) (take_all (k + d) gs (omega arith)) in
      let q = ap legs_binders e in
      omega arith

  module _ (k : ℕ) (answers : List G) (h : AtLeg k answers) (lt : k < length gs) (ready : LegsReady ns gs) (fits : legs_binders (turned [] (legs_in ns gs)) ≤ length start) where
    abbrev g : FlatLeg
    g = get_or gs k no_leg

    abbrev Γ : List (ℕ → G)
    Γ = leg_needs o (lower ns gs k)

    abbrev new : List G
    new = leg_grades o Γ (leg_in ns g)

    long : length answers ≡ length start
    long =
        let c = legs_counted o (lower ns gs k) in
        let a = fits_below k (omega arith) fits in
        ap length h.answers_are ∙ put_long 0 (legs_grades o (lower ns gs k)) start (omega arith)

    pub params_so : ParamsIn (take k gs) g.binder.index
    params_so l q = let e = (ready k lt).numbered in let b = h.params l q in omega arith

    pub room_for : g.binder.index + length new ≤ length answers
    room_for =
        let e = (ready k lt).numbered in
        let b = binders_more k lt in
        let f = fits_below (k + 1) (omega arith) fits in
        let l = long in
        omega arith

    numbered : g.binder.index ≡ legs_binders (lower ns gs k)
    numbered = (ready k lt).numbered

    counted : arity (leg_in ns g) ≡ length (params_of g)
    counted = refl

    new_long : length new ≡ length (params_of g) + length (inner o Γ (leg_in ns g).body (arity (leg_in ns g)))
    new_long =
        length-append (from_0 (arity (leg_in ns g)) (param_needs o Γ (leg_in ns g))) (inner o Γ (leg_in ns g).body (arity (leg_in ns g)))
        ∙ ap (λ m. m + length (inner o Γ (leg_in ns g).body (arity (leg_in ns g)))) (from_0_length (arity (leg_in ns g)) (param_needs o Γ (leg_in ns g)) ∙ counted)

    Γ_long : length Γ ≡ k
    Γ_long = needs_length o (lower ns gs k) ∙ lower_long ns gs k (omega arith)

    abbrev grades_of : ℕ → ℕ → G
    grades_of = param_grade o (param_needs o Γ (leg_in ns g) ∷ Γ)

    lower_same : (l j : ℕ) → l < k → grades_of l j ≡ param_grade o Γ l j
    lower_same l j q =
        let e = Γ_long in
        let ne : eqb l (length Γ) ≡ false = ne_eqb l (length Γ) (λ z. let z' = z in omega arith) in
        ap (λ b. cond {A = ℕ → G} b (param_needs o Γ (leg_in ns g)) (at (λ i. o.zero) Γ l) j) ne

    own_same : (j : ℕ) → grades_of k j ≡ param_needs o Γ (leg_in ns g) j
    own_same j =
        let eq : eqb k (length Γ) ≡ true = eq-eqb k (length Γ) (sym Γ_long) in
        ap (λ b. cond {A = ℕ → G} b (param_needs o Γ (leg_in ns g)) (at (λ i. o.zero) Γ k) j) eq

    leg_at : (l : ℕ) → l < k + 1 → get_or (take (k + 1) gs) l no_leg ≡ get_or gs l no_leg
    leg_at l q = get_or-take (k + 1) gs l no_leg q

    leg_below : (l : ℕ) → l < k → get_or gs l no_leg ≡ get_or (take k gs) l no_leg
    leg_below l q = sym (get_or-take k gs l no_leg q)

    abbrev at_place : List G → FlatLeg → ℕ → G
    at_place xs f j = get_or xs (f.binder.index + j) o.zero

    known_next : (l j : ℕ) → l < k + 1 → j < length (params_of (get_or gs l no_leg)) → at_place (put g.binder.index new answers) (get_or gs l no_leg) j ≡ grades_of l j
    known_next l j q lj = elim (cases_lt l k) [
      | inl z ↦
          let f = leg_below l z in
          let d = length-take-le k gs (omega arith) in
          let lj' : j < length (params_of (get_or (take k gs) l no_leg)) = subst (λ x. j < length (params_of x)) f lj in
          let b = params_so l (omega arith) in
          let same = ap (λ x. x.binder.index) f in
          let r = room_for in
          put_below g.binder.index ((get_or gs l no_leg).binder.index + j) new answers o.zero (omega arith) (omega arith)
          ∙ ap (λ x. at_place answers x j) f ∙ h.known l j (omega arith) lj' ∙ sym (lower_same l j z)
      | inr z ↦
          let l_is : l ≡ k = omega arith in
          let lj' : j < length (params_of g) = subst (λ m. j < length (params_of (get_or gs m no_leg))) l_is lj in
          let c = counted in
          let n = new_long in
          let own : get_or new j o.zero ≡ param_needs o Γ (leg_in ns g) j =
          get_or_append_left (from_0 (arity (leg_in ns g)) (param_needs o Γ (leg_in ns g))) (inner o Γ (leg_in ns g).body (arity (leg_in ns g))) o.zero j (let e = from_0_length (arity (leg_in ns g)) (param_needs o Γ (leg_in ns g)) in omega arith)
          ∙ get_or_from_0 (arity (leg_in ns g)) (param_needs o Γ (leg_in ns g)) j o.zero (omega arith) in
          ap (λ m. at_place (put g.binder.index new answers) (get_or gs m no_leg) j) l_is ∙ put_here g.binder.index j new answers o.zero (omega arith) room_for ∙ own ∙ sym (own_same j)
          ∙ ap (λ m. grades_of m j) (sym l_is)
    ]

    params_next : (l : ℕ) → l < k + 1 → (get_or gs l no_leg).binder.index + length (params_of (get_or gs l no_leg)) ≤ legs_binders (lower ns gs (k + 1))
    params_next l q =
        let more = binders_more k lt in
        let n = new_long in
        let at_k = numbered in
        elim (cases_lt l k) [
          | inl z ↦
              let d = length-take-le k gs (omega arith) in
              let b = h.params l (omega arith) in
              let e = ap (λ x. x.binder.index + length (params_of x)) (leg_below l z) in
              omega arith
          | inr z ↦
              let l_is : l ≡ k = omega arith in
              let e = ap (λ m. (get_or gs m no_leg).binder.index + length (params_of (get_or gs m no_leg))) l_is in
              omega arith
        ]

    pub next_leg : (later : List G) → later ≡ put g.binder.index new answers → AtLeg (k + 1) later
    next_leg later e =
        let c = legs_counted o (lower ns gs k) in
        let more = binders_more k lt in
        let f = fits_below (k + 1) (omega arith) fits in
        let d = length-take-le (k + 1) gs (omega arith) in
        record {
          answers_are =
              e ∙ ap₂ (λ b xs. put b new xs) numbered h.answers_are ∙ put_more 0 (legs_binders (lower ns gs k)) (legs_grades o (lower ns gs k)) new start (omega arith) (omega arith)
              ∙ ap (λ l. put 0 (legs_grades o l) start) (sym (lower_more ns gs k lt));
          known = λ l j q lj. (
              let f = leg_at l (omega arith) in
              ap₂ (λ xs x. at_place xs x j) e f ∙ known_next l j (omega arith) (subst (λ x. j < length (params_of x)) f lj) ∙ ap (λ ls. param_grade o (leg_needs o ls) l j) (sym (lower_more ns gs k lt)));
          params = λ l q. subst (λ x. x.binder.index + length (params_of x) ≤ legs_binders (lower ns gs (k + 1))) (sym (leg_at l (omega arith))) (params_next l (omega arith));
        }

-- ---- one leg, by the grades of its parameters, which are its body's context, and those inside

module _ {G : Type 0} (o : Ops G) (Γ : List (ℕ → G)) (ns : List Row) (g : FlatLeg) (n first : ℕ) (answers : List G) (n_is : n ≡ length (params_of g)) (fits : first + length (leg_grades o Γ (leg_in ns g)) ≤ length answers) where
  abbrev context : List G
  context = from_0 n (need o Γ (term_at ns g.first) n)

  abbrev inside : List G
  inside = inner o Γ (term_at ns g.first) n

  split : leg_grades o Γ (leg_in ns g) ≡ context ++ inside
  split = ap (λ m. from_0 m (need o Γ (term_at ns g.first) m) ++ inner o Γ (term_at ns g.first) m) (sym n_is)

  pub leg_room : first + n + length inside ≤ length answers
  leg_room =
      let long = ap length split ∙ length-append context inside in
      let wide = from_0_length n (need o Γ (term_at ns g.first) n) in
      omega arith

  -- the body is graded, with nothing else on the stack
  module _ (start held after : List G) (empty : start ≡ []) (held_was : held ≡ start ++ context) (after_is : after ≡ put (first + n) inside answers) where
    held_is : held ≡ context
    held_is = held_was ∙ ap (λ l. l ++ context) empty

    pub held_long : length held ≡ n
    held_long = ap length held_is ∙ from_0_length n (need o Γ (term_at ns g.first) n)

    pub params_room : first + n ≤ length after
    params_room = let long = ap length after_is ∙ put_long (first + n) inside answers leg_room in let room = leg_room in omega arith

    pub part_long : length (take (first + n - first) (drop first after)) ≡ n
    part_long =
        let room = params_room in
        let rest = length-drop first after in
        length-take-le (first + n - first) (drop first after) (omega arith) ∙ (let e : first + n - first ≡ n = omega arith in e)

    pub leg_put : {later row : List G} → row ≡ held → later ≡ put_mid first (first + n - first) after row → later ≡ put first (leg_grades o Γ (leg_in ns g)) answers
    leg_put {later} {row} same later_is =
        let long = ap length same ∙ held_long in
        let room = leg_room in
        let wide = from_0_length n (need o Γ (term_at ns g.first) n) in
        later_is ∙ ap (λ l. take first after ++ (row ++ l)) (drop-drop (first + n - first) first after ∙ ap (λ m. drop m after) (let z : first + (first + n - first) ≡ first + length row = omega arith in z))
        ∙ ap₂ (put first) (same ∙ held_is) after_is ∙ put_front first (first + n) context inside answers (omega arith) (omega arith) ∙ ap (λ l. put first l answers) (sym split)
