-- What a well-laid plan with types says of its legs, from the last to the first. Assumes nothing.
use Rattle.std.proofs.Common.{◌≡◌, ℕ, suc, ◌+◌, ◌<◌, ◌≤◌, Bool, true, false, cond, eqb, List, [], ◌∷◌, ◌++◌, length, get_or, Some, sym, refl, ap, ◌∙◌, subst, add-zero, zero-add, arith}
use Rattle.std.proofs.lemmas.List.{length-append, length_push, get_or_push, get_or_append_left}
use Rattle.std.proofs.lemmas.Bool.{eqb-true, eqb-false, cond_both}
use Rattle.scales.specs.Laws.{Ops}
use Rattle.plan.specs.declared.TypeId.{TypeId}
use Rattle.plan.specs.Limits.{max_params}
use Rattle.plan.specs.Trees.{Term, t_unit, t_number, t_name, t_let, t_take, t_pair, t_split, t_left, t_right, t_case, t_call, t_add, t_less, Terms, t_none, t_more, Leg, Plan, flat, flats}
use Rattle.plan.specs.Written.{Run, with_node, NodeLaid, binders_in, Before, none_before, with_leg, LegLaid, WellLaid}
use Rattle.typer.specs.Typing.{World, Typed, AllTyped, found, scope_on, LegTyped, LegsTyped, world_of}
use Rattle.grading.specs.Grading.{turned, last_first, at, no_leg, arity}
use Rattle.grading.specs.Least.{param_needs, leg_needs, inner, from_0, leg_grades, legs_grades, legs_binders}
use Rattle.grading.specs.Laws.{Accepted}
use Rattle.grading.proofs.Binders.{EachBinder}
use Rattle.grading.proofs.Formed.{Formed, AllFormed, LegsFormed}
use Rattle.grading.proofs.Numbers.{run_left, run_right, Listed, renumbered, listed_join, listed_left, listed_right, listed_params, params_listed, from_0_length, inner_counted, from_list, to_list}

-- the parameter counts of the lower legs, by their numbers
pub record Known (ar : List ℕ) (legs : List Leg) : Type 0 where
  pub as_many : length ar ≡ length legs
  pub each : (i : ℕ) → i < length legs → get_or ar i 0 ≡ arity (at no_leg legs i)

known_more : (ar : List ℕ) (legs : List Leg) (g : Leg) → Known ar legs → Known (ar ++ arity g ∷ []) (g ∷ legs)
known_more ar legs g k = record {
  as_many = let e = length_push ar (arity g) in let q = k.as_many in omega arith;
  each = λ i lt. cond_both (eqb i (length legs)) g (at no_leg legs i) (λ h. get_or (ar ++ arity g ∷ []) i 0 ≡ arity h)
      (λ e. get_or_push ar (arity g) 0 i (k.as_many ∙ sym (eqb-true i (length legs) e)))
      (λ e. before i (let q = eqb-false i (length legs) e in let r : i < length legs = omega arith in r));
}
  where
    before : (i : ℕ) → i < length legs → get_or (ar ++ arity g ∷ []) i 0 ≡ arity (at no_leg legs i)
    before i lt = get_or_append_left ar (arity g ∷ []) 0 i (let q = k.as_many in omega arith) ∙ k.each i lt

-- A leg's binders are numbered on from those of the legs behind it, and it calls only those.
pub record LegStands (types : ℕ) (legs : List Leg) (g : Leg) : Type 0 where
  pub arities : List ℕ
  pub known : Known arities legs
  pub few : arity g ≤ max_params
  pub numbered : g.first ≡ legs_binders legs
  pub nodes : Run with_node (NodeLaid types arities) (legs_binders legs + arity g) (flat g.body)

abbrev pub LegsStand : ℕ → List Leg → Type 0
LegsStand types [] = Unit {0}
LegsStand types (g ∷ legs) = LegStands types legs g × LegsStand types legs

stand_turned : (types : ℕ) (gs : List Leg) (s : Before) (below : List Leg) → Known s.arities below → s.next ≡ legs_binders below → LegsStand types below
    → Run with_leg (LegLaid types) s gs → LegsStand types (turned below gs)
stand_turned types [] s below k e h r = h
stand_turned types (g ∷ gs) s below k e h r =
    stand_turned types gs (with_leg s g) (g ∷ below) (known_more s.arities below g k) (ap (λ (n : ℕ). binders_in (n + arity g) (flat g.body)) e) (
      record {
        arities = s.arities;
        known = k;
        few = r.0.few_params;
        numbered = r.0.numbered ∙ e;
        nodes = subst (λ (n : ℕ). Run with_node (NodeLaid types s.arities) (n + arity g) (flat g.body)) e r.0.nodes_laid;
      },
      h,
    )
    r.1

-- ---- scopes

found_in : (Γ : List TypeId) (l : ℕ) (y : TypeId) → found Γ l ≡ Some y → l < length Γ
found_in [] l y e = absurd (let z : ◌≡◌ {A = ℕ} 0 1 = cc in omega arith)
found_in (x ∷ Γ) l y e = go (eqb l (length Γ)) refl e (found_in Γ l y)
  where
    go : (b : Bool) → eqb l (length Γ) ≡ b → cond b (Some x) (found Γ l) ≡ Some y → (found Γ l ≡ Some y → l < length Γ) → l < suc (length Γ)
    go true q e ih = let z = eqb-true l (length Γ) q in omega arith
    go false q e ih = let z = ih e in omega arith

scope_length : (ps Γ : List TypeId) → length (scope_on Γ ps) ≡ length Γ + length ps
scope_length [] Γ = sym (add-zero (length Γ))
scope_length (p ∷ ps) Γ = let e = scope_length ps (p ∷ Γ) in omega arith

module _ (w : World) (types : ℕ) (ar : List ℕ) (legs : List Leg) (k : Known ar legs) where
  abbrev Laid : ℕ → Term → Type 0
  Laid s t = Run with_node (NodeLaid types ar) s (flat t)

  -- the second of two expressions
  behind : (a b : Term) (s : ℕ) → Run with_node (NodeLaid types ar) s (flat a ++ flat b) → Laid (binders_in s (flat a)) b
  behind a b s r = run_right (NodeLaid types ar) s (flat a) (flat b) r

  front : (a b : Term) (s : ℕ) → Run with_node (NodeLaid types ar) s (flat a ++ flat b) → Laid s a
  front a b s r = run_left (NodeLaid types ar) s (flat a) (flat b) r

  mutual
    pub formed : (t : Term) (Γ : List TypeId) (y : TypeId) (s : ℕ) → Typed w Γ t y → Laid s t → Formed legs t (length Γ)
    formed t_unit Γ y s h r = tt
    formed (t_number v) Γ y s h r = tt
    formed (t_name j) Γ y s h r = found_in Γ j y h
    formed (t_let m a b) Γ y s h r = (formed a Γ h.0 _ h.1 (front a b _ r.1), formed b (h.0 ∷ Γ) y _ h.3 (behind a b _ r.1))
    formed (t_take m a b) Γ y s h r = (formed a Γ h.0 _ h.1 (front a b _ r.1), formed b (h.0 ∷ Γ) y _ h.3 (behind a b _ r.1))
    formed (t_pair a b) Γ y s h r = (formed a Γ h.0 _ h.2 (front a b _ r.1), formed b Γ h.1 _ h.3 (behind a b _ r.1))
    formed (t_split m a b) Γ y s h r = (formed a Γ h.0 _ h.3 (front a b _ r.1), formed b (h.2 ∷ h.1 ∷ Γ) y _ h.6 (behind a b _ r.1))
    formed (t_left x a) Γ y s h r = formed a Γ h.0 _ h.2 r.1
    formed (t_right x a) Γ y s h r = formed a Γ h.1 _ h.2 r.1
    formed (t_case m a b c) Γ y s h r =
        let rest = run_right (NodeLaid types ar) _ (flat a) (flat b ++ flat c) r.1 in (
          formed a Γ h.0 _ h.3 (run_left (NodeLaid types ar) _ (flat a) (flat b ++ flat c) r.1),
          formed b (h.1 ∷ Γ) y _ h.6 (front b c _ rest),
          formed c (h.2 ∷ Γ) y _ h.7 (behind b c _ rest),
        )
    formed (t_call i ts) Γ y s h r =
        let lt : i < length legs = (let e = k.as_many in let q = r.0.0 in omega arith) in
        (lt, r.0.1 ∙ k.each i lt, all_formed ts Γ h.1 _ h.2 r.1)
    formed (t_add a b) Γ y s h r = (formed a Γ _ _ h.0 (front a b _ r.1), formed b Γ _ _ h.1 (behind a b _ r.1))
    formed (t_less a b) Γ y s h r = (formed a Γ _ _ h.0 (front a b _ r.1), formed b Γ _ _ h.1 (behind a b _ r.1))

    all_formed : (ts : Terms) (Γ ys : List TypeId) (s : ℕ) → AllTyped w Γ ts ys → Run with_node (NodeLaid types ar) s (flats ts) → AllFormed legs ts (length Γ)
    all_formed t_none Γ ys s h r = tt
    all_formed (t_more a ts) Γ ys s h r = (
      formed a Γ h.0 _ h.2 (run_left (NodeLaid types ar) s (flat a) (flats ts) r),
      all_formed ts Γ h.1 _ h.3 (run_right (NodeLaid types ar) s (flat a) (flats ts) r),
    )

abbrev EachTyped : World → List Leg → Type 0
EachTyped w [] = Unit {0}
EachTyped w (g ∷ gs) = LegTyped w g × EachTyped w gs

each_typed : (w : World) (gs : List Leg) → LegsTyped w gs → EachTyped w gs
each_typed w [] h = tt
each_typed w (g ∷ []) h = (h.1, tt)
each_typed w (g ∷ g' ∷ gs) h = (h.0, each_typed w (g' ∷ gs) h.1)

typed_turned : (w : World) (gs below : List Leg) → EachTyped w below → EachTyped w gs → EachTyped w (turned below gs)
typed_turned w [] below b h = b
typed_turned w (g ∷ gs) below b h = typed_turned w gs (g ∷ below) (h.0, b) h.1

legs_formed : (w : World) (types : ℕ) (legs : List Leg) → LegsStand types legs → EachTyped w legs → LegsFormed legs
legs_formed w types [] s h = tt
legs_formed w types (g ∷ legs) s h = (
  subst (Formed legs g.body) (scope_length g.params [] ∙ zero-add (arity g))
      (formed w types s.0.arities legs s.0.known g.body (scope_on [] g.params) g.result _ h.0 s.0.nodes),
  legs_formed w types legs s.1 h.1,
)

-- ---- the two facts of an accepted plan

abbrev pub types_of : Plan → ℕ
types_of p = 3 + length p.entries

pub accepted_stands : (p : Plan) → WellLaid p → LegsStand (types_of p) (last_first p)
accepted_stands p h = stand_turned (types_of p) p.legs none_before [] (record { as_many = refl; each = λ i lt. absurd (omega arith) }) refl tt h.legs_laid

pub accepted_formed : (p : Plan) → Accepted p → LegsFormed (last_first p)
accepted_formed p h =
    legs_formed (world_of p) (types_of p) (last_first p) (accepted_stands p h.0)
    (typed_turned (world_of p) p.legs [] tt (each_typed (world_of p) p.legs h.1))

-- ---- every binder of the legs, by its place in the list

module _ {G : Type 0} (o : Ops G) where
  leg_counted : (Γ : List (ℕ → G)) (g : Leg) → length (leg_grades o Γ g) ≡ arity g + length (inner o Γ g.body (arity g))
  leg_counted Γ g =
      let a = length-append (from_0 (arity g) (param_needs o Γ g)) (inner o Γ g.body (arity g)) in
      let b = from_0_length (arity g) (param_needs o Γ g) in
      omega arith

  pub legs_counted : (legs : List Leg) → length (legs_grades o legs) ≡ legs_binders legs
  legs_counted [] = refl
  legs_counted (g ∷ legs) =
      let ih = legs_counted legs in
      let a = length-append (legs_grades o legs) (leg_grades o (leg_needs o legs) g) in
      let b = leg_counted (leg_needs o legs) g in
      let c = inner_counted o (leg_needs o legs) g.body (arity g) (legs_binders legs + arity g) in
      omega arith

module _ {G : Type 0} (o : Ops G) (P : ℕ → G → Type 0) (types : ℕ) where
  pub each_from : (legs : List Leg) → LegsStand types legs → Listed P 0 (legs_grades o legs) → EachBinder o P legs
  each_from [] s h = tt
  each_from (g ∷ legs) s h =
      let Γ : List (ℕ → G) = leg_needs o legs in
      let ps : List G = from_0 (arity g) (param_needs o Γ g) in
      let own : Listed P (legs_binders legs) (leg_grades o Γ g) =
      renumbered P (leg_grades o Γ g) (zero-add _ ∙ legs_counted o legs) (listed_right P (legs_grades o legs) (leg_grades o Γ g) 0 h) in (
        (λ i lt. subst (λ (m : ℕ). P (m + i) (param_needs o Γ g i)) (sym s.0.numbered)
            (params_listed P (arity g) (legs_binders legs) (param_needs o Γ g) (listed_left P ps (inner o Γ g.body (arity g)) _ own) i lt)),
        from_list o Γ P types s.0.arities g.body (arity g) _ s.0.nodes
            (renumbered P (inner o Γ g.body (arity g)) (ap (λ (m : ℕ). legs_binders legs + m) (from_0_length (arity g) (param_needs o Γ g)))
            (listed_right P ps (inner o Γ g.body (arity g)) _ own)),
        each_from legs s.1 (listed_left P (legs_grades o legs) (leg_grades o Γ g) 0 h),
      )

  pub each_to : (legs : List Leg) → LegsStand types legs → EachBinder o P legs → Listed P 0 (legs_grades o legs)
  each_to [] s h = tt
  each_to (g ∷ legs) s h =
      let Γ : List (ℕ → G) = leg_needs o legs in
      let ps : List G = from_0 (arity g) (param_needs o Γ g) in
      let own : Listed P (legs_binders legs) (leg_grades o Γ g) =
      listed_join P ps (inner o Γ g.body (arity g)) (legs_binders legs)
      (listed_params P (arity g) (legs_binders legs) (param_needs o Γ g) (λ i lt. subst (λ (m : ℕ). P (m + i) (param_needs o Γ g i)) s.0.numbered (h.0 i lt)))
      (renumbered P (inner o Γ g.body (arity g)) (ap (λ (m : ℕ). legs_binders legs + m) (sym (from_0_length (arity g) (param_needs o Γ g))))
      (to_list o Γ P types s.0.arities g.body (arity g) _ s.0.nodes h.1)) in
      listed_join P (legs_grades o legs) (leg_grades o Γ g) 0 (each_to legs s.1 h.2)
      (renumbered P (leg_grades o Γ g) (sym (zero-add _ ∙ legs_counted o legs)) own)
