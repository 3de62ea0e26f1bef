-- The typer's definition and the rules agree. Assumes nothing.
use Rattle.std.proofs.Common.{◌≡◌, ℕ, suc, ◌+◌, ◌≤◌, Bool, true, false, cond, leb, List, [], ◌∷◌, length, Some, None, Ok, Err, Option, sym, refl, ap, ◌∙◌, subst, ap₂, arith, eq-eqb, eqb-true, le-leb, leb-true}
use Rattle.std.proofs.lemmas.Bool.{and_parts, and_from}
use Rattle.std.specs.List.{slice_get}
use Rattle.plan.specs.declared.TypeId.{TypeId}
use Rattle.plan.specs.Limits.{max_levels}
use Rattle.plan.specs.declared.Type.{«Type» as Shape}
use Rattle.plan.specs.declared.Type.TheVariants.{Unit as UnitType, Number as NumberType, Pair as PairType, Either as EitherType}
use Rattle.plan.specs.declared.faults.TypeFault.{TypeFault}
use Rattle.plan.specs.declared.faults.TypeFault.TheVariants.{«Type» as BadType, Scope as BadScope}
use Rattle.plan.specs.Trees.{Term, t_unit, t_number, t_name, t_let, t_take, t_pair, t_split, t_left, t_right, t_case, t_call, t_add, t_less, Terms, t_none, t_more, Leg, the_type}
use Rattle.typer.specs.Typing.{found, unit_type, number_type, truth_type, same_id, World, Typed, AllTyped, Reached, then_type, size, there_at, named_at, if_room, if_same, pair_parts, either_parts, same_list, call_result, check, check_all, scope_on, LegTyped, numbers_only, LegsTyped, check_leg, check_legs, world_of, TypingLaw}

no : {A : Type 0} {e : TypeFault} {X : Type 0} (x : X) → ◌≡◌ {A = Reached X} (Err e) (Ok x) → A
no x q = grind arith

ok_is : {X : Type 0} (x y : X) → ◌≡◌ {A = Reached X} (Ok x) (Ok y) → x ≡ y
ok_is x y e = cc

then_inv : {X Y : Type 0} (r : Reached X) (f : X → Reached Y) (y : Y) → then_type r f ≡ Ok y → (x : X) × (r ≡ Ok x) × (f x ≡ Ok y)
then_inv (Ok x) f y e = (x, refl, e)
then_inv (Err q) f y e = no y e

then_on : {X Y : Type 0} (r : Reached X) (f : X → Reached Y) (x : X) → r ≡ Ok x → then_type r f ≡ f x
then_on r f x e = ap (λ q. then_type q f) e

there_inv : {X : Type 0} (i : ℕ) (o : Option X) (x : X) → there_at i o ≡ Ok x → o ≡ Some x
there_inv i None x e = no x e
there_inv i (Some y) x e = ap Some (ok_is y x e)

named_inv : (i : ℕ) (o : Option TypeId) (x : TypeId) → named_at i o ≡ Ok x → o ≡ Some x
named_inv i None x e = no x e
named_inv i (Some y) x e = ap Some (ok_is y x e)

cond_inv : {X : Type 0} (b : Bool) (r : Reached X) (f : TypeFault) (x : X) → cond b r (Err f) ≡ Ok x → (b ≡ true) × (r ≡ Ok x)
cond_inv true r f x e = (refl, e)
cond_inv false r f x e = no x e

room_inv : {X : Type 0} (i more : ℕ) (Γ : List TypeId) (r : Reached X) (x : X) → if_room i more Γ r ≡ Ok x → (more + length Γ ≤ max_levels) × (r ≡ Ok x)
room_inv i more Γ r x e = let c = cond_inv (leb (more + length Γ) max_levels) r (BadScope i) x e in (leb-true (more + length Γ) max_levels c.0, c.1)

room_on : {X : Type 0} (i more : ℕ) (Γ : List TypeId) (r : Reached X) → more + length Γ ≤ max_levels → if_room i more Γ r ≡ r
room_on i more Γ r le = ap (λ b. cond b r (Err (BadScope i))) (le-leb (more + length Γ) max_levels le)

same_id_inv : (a b : TypeId) → same_id a b ≡ true → a ≡ b
same_id_inv a b e = ap the_type (eqb-true a.index b.index e)

same_id_on : (a b : TypeId) → a ≡ b → same_id a b ≡ true
same_id_on a b e = eq-eqb a.index b.index (ap (λ y. y.index) e)

same_inv : {X : Type 0} (i : ℕ) (a b : TypeId) (r : Reached X) (x : X) → if_same i a b r ≡ Ok x → (a ≡ b) × (r ≡ Ok x)
same_inv i a b r x e = let c = cond_inv (same_id a b) r (BadType i) x e in (same_id_inv a b c.0, c.1)

same_on : {X : Type 0} (i : ℕ) (a b : TypeId) (r : Reached X) → a ≡ b → if_same i a b r ≡ r
same_on i a b r e = ap (λ t. cond t r (Err (BadType i))) (same_id_on a b e)

pair_inv : (o : Option Shape) (p : TypeId × TypeId) → pair_parts o ≡ Some p → o ≡ Some (PairType p.0 p.1)
pair_inv None p e = grind arith
pair_inv (Some UnitType) p e = grind arith
pair_inv (Some NumberType) p e = grind arith
pair_inv (Some (EitherType u v)) p e = grind arith
pair_inv (Some (PairType u v)) p e = let q : (u, v) ≡ p = cc in ap (λ r. Some (PairType r.0 r.1)) q

either_inv : (o : Option Shape) (p : TypeId × TypeId) → either_parts o ≡ Some p → o ≡ Some (EitherType p.0 p.1)
either_inv None p e = grind arith
either_inv (Some UnitType) p e = grind arith
either_inv (Some NumberType) p e = grind arith
either_inv (Some (PairType u v)) p e = grind arith
either_inv (Some (EitherType u v)) p e = let q : (u, v) ≡ p = cc in ap (λ r. Some (EitherType r.0 r.1)) q

same_list_inv : (xs ys : List TypeId) → same_list xs ys ≡ true → xs ≡ ys
same_list_inv [] [] e = refl
same_list_inv [] (y ∷ ys) e = grind arith
same_list_inv (x ∷ xs) [] e = grind arith
same_list_inv (x ∷ xs) (y ∷ ys) e = let p = and_parts (same_id x y) (same_list xs ys) e in ap₂ (λ h t. h ∷ t) (same_id_inv x y p.0) (same_list_inv xs ys p.1)

same_list_on : (xs : List TypeId) → same_list xs xs ≡ true
same_list_on [] = refl
same_list_on (x ∷ xs) = and_from (same_id x x) (same_list xs xs) (same_id_on x x refl) (same_list_on xs)

module _ (w : World) where
  abbrev Sound : Term → Type 0
  Sound t = (Γ : List TypeId) (i : ℕ) (y : TypeId) → check w Γ i t ≡ Ok y → Typed w Γ t y

  abbrev binds : (ℕ → Term → Term → Term) → Type 0
  binds f = (k : ℕ) (a b : Term) → Sound a → Sound b → Sound (f k a b)

  let_sound : binds t_let
  let_sound k a b ha hb Γ i y e =
      let p = then_inv (check w Γ (suc i) a) _ y e in
      let r = room_inv i 1 Γ _ y p.2 in
      (p.0, ha Γ (suc i) p.0 p.1, r.0, hb (p.0 ∷ Γ) (suc i + size a) y r.1)

  split_sound : binds t_split
  split_sound k a b ha hb Γ i y e =
      let p = then_inv (check w Γ (suc i) a) _ y e in
      let q = then_inv (there_at i (pair_parts (slice_get w.types p.0.index))) _ y p.2 in
      let r = room_inv i 2 Γ _ y q.2 in
      (p.0, q.0.0, q.0.1, ha Γ (suc i) p.0 p.1, pair_inv (slice_get w.types p.0.index) q.0 (there_inv i _ q.0 q.1), r.0, hb (q.0.1 ∷ q.0.0 ∷ Γ) (suc i + size a) y r.1)

  sum_sound : (z : TypeId) (a b : Term) (Γ : List TypeId) (i : ℕ) (y : TypeId) → Sound a → Sound b
      → then_type (check w Γ (suc i) a) (λ u. then_type (check w Γ (suc i + size a) b) (λ v. if_same i u number_type (if_same i v number_type (Ok z)))) ≡ Ok y → Typed w Γ a number_type × Typed w Γ b number_type × (y ≡ z)
  sum_sound z a b Γ i y ha hb e =
      let p = then_inv (check w Γ (suc i) a) _ y e in
      let q = then_inv (check w Γ (suc i + size a) b) _ y p.2 in
      let r = same_inv i p.0 number_type _ y q.2 in
      let s = same_inv i q.0 number_type _ y r.1 in
      (subst (Typed w Γ a) r.0 (ha Γ (suc i) p.0 p.1), subst (Typed w Γ b) s.0 (hb Γ (suc i + size a) q.0 q.1), sym (ok_is z y s.1))

  -- the left side or the right one
  abbrev sides : ℕ → TypeId → Term → List TypeId → (TypeId × TypeId → TypeId) → Reached TypeId
  sides i x a Γ side = then_type (check w Γ (suc i) a) (λ u. then_type (there_at i (either_parts (slice_get w.types x.index))) (λ p. if_same i u (side p) (Ok x)))

  side_sound : (side : TypeId × TypeId → TypeId) (x : TypeId) (a : Term) (Γ : List TypeId) (i : ℕ) (y : TypeId) → Sound a → sides i x a Γ side ≡ Ok y
      → (p : TypeId × TypeId) × Typed w Γ a (side p) × (slice_get w.types x.index ≡ Some (EitherType p.0 p.1)) × (x ≡ y)
  side_sound side x a Γ i y ha e =
      let p = then_inv (check w Γ (suc i) a) _ y e in
      let q = then_inv (there_at i (either_parts (slice_get w.types x.index))) _ y p.2 in
      let r = same_inv i p.0 (side q.0) _ y q.2 in
      (q.0, subst (Typed w Γ a) r.0 (ha Γ (suc i) p.0 p.1), either_inv (slice_get w.types x.index) q.0 (there_inv i _ q.0 q.1), ok_is x y r.1)

  mutual
    pub sound : (t : Term) → Sound t
    sound t_unit Γ i y e = sym (ok_is unit_type y e)
    sound (t_number n) Γ i y e = sym (ok_is number_type y e)
    sound (t_name l) Γ i y e = named_inv i (found Γ l) y e
    sound (t_let k a b) Γ i y e = let_sound k a b (sound a) (sound b) Γ i y e
    sound (t_take k a b) Γ i y e = let_sound k a b (sound a) (sound b) Γ i y e
    sound (t_pair a b) Γ i y e =
        let p = then_inv (check w Γ (suc i) a) _ y e in
        let q = then_inv (check w Γ (suc i + size a) b) _ y p.2 in
        (p.0, q.0, sound a Γ (suc i) p.0 p.1, sound b Γ (suc i + size a) q.0 q.1, there_inv i _ y q.2)
    sound (t_split k a b) Γ i y e = split_sound k a b (sound a) (sound b) Γ i y e
    sound (t_left x a) Γ i y e = let r = side_sound (λ p. p.0) x a Γ i y (sound a) e in (r.0.0, r.0.1, r.1, r.2, r.3)
    sound (t_right x a) Γ i y e = let r = side_sound (λ p. p.1) x a Γ i y (sound a) e in (r.0.0, r.0.1, r.1, r.2, r.3)
    sound (t_case k a b c) Γ i y e =
        let p = then_inv (check w Γ (suc i) a) _ y e in
        let q = then_inv (there_at i (either_parts (slice_get w.types p.0.index))) _ y p.2 in
        let r = room_inv i 1 Γ _ y q.2 in
        let l = then_inv (check w (q.0.0 ∷ Γ) (suc i + size a) b) _ y r.1 in
        let m = then_inv (check w (q.0.1 ∷ Γ) (suc i + size a + size b) c) _ y l.2 in
        let s = same_inv i l.0 m.0 _ y m.2 in
        let uy : l.0 ≡ y = ok_is l.0 y s.1 in (
          p.0,
          q.0.0,
          q.0.1,
          sound a Γ (suc i) p.0 p.1,
          either_inv (slice_get w.types p.0.index) q.0 (there_inv i _ q.0 q.1),
          r.0,
          subst (Typed w (q.0.0 ∷ Γ) b) uy (sound b (q.0.0 ∷ Γ) (suc i + size a) l.0 l.1),
          subst (Typed w (q.0.1 ∷ Γ) c) (sym s.0 ∙ uy) (sound c (q.0.1 ∷ Γ) (suc i + size a + size b) m.0 m.1),
        )
    sound (t_call l us) Γ i y e =
        let p = then_inv (check_all w Γ (suc i) us) _ y e in
        let q = then_inv (there_at i (slice_get w.sigs l)) _ y p.2 in
        let r = cond_inv (same_list p.0 q.0.params) _ (BadType i) y q.2 in
        (q.0, p.0, sound_all us Γ (suc i) p.0 p.1, there_inv i _ q.0 q.1, same_list_inv p.0 q.0.params r.0, sym (ok_is q.0.result y r.1))
    sound (t_add a b) Γ i y e = sum_sound number_type a b Γ i y (sound a) (sound b) e
    sound (t_less a b) Γ i y e = sum_sound truth_type a b Γ i y (sound a) (sound b) e

    sound_all : (us : Terms) (Γ : List TypeId) (i : ℕ) (ys : List TypeId) → check_all w Γ i us ≡ Ok ys → AllTyped w Γ us ys
    sound_all t_none Γ i ys e = sym (ok_is [] ys e)
    sound_all (t_more a us) Γ i ys e =
        let p = then_inv (check w Γ i a) _ ys e in
        let q = then_inv (check_all w Γ (i + size a) us) _ ys p.2 in
        (p.0, q.0, sound a Γ i p.0 p.1, sound_all us Γ (i + size a) q.0 q.1, sym (ok_is (p.0 ∷ q.0) ys q.2))

  abbrev Full : Term → Type 0
  Full t = (Γ : List TypeId) (i : ℕ) (y : TypeId) → Typed w Γ t y → check w Γ i t ≡ Ok y

  let_full : (k : ℕ) (a b : Term) → Full a → Full b → Full (t_let k a b)
  let_full k a b ha hb Γ i y e = then_on _ _ e.0 (ha Γ (suc i) e.0 e.1) ∙ room_on i 1 Γ _ e.2 ∙ hb (e.0 ∷ Γ) (suc i + size a) y e.3

  side_full : (side : TypeId × TypeId → TypeId) (x : TypeId) (a : Term) (Γ : List TypeId) (i : ℕ) (y u v : TypeId) → Full a → Typed w Γ a (side (u, v)) → slice_get w.types x.index ≡ Some (EitherType u v) → x ≡ y
      → sides i x a Γ side ≡ Ok y
  side_full side x a Γ i y u v ha t there e =
      then_on _ _ (side (u, v)) (ha Γ (suc i) (side (u, v)) t) ∙ ap (λ o. then_type (there_at i (either_parts o)) (λ p. if_same i (side (u, v)) (side p) (Ok x))) there
      ∙ same_on i (side (u, v)) (side (u, v)) (Ok x) refl ∙ ap Ok e

  sum_full : (z : TypeId) (a b : Term) (Γ : List TypeId) (i : ℕ) (y : TypeId) → Full a → Full b → Typed w Γ a number_type × Typed w Γ b number_type × (y ≡ z)
      → then_type (check w Γ (suc i) a) (λ u. then_type (check w Γ (suc i + size a) b) (λ v. if_same i u number_type (if_same i v number_type (Ok z)))) ≡ Ok y
  sum_full z a b Γ i y ha hb e = then_on _ _ number_type (ha Γ (suc i) number_type e.0) ∙ then_on _ _ number_type (hb Γ (suc i + size a) number_type e.1) ∙ ap Ok (sym e.2)

  mutual
    pub full : (t : Term) → Full t
    full t_unit Γ i y e = ap Ok (sym e)
    full (t_number n) Γ i y e = ap Ok (sym e)
    full (t_name l) Γ i y e = ap (named_at i) e
    full (t_let k a b) Γ i y e = let_full k a b (full a) (full b) Γ i y e
    full (t_take k a b) Γ i y e = let_full k a b (full a) (full b) Γ i y e
    full (t_pair a b) Γ i y e =
        then_on _ _ e.0 (full a Γ (suc i) e.0 e.2) ∙ then_on _ _ e.1 (full b Γ (suc i + size a) e.1 e.3) ∙ ap (there_at i) e.4
    full (t_split k a b) Γ i y e =
        then_on _ _ e.0 (full a Γ (suc i) e.0 e.3) ∙ ap (λ o. then_type (there_at i (pair_parts o)) (λ p. if_room i 2 Γ (check w (p.1 ∷ p.0 ∷ Γ) (suc i + size a) b))) e.4
        ∙ room_on i 2 Γ _ e.5 ∙ full b (e.2 ∷ e.1 ∷ Γ) (suc i + size a) y e.6
    full (t_left x a) Γ i y e = side_full (λ p. p.0) x a Γ i y e.0 e.1 (full a) e.2 e.3 e.4
    full (t_right x a) Γ i y e = side_full (λ p. p.1) x a Γ i y e.0 e.1 (full a) e.2 e.3 e.4
    full (t_case k a b c) Γ i y e =
        then_on _ _ e.0 (full a Γ (suc i) e.0 e.3)
        ∙ ap (λ o. then_type (there_at i (either_parts o)) (λ p. if_room i 1 Γ (then_type (check w (p.0 ∷ Γ) (suc i + size a) b) (λ u. then_type (check w (p.1 ∷ Γ) (suc i + size a + size b) c) (λ v. if_same i u v (Ok u)))))) e.4
        ∙ room_on i 1 Γ _ e.5 ∙ then_on _ _ y (full b (e.1 ∷ Γ) (suc i + size a) y e.6) ∙ then_on _ _ y (full c (e.2 ∷ Γ) (suc i + size a + size b) y e.7)
        ∙ same_on i y y (Ok y) refl
    full (t_call l us) Γ i y e =
        then_on _ _ e.1 (full_all us Γ (suc i) e.1 e.2) ∙ ap (λ o. then_type (there_at i o) (λ g. call_result i e.1 g)) e.3
        ∙ ap (λ ys. call_result i ys e.0) e.4 ∙ ap (λ b. cond b (Ok e.0.result) (Err (BadType i))) (same_list_on e.0.params) ∙ ap Ok (sym e.5)
    full (t_add a b) Γ i y e = sum_full number_type a b Γ i y (full a) (full b) e
    full (t_less a b) Γ i y e = sum_full truth_type a b Γ i y (full a) (full b) e

    full_all : (us : Terms) (Γ : List TypeId) (i : ℕ) (ys : List TypeId) → AllTyped w Γ us ys → check_all w Γ i us ≡ Ok ys
    full_all t_none Γ i ys e = ap Ok (sym e)
    full_all (t_more a us) Γ i ys e =
        then_on _ _ e.0 (full a Γ i e.0 e.2) ∙ then_on _ _ e.1 (full_all us Γ (i + size a) e.1 e.3) ∙ ap Ok (sym e.4)

  leg_sound : (i : ℕ) (g : Leg) → check_leg w i g ≡ Ok tt → LegTyped w g
  leg_sound i g e =
      let p = then_inv (check w (scope_on [] g.params) i g.body) _ tt e in
      let s = same_inv i p.0 g.result _ tt p.2 in
      subst (Typed w (scope_on [] g.params) g.body) s.0 (sound g.body (scope_on [] g.params) i p.0 p.1)

  leg_full : (i : ℕ) (g : Leg) → LegTyped w g → check_leg w i g ≡ Ok tt
  leg_full i g t = then_on _ _ g.result (full g.body (scope_on [] g.params) i g.result t) ∙ same_on i g.result g.result (Ok tt) refl

  legs_sound : (gs : List Leg) (i : ℕ) → check_legs w i gs ≡ Ok tt → LegsTyped w gs
  legs_sound [] i e = no tt e
  legs_sound (g ∷ []) i e = let c = cond_inv (numbers_only g) (check_leg w i g) (BadType i) tt e in (c.0, leg_sound i g c.1)
  legs_sound (g ∷ h ∷ gs) i e = let p = then_inv (check_leg w i g) _ tt e in (leg_sound i g p.1, legs_sound (h ∷ gs) (i + size g.body) p.2)

  legs_full : (gs : List Leg) (i : ℕ) → LegsTyped w gs → check_legs w i gs ≡ Ok tt
  legs_full [] i t = absurd t
  legs_full (g ∷ []) i t = ap (λ b. cond b (check_leg w i g) (Err (BadType i))) t.0 ∙ leg_full i g t.1
  legs_full (g ∷ h ∷ gs) i t = then_on _ _ tt (leg_full i g t.0) ∙ legs_full (h ∷ gs) (i + size g.body) t.1

pub law : TypingLaw
law = record { accepted = λ p e. legs_sound (world_of p) p.legs 0 e; typed = λ p t. legs_full (world_of p) p.legs 0 t }
