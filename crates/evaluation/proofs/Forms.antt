-- A typed plan meets no value of the wrong form. Assumes nothing.
use Rattle.std.proofs.Common.{◌≡◌, ℕ, zero, suc, ◌+◌, ◌<◌, Bool, true, false, cond, eqb, List, [], ◌∷◌, ◌++◌, map, reverse, length, Some, None, Option as Maybe, sym, refl, ap, ◌∙◌, subst, ap₂, zero-add, arith, length-append}
use mathlib.Core.List.{reverse_aux}
use mathlib.Core.Option.{Option, some, none}
use Rattle.std.proofs.lemmas.Bool.{false≢true, eqb-true, eqb-false, and_parts}
use Rattle.std.specs.List.{slice_get}
use Rattle.plan.specs.declared.TypeId.{TypeId}
use Rattle.plan.specs.declared.Type.{«Type» as Shape}
use Rattle.plan.specs.declared.Type.TheVariants.{Unit as UnitType, Number as NumberType, Pair as PairType, Either as EitherType}
use Rattle.plan.specs.declared.Node.{Node}
use Rattle.plan.specs.declared.Node.TheVariants.{Unit as Unit', Number, Name, Let, Take, Pair, Split, Left, Right, Case, Call, Add, Less}
use Rattle.plan.specs.Trees.{Term, t_unit, t_number, t_name, t_let, t_take, t_pair, t_split, t_left, t_right, t_case, t_call, t_add, t_less, Terms, t_none, t_more, Leg, Plan, flat, flats, the_type}
use Rattle.plan.specs.Written.{same_type, Run, with_node, NodeLaid, Before, none_before, with_leg, LegLaid, WellLaid}
use Rattle.typer.specs.Typing.{found, one_more, place_of, as_type, number_of, Sig, World, unit_type, number_type, truth_type, Typed, AllTyped, same_id, scope_on, sig_of, world_of, LegTyped, numbers as numbers?, numbers_only, LegsTyped, PlanTyped}
use Rattle.evaluation.specs.Flight.{Value, v_unit, v_number, v_pair, v_left, v_right, Ending, deep, Readings, State, Out, ended, value, Comp, Scope, at, Need, a_number, a_pair, an_either, a_name, Limits, house, gate, need, and_then, tick, note, lookup, bump, begin, deeper, make, bound, kept, draw, dry_draw, store, first_of, second_of, either_of, sum_of, less_of, both, numbers, absent, Meaning, no_meaning, inside, bind_all, eval, meanings, stores, start, fly_legs, fly}
use Rattle.evaluation.proofs.Steps.{apart}
use Rattle.evaluation.specs.Laws.{met, strict, lenient, TypesKeepForm}

-- The type table.

both_true : (x y : Bool) → cond x y false ≡ true → (x ≡ true) × (y ≡ true)
both_true true y e = (refl, e)
both_true false y e = absurd (false≢true e)

same_shape : (x y : Shape) → same_type x y ≡ true → x ≡ y
same_shape UnitType UnitType e = refl
same_shape UnitType NumberType e = absurd (false≢true e)
same_shape UnitType (PairType c d) e = absurd (false≢true e)
same_shape UnitType (EitherType c d) e = absurd (false≢true e)
same_shape NumberType UnitType e = absurd (false≢true e)
same_shape NumberType NumberType e = refl
same_shape NumberType (PairType c d) e = absurd (false≢true e)
same_shape NumberType (EitherType c d) e = absurd (false≢true e)
same_shape (PairType a b) UnitType e = absurd (false≢true e)
same_shape (PairType a b) NumberType e = absurd (false≢true e)
same_shape (PairType a b) (PairType c d) e =
    let q = both_true (eqb a.index c.index) (eqb b.index d.index) e in
    ap₂ (λ x y. PairType (the_type x) (the_type y)) (eqb-true a.index c.index q.0) (eqb-true b.index d.index q.1)
same_shape (PairType a b) (EitherType c d) e = absurd (false≢true e)
same_shape (EitherType a b) UnitType e = absurd (false≢true e)
same_shape (EitherType a b) NumberType e = absurd (false≢true e)
same_shape (EitherType a b) (PairType c d) e = absurd (false≢true e)
same_shape (EitherType a b) (EitherType c d) e =
    let q = both_true (eqb a.index c.index) (eqb b.index d.index) e in
    ap₂ (λ x y. EitherType (the_type x) (the_type y)) (eqb-true a.index c.index q.0) (eqb-true b.index d.index q.1)

placed : (y : Shape) (ts : List Shape) (n : ℕ) → place_of y ts ≡ Some n → slice_get ts n ≡ Some y
placed y [] n e = apart cc
placed y (x ∷ ts) n e = go (same_type x y) refl (place_of y ts) (placed y ts) e
  where
    go : (b : Bool) → same_type x y ≡ b → (o : Maybe ℕ) → ((m : ℕ) → o ≡ Some m → slice_get ts m ≡ Some y) → cond b (Some 0) (one_more o) ≡ Some n → slice_get (x ∷ ts) n ≡ Some y
    go true q o r e = let z : 0 ≡ n = cc in subst (λ n. slice_get (x ∷ ts) n ≡ Some y) z (ap Some (same_shape x y q))
    go false q None r e = apart cc
    go false q (Some m) r e = let z : suc m ≡ n = cc in subst (λ n. slice_get (x ∷ ts) n ≡ Some y) z (r m refl)

numbered : (y : Shape) (ts : List Shape) (x : TypeId) → number_of y ts ≡ Some x → slice_get ts x.index ≡ Some y
numbered y ts x e = go (place_of y ts) refl e
  where
    go : (o : Maybe ℕ) → place_of y ts ≡ o → as_type o ≡ Some x → slice_get ts x.index ≡ Some y
    go None q e = apart cc
    go (Some n) q e = let z : the_type n ≡ x = cc in subst (λ x. slice_get ts x.index ≡ Some y) z (placed y ts n q)

-- The value has the form of its type, and so have its parts.
abbrev pub Fits : List Shape → TypeId → Value → Type 0
Fits ts y v_unit = slice_get ts y.index ≡ Some UnitType
Fits ts y (v_number n) = slice_get ts y.index ≡ Some NumberType
Fits ts y (v_pair v w) = (a b : TypeId) × (slice_get ts y.index ≡ Some (PairType a b)) × Fits ts a v × Fits ts b w
Fits ts y (v_left v) = (a b : TypeId) × (slice_get ts y.index ≡ Some (EitherType a b)) × Fits ts a v
Fits ts y (v_right v) = (a b : TypeId) × (slice_get ts y.index ≡ Some (EitherType a b)) × Fits ts b v

abbrev Fitting : List Shape → TypeId → Out → Type 0
Fitting ts y (ended e s) = Unit {0}
Fitting ts y (value v s) = Fits ts y v

fits_number : (ts : List Shape) (y : TypeId) (v : Value) → slice_get ts y.index ≡ Some NumberType → Fits ts y v → (m : ℕ) × (v ≡ v_number m)
fits_number ts y v_unit e h = apart cc
fits_number ts y (v_number n) e h = (n, refl)
fits_number ts y (v_pair v w) e h = (let q = h.2 in apart cc)
fits_number ts y (v_left v) e h = (let q = h.2 in apart cc)
fits_number ts y (v_right v) e h = (let q = h.2 in apart cc)

fits_pair : (ts : List Shape) (y a b : TypeId) (v : Value) → slice_get ts y.index ≡ Some (PairType a b) → Fits ts y v
    → (met (a_pair v) ≡ true) × Fits ts a (first_of v) × Fits ts b (second_of v)
fits_pair ts y a b v_unit e h = apart cc
fits_pair ts y a b (v_number n) e h = apart cc
fits_pair ts y a b (v_pair v w) e h =
    let q = h.2 in
    let i : h.0 ≡ a = cc in
    let j : h.1 ≡ b = cc in
    (refl, subst (λ x. Fits ts x v) i h.3, subst (λ x. Fits ts x w) j h.4)
fits_pair ts y a b (v_left v) e h = (let q = h.2 in apart cc)
fits_pair ts y a b (v_right v) e h = (let q = h.2 in apart cc)

-- Calls name lower legs.

abbrev CallBelow : ℕ → Node → Type 0
CallBelow n Unit' = Unit {0}
CallBelow n (Number v) = Unit {0}
CallBelow n (Name l) = Unit {0}
CallBelow n (Let k) = Unit {0}
CallBelow n (Take k) = Unit {0}
CallBelow n Pair = Unit {0}
CallBelow n (Split k) = Unit {0}
CallBelow n (Left y) = Unit {0}
CallBelow n (Right y) = Unit {0}
CallBelow n (Case k) = Unit {0}
CallBelow n (Call l c) = l.index < n
CallBelow n Add = Unit {0}
CallBelow n Less = Unit {0}

abbrev CallsBelow : ℕ → List Node → Type 0
CallsBelow n [] = Unit {0}
CallsBelow n (o ∷ os) = CallBelow n o × CallsBelow n os

parts : (n : ℕ) (os ps : List Node) → CallsBelow n (os ++ ps) → CallsBelow n os × CallsBelow n ps
parts n [] ps h = (tt, h)
parts n (o ∷ os) ps h = let q = parts n os ps h.1 in ((h.0, q.0), q.1)

call_laid : (types : ℕ) (arities : List ℕ) (k : ℕ) (o : Node) → NodeLaid types arities k o → CallBelow (length arities) o
call_laid types arities k Unit' h = tt
call_laid types arities k (Number v) h = tt
call_laid types arities k (Name l) h = tt
call_laid types arities k (Let b) h = tt
call_laid types arities k (Take b) h = tt
call_laid types arities k Pair h = tt
call_laid types arities k (Split b) h = tt
call_laid types arities k (Left y) h = tt
call_laid types arities k (Right y) h = tt
call_laid types arities k (Case b) h = tt
call_laid types arities k (Call l c) h = h.0
call_laid types arities k Add h = tt
call_laid types arities k Less h = tt

calls_laid : (types : ℕ) (arities : List ℕ) (k : ℕ) (os : List Node) → Run with_node (NodeLaid types arities) k os → CallsBelow (length arities) os
calls_laid types arities k [] h = tt
calls_laid types arities k (o ∷ os) h = (call_laid types arities k o h.0, calls_laid types arities (with_node k o) os h.1)

-- The legs from the last to the first: typed, each with its number, and their calls go down.
abbrev Sound : World → List Leg → Type 0
Sound w [] = Unit {0}
Sound w (g ∷ below) = LegTyped w g × CallsBelow (length below) (flat g.body) × (slice_get w.sigs (length below) ≡ Some (sig_of g)) × Sound w below

abbrev Ready : World → List Leg → Type 0
Ready w [] = ⊥
Ready w (main ∷ below) = (numbers_only main ≡ true) × Sound w (main ∷ below)

one_more_leg : (w : World) (types : ℕ) (done : List Leg) (g : Leg) (s : Before) → Sound w done → LegTyped w g → LegLaid types s g → length s.arities ≡ length done
    → slice_get w.sigs (length done + 0) ≡ Some (sig_of g) → Sound w (g ∷ done)
one_more_leg w types done g s so ty la len sig = (
  ty,
  subst (λ n. CallsBelow n (flat g.body)) len (calls_laid types s.arities _ (flat g.body) la.nodes_laid),
  ap (slice_get w.sigs) (let q : length done ≡ length done + 0 = omega arith in q) ∙ sig,
  so,
)

turned : (w : World) (types : ℕ) (done rest : List Leg) (s : Before) → Sound w done → LegsTyped w rest → Run with_leg (LegLaid types) s rest → length s.arities ≡ length done
    → ((j : ℕ) → slice_get w.sigs (length done + j) ≡ slice_get (map sig_of rest) j) → Ready w (reverse_aux rest done)
turned w types done [] s so ty la len sigs = absurd ty
turned w types done (g ∷ []) s so ty la len sigs = (ty.0, one_more_leg w types done g s so ty.1 la.0 len (sigs 0))
turned w types done (g ∷ h ∷ rest) s so ty la len sigs =
    turned w types (g ∷ done) (h ∷ rest) (with_leg s g) (one_more_leg w types done g s so ty.0 la.0 len (sigs 0)) ty.1 la.1
    (length-append s.arities (length g.params ∷ []) ∙ (let q : length s.arities + 1 ≡ suc (length done) = omega arith in q))
    (λ j. ap (slice_get w.sigs) (let q : suc (length done) + j ≡ length done + suc j = omega arith in q) ∙ sigs (suc j))

module _ (w : World) (unit : slice_get w.types 0 ≡ Some UnitType) (number : slice_get w.types 1 ≡ Some NumberType) (truth : slice_get w.types 2 ≡ Some (EitherType unit_type unit_type)) (x : Ending) (L : Limits) where
  abbrev A : Limits
  A = strict x L

  abbrev B : Limits
  B = lenient L

  abbrev Fit : TypeId → Value → Type 0
  Fit y v = Fits w.types y v

  -- The same under both limits, and of the type y.
  record Safe (y : TypeId) (c f : Comp) : Type 0 where
    same : (d : ℕ) (s : State) → c d s ≡ f d s
    fits : (d : ℕ) (s : State) → Fitting w.types y (f d s)

  abbrev Safes : List TypeId → Scope → Scope → Type 0
  Safes [] [] [] = Unit {0}
  Safes [] [] (f ∷ σ) = ⊥
  Safes [] (c ∷ ρ) σ = ⊥
  Safes (y ∷ Γ) [] σ = ⊥
  Safes (y ∷ Γ) (c ∷ ρ) [] = ⊥
  Safes (y ∷ Γ) (c ∷ ρ) (f ∷ σ) = Safe y c f × Safes Γ ρ σ

  abbrev Serves : Sig → Meaning → Meaning → Type 0
  Serves g m f = (m.binder ≡ f.binder) × ((ρ σ : Scope) → Safes (scope_on [] g.params) ρ σ → Safe g.result (m.does ρ) (f.does σ))

  gate_same : (o : Option Ending) (s : State) (k h : State → Out) → k s ≡ h s → gate o s k ≡ gate o s h
  gate_same none s k h e = e
  gate_same (some z) s k h e = refl

  gate_fits : (y : TypeId) (o : Option Ending) (s : State) (k : State → Out) → Fitting w.types y (k s) → Fitting w.types y (gate o s k)
  gate_fits y none s k h = h
  gate_fits y (some z) s k h = tt

  gives : (y : TypeId) (v : Value) → Fit y v → Safe y (kept v) (kept v)
  gives y v h = record { same = λ d s. refl; fits = λ d s. h }

  begins : (y : TypeId) (c f : Comp) → Safe y c f → Safe y (begin A c) (begin B f)
  begins y c f h = record {
    same = λ d s. gate_same (L.stops s.begun d) s _ _ (h.same d (tick s));
    fits = λ d s. gate_fits y (L.stops s.begun d) s _ (h.fits d (tick s));
  }

  goes : (y : TypeId) (c f : Comp) → Safe y c f → Safe y (deeper A c) (deeper B f)
  goes y c f h = record { same = λ d s. (begins y c f h).same (suc d) s; fits = λ d s. (begins y c f h).fits (suc d) s }

  thens : (z y : TypeId) (c f : Comp) (c' f' : Value → Comp) → Safe z c f → ((v : Value) → Fit z v → Safe y (c' v) (f' v))
      → Safe y (λ d s. and_then (c d s) (λ v s. c' v d s)) (λ d s. and_then (f d s) (λ v s. f' v d s))
  thens z y c f c' f' h g = record {
    same = λ d s. ap (λ o. and_then o (λ v s. c' v d s)) (h.same d s) ∙ alike d (f d s) (h.fits d s);
    fits = λ d s. fitting d (f d s) (h.fits d s);
  }
    where
      alike : (d : ℕ) (o : Out) → Fitting w.types z o → and_then o (λ v s. c' v d s) ≡ and_then o (λ v s. f' v d s)
      alike d (ended e s) i = refl
      alike d (value v s) i = (g v i).same d s

      fitting : (d : ℕ) (o : Out) → Fitting w.types z o → Fitting w.types y (and_then o (λ v s. f' v d s))
      fitting d (ended e s) i = tt
      fitting d (value v s) i = (g v i).fits d s

  makes : (y : TypeId) (k : ℕ) (c f : ℕ → Comp) → ((b : ℕ) → Safe y (c b) (f b)) → Safe y (λ d s. make A k s (λ b s. c b d s)) (λ d s. make B k s (λ b s. f b d s))
  makes y k c f h = record {
    same = λ d s. gate_same (L.room (length s.log)) s _ _ ((h s.next).same d (bump k s));
    fits = λ d s. gate_fits y (L.room (length s.log)) s _ ((h s.next).fits d (bump k s));
  }

  looks : (y : TypeId) (k b : ℕ) (c f : Comp) → Safe y c f → Safe y (bound A k b c) (bound B k b f)
  looks y k b c f h = record {
    same = λ d s. gate_same (L.room (length s.log)) s _ _ (h.same (suc d) (note (lookup k b) s));
    fits = λ d s. gate_fits y (L.room (length s.log)) s _ (h.fits (suc d) (note (lookup k b) s));
  }

  needs : (y : TypeId) (q : Need) (c f : Comp) → met q ≡ true → Safe y c f → Safe y (λ d s. need A q s (λ s. c d s)) (λ d s. need B q s (λ s. f d s))
  needs y q c f e h = record {
    same = λ d s. ap (λ b. gate (cond b none (some x)) s (λ s. c d s)) e ∙ h.same d s;
    fits = λ d s. h.fits d s;
  }

  -- a binding, and the body in the scope with it
  opens : (z y : TypeId) (k : ℕ) (run run' : Comp) (body body' : Comp → Comp) → Safe z run run' → ((c f : Comp) → Safe z c f → Safe y (body c) (body' f))
      → Safe y (λ d s. make A k s (λ b s. deeper A (body (bound A k b run)) d s)) (λ d s. make B k s (λ b s. deeper B (body' (bound B k b run')) d s))
  opens z y k run run' body body' h i =
      makes y k (λ b. deeper A (body (bound A k b run))) (λ b. deeper B (body' (bound B k b run')))
      (λ b. goes y _ _ (i (bound A k b run) (bound B k b run') (looks z k b run run' h)))

  two : (u v y : TypeId) (c f c' f' : Comp) (k k' : Value → Value → Comp) → Safe u c f → Safe v c' f' → ((m n : Value) → Fit u m → Fit v n → Safe y (k m n) (k' m n))
      → Safe y (λ d s. both A c c' (λ v w s. k v w d s) d s) (λ d s. both B f f' (λ v w s. k' v w d s) d s)
  two u v y c f c' f' k k' h h' i =
      thens u y (deeper A c) (deeper B f) (λ m d s. and_then (deeper A c' d s) (λ n s. k m n d s)) (λ m d s. and_then (deeper B f' d s) (λ n s. k' m n d s)) (goes u c f h)
      (λ m p. thens v y (deeper A c') (deeper B f') (k m) (k' m) (goes v c' f' h') (λ n q. i m n p q))

  is_number : (v : Value) → Fit number_type v → met (a_number v) ≡ true
  is_number v h = let q = fits_number w.types number_type v number h in ap (λ v. met (a_number v)) q.1

  counts : (y : TypeId) (op : Value → Value → Value) → ((v u : Value) → Fit y (op v u)) → (v u : Value) → Fit number_type v → Fit number_type u
      → Safe y (λ d s. numbers A op v u s) (λ d s. numbers B op v u s)
  counts y op h v u i j =
      needs y (a_number v) (λ d s. need A (a_number u) s (λ s. value (op v u) s)) (λ d s. need B (a_number u) s (λ s. value (op v u) s)) (is_number v i)
      (needs y (a_number u) (kept (op v u)) (kept (op v u)) (is_number u j) (gives y (op v u) (h v u)))

  a_truth : (b : Bool) → Fit truth_type (cond b (v_left v_unit) (v_right v_unit))
  a_truth true = (unit_type, unit_type, truth, unit)
  a_truth false = (unit_type, unit_type, truth, unit)

  chooses : (z a b y : TypeId) (v : Value) (c c' f f' : Value → Comp) → slice_get w.types z.index ≡ Some (EitherType a b) → Fit z v
      → ((m : Value) → Fit a m → Safe y (c m) (f m)) → ((m : Value) → Fit b m → Safe y (c' m) (f' m))
      → Safe y (λ d s. need A (an_either v) s (λ s. either_of v (λ m. c m d s) (λ m. c' m d s))) (λ d s. need B (an_either v) s (λ s. either_of v (λ m. f m d s) (λ m. f' m d s)))
  chooses z a b y v_unit c c' f f' e i g h = apart cc
  chooses z a b y (v_number n) c c' f f' e i g h = apart cc
  chooses z a b y (v_pair m n) c c' f f' e i g h = (let j = i.2 in apart cc)
  chooses z a b y (v_left m) c c' f f' e i g h =
      let j = i.2 in
      let q : i.0 ≡ a = cc in
      needs y (an_either (v_left m)) (c m) (f m) refl (g m (subst (λ t. Fit t m) q i.3))
  chooses z a b y (v_right m) c c' f f' e i g h =
      let j = i.2 in
      let q : i.1 ≡ b = cc in
      needs y (an_either (v_right m)) (c' m) (f' m) refl (h m (subst (λ t. Fit t m) q i.3))

  first_length : (Γ : List TypeId) (ρ σ : Scope) → Safes Γ ρ σ → (length ρ ≡ length Γ) × (length σ ≡ length Γ)
  first_length [] [] [] h = (refl, refl)
  first_length [] [] (f ∷ σ) h = absurd h
  first_length [] (c ∷ ρ) σ h = absurd h
  first_length (y ∷ Γ) [] σ h = absurd h
  first_length (y ∷ Γ) (c ∷ ρ) [] h = absurd h
  first_length (y ∷ Γ) (c ∷ ρ) (f ∷ σ) h = let q = first_length Γ ρ σ h.1 in (ap suc q.0, ap suc q.1)

  at_level : (Γ : List TypeId) (ρ σ : Scope) (l : ℕ) (y : TypeId) → found Γ l ≡ Some y → Safes Γ ρ σ → Safe y (at (absent A a_name) ρ l) (at (absent B a_name) σ l)
  at_level [] ρ σ l y e h = apart cc
  at_level (z ∷ Γ) [] σ l y e h = absurd h
  at_level (z ∷ Γ) (c ∷ ρ) [] l y e h = absurd h
  at_level (z ∷ Γ) (c ∷ ρ) (f ∷ σ) l y e h =
      let n = first_length Γ ρ σ h.1 in
      subst (λ m. Safe y (cond (eqb l m) c (at (absent A a_name) ρ l)) (cond (eqb l (length σ)) f (at (absent B a_name) σ l))) (sym n.0)
      (subst (λ m. Safe y (cond (eqb l (length Γ)) c (at (absent A a_name) ρ l)) (cond (eqb l m) f (at (absent B a_name) σ l))) (sym n.1)
      (go (eqb l (length Γ)) e (λ e. at_level Γ ρ σ l y e h.1)))
    where
      go : (b : Bool) → cond b (Some z) (found Γ l) ≡ Some y → (found Γ l ≡ Some y → Safe y (at (absent A a_name) ρ l) (at (absent B a_name) σ l))
          → Safe y (cond b c (at (absent A a_name) ρ l)) (cond b f (at (absent B a_name) σ l))
      go true e ih = let q : z ≡ y = cc in subst (λ y. Safe y c f) q h.0
      go false e ih = ih e

  abbrev Served : ℕ → List Meaning → List Meaning → Type 0
  Served n M N = (i : ℕ) (g : Sig) → i < n → slice_get w.sigs i ≡ Some g → Serves g (at (no_meaning A) M i) (at (no_meaning B) N i)

  mutual
    inside_safe : (t : Term) (n : ℕ) (M N : List Meaning) (Γ : List TypeId) (ρ σ : Scope) (y : TypeId) → Typed w Γ t y → CallsBelow n (flat t) → Served n M N → Safes Γ ρ σ
        → Safe y (inside A M t ρ) (inside B N t σ)
    inside_safe t_unit n M N Γ ρ σ y ty ca m sc = gives y v_unit (subst (λ y. Fit y v_unit) (sym ty) unit)
    inside_safe (t_number k) n M N Γ ρ σ y ty ca m sc = gives y (v_number k) (subst (λ y. Fit y (v_number k)) (sym ty) number)
    inside_safe (t_name l) n M N Γ ρ σ y ty ca m sc = at_level Γ ρ σ l y ty sc
    inside_safe (t_let k a e) n M N Γ ρ σ y (u, ta, room, te) ca m sc =
        let p = parts n (flat a) (flat e) ca.1 in
        opens u y k (begin A (inside A M a ρ)) (begin B (inside B N a σ)) (λ c. inside A M e (c ∷ ρ)) (λ f. inside B N e (f ∷ σ))
        (begins u _ _ (inside_safe a n M N Γ ρ σ u ta p.0 m sc)) (λ c f h. inside_safe e n M N (u ∷ Γ) (c ∷ ρ) (f ∷ σ) y te p.1 m (h, sc))
    inside_safe (t_take k a e) n M N Γ ρ σ y (u, ta, room, te) ca m sc =
        let p = parts n (flat a) (flat e) ca.1 in
        thens u y _ _ _ _ (goes u _ _ (inside_safe a n M N Γ ρ σ u ta p.0 m sc))
        (λ v i. opens u y k (kept v) (kept v) (λ c. inside A M e (c ∷ ρ)) (λ f. inside B N e (f ∷ σ)) (gives u v i)
        (λ c f h. inside_safe e n M N (u ∷ Γ) (c ∷ ρ) (f ∷ σ) y te p.1 m (h, sc)))
    inside_safe (t_pair a e) n M N Γ ρ σ y (u, v, ta, te, is) ca m sc =
        let p = parts n (flat a) (flat e) ca.1 in
        two u v y _ _ _ _ (λ i j. kept (v_pair i j)) (λ i j. kept (v_pair i j)) (inside_safe a n M N Γ ρ σ u ta p.0 m sc) (inside_safe e n M N Γ ρ σ v te p.1 m sc)
        (λ i j hi hj. gives y (v_pair i j) (u, v, numbered (PairType u v) w.types y is, hi, hj))
    inside_safe (t_split k a e) n M N Γ ρ σ y (z, u, v, ta, is, room, te) ca m sc =
        let p = parts n (flat a) (flat e) ca.1 in
        thens z y _ _ _ _ (goes z _ _ (inside_safe a n M N Γ ρ σ z ta p.0 m sc))
        (λ i hi. let q = fits_pair w.types z u v i is hi in
        needs y (a_pair i) _ _ q.0
        (makes y k
        (λ b d s. make A (suc k) s (λ c s. deeper A (inside A M e (bound A (suc k) c (kept (second_of i)) ∷ bound A k b (kept (first_of i)) ∷ ρ)) d s))
        (λ b d s. make B (suc k) s (λ c s. deeper B (inside B N e (bound B (suc k) c (kept (second_of i)) ∷ bound B k b (kept (first_of i)) ∷ σ)) d s))
        (λ b. opens v y (suc k) (kept (second_of i)) (kept (second_of i))
        (λ c. inside A M e (c ∷ bound A k b (kept (first_of i)) ∷ ρ)) (λ f. inside B N e (f ∷ bound B k b (kept (first_of i)) ∷ σ)) (gives v (second_of i) q.2)
        (λ c f h. inside_safe e n M N (v ∷ u ∷ Γ) (c ∷ bound A k b (kept (first_of i)) ∷ ρ) (f ∷ bound B k b (kept (first_of i)) ∷ σ) y te p.1 m
        (h, (looks u k b _ _ (gives u (first_of i) q.1), sc))))))
    inside_safe (t_left z a) n M N Γ ρ σ y (u, v, ta, is, same) ca m sc =
        thens u y _ _ _ _ (goes u _ _ (inside_safe a n M N Γ ρ σ u ta ca.1 m sc)) (λ i hi. gives y (v_left i) (u, v, subst (λ z. slice_get w.types z.index ≡ Some (EitherType u v)) same is, hi))
    inside_safe (t_right z a) n M N Γ ρ σ y (u, v, ta, is, same) ca m sc =
        thens v y _ _ _ _ (goes v _ _ (inside_safe a n M N Γ ρ σ v ta ca.1 m sc)) (λ i hi. gives y (v_right i) (u, v, subst (λ z. slice_get w.types z.index ≡ Some (EitherType u v)) same is, hi))
    inside_safe (t_case k a e g) n M N Γ ρ σ y (z, u, v, ta, is, room, te, tg) ca m sc =
        let p = parts n (flat a) (flat e ++ flat g) ca.1 in
        let q = parts n (flat e) (flat g) p.1 in
        thens z y _ _ _ _ (goes z _ _ (inside_safe a n M N Γ ρ σ z ta p.0 m sc))
        (λ i hi. chooses z u v y i
        (λ i d s. make A k s (λ b s. deeper A (inside A M e (bound A k b (kept i) ∷ ρ)) d s))
        (λ i d s. make A (suc k) s (λ b s. deeper A (inside A M g (bound A (suc k) b (kept i) ∷ ρ)) d s))
        (λ i d s. make B k s (λ b s. deeper B (inside B N e (bound B k b (kept i) ∷ σ)) d s))
        (λ i d s. make B (suc k) s (λ b s. deeper B (inside B N g (bound B (suc k) b (kept i) ∷ σ)) d s))
        is hi
        (λ i hi. opens u y k (kept i) (kept i) (λ c. inside A M e (c ∷ ρ)) (λ f. inside B N e (f ∷ σ)) (gives u i hi) (λ c f h. inside_safe e n M N (u ∷ Γ) (c ∷ ρ) (f ∷ σ) y te q.0 m (h, sc)))
        (λ i hi. opens v y (suc k) (kept i) (kept i) (λ c. inside A M g (c ∷ ρ)) (λ f. inside B N g (f ∷ σ)) (gives v i hi) (λ c f h. inside_safe g n M N (v ∷ Γ) (c ∷ ρ) (f ∷ σ) y tg q.1 m (h, sc))))
    inside_safe (t_call i ts) n M N Γ ρ σ y (g, ys, tys, sig, params, result) ca m sc =
        let q = m i g ca.0 sig in
        let b : (ρ' σ' : Scope) → Safes (scope_on [] ys) ρ' σ' → Safe y ((at (no_meaning A) M i).does ρ') ((at (no_meaning B) N i).does σ')
        = λ ρ' σ' h. subst (λ y. Safe y ((at (no_meaning A) M i).does ρ') ((at (no_meaning B) N i).does σ')) (sym result) (q.1 ρ' σ' (subst (λ ys. Safes (scope_on [] ys) ρ' σ') params h)) in
        let r = args_safe ts n M N Γ ρ σ ys y (at (no_meaning A) M i).binder [] [] [] (at (no_meaning A) M i).does (at (no_meaning B) N i).does tys ca.1 m sc tt b in
        subst (λ k. Safe y (λ d s. bind_all A M ts (at (no_meaning A) M i).binder ρ [] (at (no_meaning A) M i).does (suc d) s) (λ d s. bind_all B N ts k σ [] (at (no_meaning B) N i).does (suc d) s)) q.0
        (record { same = λ d s. r.same (suc d) s; fits = λ d s. r.fits (suc d) s })
    inside_safe (t_add a e) n M N Γ ρ σ y (ta, te, is) ca m sc =
        let p = parts n (flat a) (flat e) ca.1 in
        two number_type number_type y _ _ _ _ (λ i j d s. numbers A sum_of i j s) (λ i j d s. numbers B sum_of i j s)
        (inside_safe a n M N Γ ρ σ number_type ta p.0 m sc) (inside_safe e n M N Γ ρ σ number_type te p.1 m sc)
        (counts y sum_of (λ i j. subst (λ y. Fit y (sum_of i j)) (sym is) number))
    inside_safe (t_less a e) n M N Γ ρ σ y (ta, te, is) ca m sc =
        let p = parts n (flat a) (flat e) ca.1 in
        two number_type number_type y _ _ _ _ (λ i j d s. numbers A less_of i j s) (λ i j d s. numbers B less_of i j s)
        (inside_safe a n M N Γ ρ σ number_type ta p.0 m sc) (inside_safe e n M N Γ ρ σ number_type te p.1 m sc)
        (counts y less_of (λ i j. subst (λ y. Fit y (less_of i j)) (sym is) (a_truth _)))

    args_safe : (ts : Terms) (n : ℕ) (M N : List Meaning) (Γ : List TypeId) (ρ σ : Scope) (ys : List TypeId) (y : TypeId) (k : ℕ) (Δ : List TypeId) (ρ' σ' : Scope) (c f : Scope → Comp)
        → AllTyped w Γ ts ys → CallsBelow n (flats ts) → Served n M N → Safes Γ ρ σ → Safes Δ ρ' σ'
        → ((ρ σ : Scope) → Safes (scope_on Δ ys) ρ σ → Safe y (c ρ) (f σ)) → Safe y (bind_all A M ts k ρ ρ' c) (bind_all B N ts k σ σ' f)
    args_safe t_none n M N Γ ρ σ ys y k Δ ρ' σ' c f ty ca m sc sd h = h ρ' σ' (subst (λ ys. Safes (scope_on Δ ys) ρ' σ') (sym ty) sd)
    args_safe (t_more a ts) n M N Γ ρ σ ys y k Δ ρ' σ' c f (u, us, ta, ts', is) ca m sc sd h =
        let p = parts n (flat a) (flats ts) ca in
        makes y k (λ b. bind_all A M ts (suc k) ρ (bound A k b (begin A (inside A M a ρ)) ∷ ρ') c) (λ b. bind_all B N ts (suc k) σ (bound B k b (begin B (inside B N a σ)) ∷ σ') f)
        (λ b. args_safe ts n M N Γ ρ σ us y (suc k) (u ∷ Δ) (bound A k b (begin A (inside A M a ρ)) ∷ ρ') (bound B k b (begin B (inside B N a σ)) ∷ σ') c f ts' p.1 m sc
        (looks u k b _ _ (begins u _ _ (inside_safe a n M N Γ ρ σ u ta p.0 m sc)), sd)
        (λ ρ σ i. h ρ σ (subst (λ ys. Safes (scope_on Δ ys) ρ σ) (sym is) i)))

  legs_length : (M : Limits) (gs : List Leg) → length (meanings M gs) ≡ length gs
  legs_length M [] = refl
  legs_length M (g ∷ gs) = ap suc (legs_length M gs)

  abbrev meaning : Limits → Leg → List Leg → Meaning
  meaning M g gs = record { binder = g.first; does = eval M (meanings M gs) g.body }

  leg_safe : (g : Leg) (below : List Leg) → LegTyped w g → CallsBelow (length below) (flat g.body) → Served (length below) (meanings A below) (meanings B below)
      → (ρ σ : Scope) → Safes (scope_on [] g.params) ρ σ → Safe g.result (eval A (meanings A below) g.body ρ) (eval B (meanings B below) g.body σ)
  leg_safe g below ty ca m ρ σ sc =
      begins g.result _ _ (inside_safe g.body (length below) (meanings A below) (meanings B below) (scope_on [] g.params) ρ σ g.result ty ca m sc)

  legs_safe : (gs : List Leg) → Sound w gs → Served (length gs) (meanings A gs) (meanings B gs)
  legs_safe [] so i g lt is = absurd (omega arith)
  legs_safe (h ∷ gs) so i g lt is =
      subst (λ n. Serves g (cond (eqb i n) (meaning A h gs) (at (no_meaning A) (meanings A gs) i)) (cond (eqb i (length (meanings B gs))) (meaning B h gs) (at (no_meaning B) (meanings B gs) i))) (sym (legs_length A gs))
      (subst (λ n. Serves g (cond (eqb i (length gs)) (meaning A h gs) (at (no_meaning A) (meanings A gs) i)) (cond (eqb i n) (meaning B h gs) (at (no_meaning B) (meanings B gs) i))) (sym (legs_length B gs))
      (go (eqb i (length gs)) refl (legs_safe gs so.3)))
    where
      go : (b : Bool) → eqb i (length gs) ≡ b → Served (length gs) (meanings A gs) (meanings B gs)
          → Serves g (cond b (meaning A h gs) (at (no_meaning A) (meanings A gs) i)) (cond b (meaning B h gs) (at (no_meaning B) (meanings B gs) i))
      go true e m =
          let q : sig_of h ≡ g = (let a = eqb-true i (length gs) e in let b = so.2 in cc) in
          subst (λ g. Serves g (meaning A h gs) (meaning B h gs)) q (refl, leg_safe h gs so.0 so.1 m)
      go false e m = m i g (let a = eqb-false i (length gs) e in omega arith) is

  -- main's stores

  draws : (k i : ℕ) → Safe number_type (store A k i) (store B k i)
  draws k i = record {
    same = λ d s. gate_same (L.room (length s.log)) s _ _ (alike (s.left i) s);
    fits = λ d s. gate_fits number_type (L.room (length s.log)) s _ (fitting (s.left i) s);
  }
    where
      alike : (ns : List ℕ) (s : State) → draw A ns k i s ≡ draw B ns k i s
      alike [] s = refl
      alike (n ∷ ns) s = refl

      dried : (o : Option ℕ) (s : State) → Fitting w.types number_type (dry_draw o k i s)
      dried none s = tt
      dried (some n) s = number

      fitting : (ns : List ℕ) (s : State) → Fitting w.types number_type (draw B ns k i s)
      fitting [] s = dried L.dry s
      fitting (n ∷ ns) s = number

  abbrev AllNumbers : List TypeId → Type 0
  AllNumbers [] = Unit {0}
  AllNumbers (y ∷ Γ) = (y ≡ number_type) × AllNumbers Γ

  is_number_type : (y : TypeId) → same_id y number_type ≡ true → y ≡ number_type
  is_number_type y e = ap the_type (eqb-true y.index 1 e)

  in_scope : (Δ ps : List TypeId) → AllNumbers Δ → numbers? ps ≡ true → AllNumbers (scope_on Δ ps) × (length (scope_on Δ ps) ≡ length Δ + length ps)
  in_scope Δ [] h e = (h, (let q : length Δ ≡ length Δ + 0 = omega arith in q))
  in_scope Δ (y ∷ ps) h e =
      let p = and_parts (same_id y number_type) (numbers? ps) e in
      let q = in_scope (y ∷ Δ) ps (is_number_type y p.0, h) p.1 in
      (q.0, q.1 ∙ (let r : suc (length Δ) + length ps ≡ length Δ + suc (length ps) = omega arith in r))

  stores_safe : (f n : ℕ) (Γ : List TypeId) → AllNumbers Γ → length Γ ≡ n → Safes Γ (stores A f n) (stores B f n)
  stores_safe f zero [] h e = tt
  stores_safe f zero (y ∷ Γ) h e = absurd (omega arith)
  stores_safe f (suc n) [] h e = absurd (omega arith)
  stores_safe f (suc n) (y ∷ Γ) h e = (subst (λ y. Safe y (store A (f + n) n) (store B (f + n) n)) (sym h.0) (draws (f + n) n), stores_safe f n Γ h.1 (omega arith))

  flight_safe : (gs : List Leg) (r : Readings) → Ready w gs → (fly_legs A gs r ≡ fly_legs B gs r) × Fitting w.types number_type (fly_legs B gs r)
  flight_safe [] r h = absurd h
  flight_safe (main ∷ below) r h =
      let p = and_parts (numbers? main.params) (same_id main.result number_type) h.0 in
      let q = in_scope [] main.params tt p.0 in
      let n = length main.params in
      let c = leg_safe main below h.1.0 h.1.1 (legs_safe below h.1.3) (stores A main.first n) (stores B main.first n)
      (stores_safe main.first n (scope_on [] main.params) q.0 (q.1 ∙ zero-add n)) in
      (c.same 1 (start main.first n r), subst (λ y. Fitting w.types y (fly_legs B (main ∷ below) r)) (is_number_type main.result p.1) (c.fits 1 (start main.first n r)))

ready : (p : Plan) → WellLaid p → PlanTyped p → Ready (world_of p) (reverse p.legs)
ready p laid typed = turned (world_of p) _ [] p.legs none_before tt typed laid.legs_laid refl (λ j. ap (slice_get (map sig_of p.legs)) (zero-add j))

safe : (p : Plan) → WellLaid p → PlanTyped p → (x : Ending) (L : Limits) (r : Readings)
    → (fly (strict x L) p r ≡ fly (lenient L) p r) × Fitting (world_of p).types number_type (fly (lenient L) p r)
safe p laid typed x L r = flight_safe (world_of p) refl refl refl x L (reverse p.legs) r (ready p laid typed)

gives_number : (p : Plan) → WellLaid p → PlanTyped p → (L : Limits) (r : Readings) (v : Value) (s : State) → fly (lenient L) p r ≡ value v s → (m : ℕ) × (v ≡ v_number m)
gives_number p laid typed L r v s e =
    fits_number (world_of p).types number_type v refl (subst (Fitting (world_of p).types number_type) e (safe p laid typed deep L r).1)

pub types_keep_form : TypesKeepForm
types_keep_form = record {
  never = λ p laid typed L x r. (safe p laid typed x L r).0;
  number = gives_number;
  done = λ p laid typed n r v s e. gives_number p laid typed (house n) r v s e;
}
