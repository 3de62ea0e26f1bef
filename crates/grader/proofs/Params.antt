-- Where the grades of main's parameters stand among those of all binders, and the eight ceilings of them. Assumes nothing.
use Rattle.std.proofs.Common.{◌≡◌, ℕ, zero, suc, ◌+◌, ◌-◌, ◌<◌, ◌≤◌, List, [], ◌∷◌, ◌++◌, map, length, get_or, take, drop, slice_range, set, inl, inr, sym, refl, ap, ◌∙◌, ap₂, append_assoc, arith, length-append, length-set}
use Rattle.std.proofs.lemmas.List.{take_at, drop_at, same_lists}
use Rattle.std.proofs.lemmas.Bool.{cases_lt}
use Rattle.std.proofs.lemmas.Grind.{elements}
use Rattle.std.specs.declared.ops.Range.{Range}
use Rattle.scales.specs.Laws.{Ops}
use Rattle.scales.specs.declared.scale.Ceiling.{Ceiling}
use Rattle.scales.specs.declared.scale.Ceiling.TheVariants.{Count}
use Rattle.plan.specs.declared.Leg.{Leg as FlatLeg}
use Rattle.plan.specs.declared.Row.{Row}
use Rattle.plan.specs.Trees.{Plan}
use Rattle.plan.specs.Table.{InOrder, Spells}
use Rattle.plan.specs.Plans.{params_of, leg_in, legs_in}
use Rattle.grading.specs.Grading.{turned, last_first, arity}
use Rattle.grading.specs.Least.{param_needs, leg_needs, inner, from_0, legs_grades, legs_binders, first_grades, filled}
use Rattle.grading.proofs.Numbers.{from_0_length}
use Rattle.grading.proofs.Standing.{legs_counted}
use Rattle.typer.specs.Walk.{no_leg}
use Rattle.grader.specs.Walk.{LegReady, LegsReady, put}
use Rattle.grader.specs.Stores.{main_of, StoresAt}
use Rattle.grader.proofs.Puts.{put_long}
use Rattle.grader.proofs.Legs.{lower}
use Rattle.grader.proofs.Count.{legs_are}

module _ {G : Type 0} where
  -- the middle of a list
  mid : (p m s t : List G) (b e : ℕ) → length p ≡ b → b + length m ≡ e → slice_range ((p ++ (m ++ s)) ++ t) b e ≡ m
  mid p m s t b e eb ee =
      ap (λ l. take (e - b) (drop b l)) (append_assoc p (m ++ s) t) ∙ ap (take (e - b)) (drop_at p ((m ++ s) ++ t) b eb ∙ append_assoc m s t)
      ∙ take_at m (s ++ t) (e - b) (omega arith)

module _ {G : Type 0} (o : Ops G) (ns : List Row) (gs : List FlatLeg) where
  abbrev main : FlatLeg
  main = main_of gs

  -- The places of main's parameters among all answers.
  pub record Places (xs : List G) : Type 0 where
    pub within : main.binder.index + length (params_of main) ≤ length xs
    pub are : slice_range xs main.binder.index (main.binder.index + length (params_of main)) ≡ first_grades o (turned [] (legs_in ns gs))

  module _ (k : ℕ) (last : k + 1 ≡ length gs) (s : Spells ns) (order : InOrder 0 ns gs) (r : LegReady ns (take k gs) (get_or gs k no_leg)) where
    abbrev g : FlatLeg
    g = get_or gs k no_leg

    abbrev Γ : List (ℕ → G)
    Γ = leg_needs o (lower ns gs k)

    abbrev stores : List G
    stores = from_0 (arity (leg_in ns g)) (param_needs o Γ (leg_in ns g))

    abbrev inside : List G
    inside = inner o Γ (leg_in ns g).body (arity (leg_in ns g))

    main_is : main ≡ g
    main_is = ap (λ i. get_or gs i no_leg) (let e : length gs - 1 ≡ k = omega arith in e)

    at_end : (t : List G) → slice_range ((legs_grades o (lower ns gs k) ++ (stores ++ inside)) ++ t) g.binder.index (g.binder.index + length (params_of g)) ≡ stores
    at_end t =
        let c = legs_counted o (lower ns gs k) in
        let n = r.numbered in
        let w = from_0_length (arity (leg_in ns g)) (param_needs o Γ (leg_in ns g)) in
        mid (legs_grades o (lower ns gs k)) stores inside t g.binder.index (g.binder.index + length (params_of g)) (c ∙ sym n) (ap (λ m. g.binder.index + m) w)

    grades_are : legs_grades o (turned [] (legs_in ns gs)) ≡ legs_grades o (lower ns gs k) ++ (stores ++ inside)
    grades_are = ap (legs_grades o) (legs_are ns gs k last s order r)

    places_of_last : (xs : List G) → legs_binders (turned [] (legs_in ns gs)) ≤ length xs → Places (put 0 (legs_grades o (turned [] (legs_in ns gs))) xs)
    places_of_last xs fits =
        let all = legs_grades o (turned [] (legs_in ns gs)) in
        let b = g.binder.index in
        let n = length (params_of g) in
        let counted = legs_counted o (turned [] (legs_in ns gs)) in
        let below = legs_counted o (lower ns gs k) in
        let numbered = r.numbered in
        let w = from_0_length (arity (leg_in ns g)) (param_needs o Γ (leg_in ns g)) in
        let long = ap length grades_are ∙ length-append (legs_grades o (lower ns gs k)) (stores ++ inside) in
        let two = length-append stores inside in
        let whole = put_long 0 all xs (omega arith) in
        let at_main = ap (λ m. m.binder.index + length (params_of m)) main_is in
        let within : b + n ≤ length (put 0 all xs) = omega arith in
        record {
          within = omega arith;
          are =
              ap (λ m. slice_range (put 0 all xs) m.binder.index (m.binder.index + length (params_of m))) main_is
              ∙ ap (λ l. slice_range (put 0 l xs) b (b + n)) grades_are
              ∙ at_end (drop (0 + length (legs_grades o (lower ns gs k) ++ (stores ++ inside))) xs)
              ∙ sym (ap (first_grades o) (legs_are ns gs k last s order r));
        }

-- The grades of main's parameters, where it is the last of the legs or there is none.
places_in : {G : Type 0} (o : Ops G) (ns : List Row) (gs : List FlatLeg) → Spells ns → InOrder 0 ns gs → LegsReady ns gs
    → (xs : List G) → legs_binders (turned [] (legs_in ns gs)) ≤ length xs → Places o ns gs (put 0 (legs_grades o (turned [] (legs_in ns gs))) xs)
places_in o ns [] s order ready xs fits = record { within = omega arith; are = refl }
places_in o ns (f ∷ gs) s order ready xs fits =
    places_of_last o ns (f ∷ gs) (length gs) (omega arith) s order (ready (length gs) (omega arith)) xs fits

pub stores_at : {G : Type 0} (o : Ops G) (p : Plan) (ns : List Row) (gs : List FlatLeg) → Spells ns → InOrder 0 ns gs → LegsReady ns gs → turned [] (legs_in ns gs) ≡ last_first p
    → (xs ys : List G) → legs_binders (turned [] (legs_in ns gs)) ≤ length xs → ys ≡ put 0 (legs_grades o (turned [] (legs_in ns gs))) xs
    → (r : Range ℕ) → r.start ≡ (main_of gs).binder.index → r.end ≡ (main_of gs).binder.index + length (params_of (main_of gs)) → StoresAt o p r ys
stores_at o p ns gs s order ready same xs ys fits is r first behind =
    let h = places_in o ns gs s order ready xs fits in
    let within = h.within in
    let long = ap length is in
    record {
      order = omega arith;
      within = omega arith;
      are = ap₂ (λ a b. slice_range ys a b) first behind ∙ ap (λ l. slice_range l (main_of gs).binder.index ((main_of gs).binder.index + length (params_of (main_of gs)))) is ∙ h.are ∙ ap (first_grades o) same;
    }

-- ---- the ceilings of grades, one for each of n stores

module _ {G : Type 0} (c : G → Ceiling) where
  pub filled_long : (n : ℕ) (gs : List G) → length (filled n (map c gs)) ≡ n
  filled_long zero gs = refl
  filled_long (suc n) [] = ap suc (filled_long n [])
  filled_long (suc n) (g ∷ gs) = ap suc (filled_long n gs)

  pub filled_has : (n : ℕ) (gs : List G) (i : ℕ) (x : G) (d : Ceiling) → i < n → i < length gs → get_or (filled n (map c gs)) i d ≡ c (get_or gs i x)
  filled_has zero gs i x d lt le = absurd (omega arith)
  filled_has (suc n) [] i x d lt le = absurd (omega arith)
  filled_has (suc n) (g ∷ gs) zero x d lt le = refl
  filled_has (suc n) (g ∷ gs) (suc i) x d lt le = filled_has n gs i x d (omega arith) (omega arith)

  pub filled_past : (n : ℕ) (gs : List G) (i : ℕ) (d : Ceiling) → i < n → length gs ≤ i → get_or (filled n (map c gs)) i d ≡ Count 0
  filled_past zero gs i d lt le = absurd (omega arith)
  filled_past (suc n) [] zero d lt le = refl
  filled_past (suc n) [] (suc i) d lt le = filled_past n [] i d (omega arith) (omega arith)
  filled_past (suc n) (g ∷ gs) zero d lt le = absurd (omega arith)
  filled_past (suc n) (g ∷ gs) (suc i) d lt le = filled_past n gs i d (omega arith) (omega arith)

  -- The first i of eight places have the ceilings of as many grades, and all others 0.
  pub record Filling (gs : List G) (ys : List Ceiling) (i : ℕ) : Type 0 where
    pub eight : length ys ≡ 8
    pub done : (k : ℕ) (d : Ceiling) (x : G) → k < i → k < length gs → get_or ys k d ≡ c (get_or gs k x)
    pub past : (k : ℕ) (d : Ceiling) → k < i → k < 8 → length gs ≤ k → get_or ys k d ≡ Count 0
    pub later : (k : ℕ) (d : Ceiling) → i ≤ k → k < 8 → get_or ys k d ≡ Count 0

  module _ {gs : List G} {ys zs : List Ceiling} {i : ℕ} (h : Filling gs ys i) (lt : i < 8) where
    pub fill_more : (v : Ceiling) → zs ≡ set ys i v → i < length gs → ((x : G) → v ≡ c (get_or gs i x)) → Filling gs zs (i + 1)
    fill_more v e here is = let long = h.eight in record {
      eight = ap length e ∙ length-set ys i v ∙ h.eight;
      done = λ k d x q l. grind (arith, elements, h.done k d x, is x, e);
      past = λ k d q r l. grind (arith, elements, h.past k d, e);
      later = λ k d q r. grind (arith, elements, h.later k d, e);
    }

    pub fill_none : (v : Ceiling) → zs ≡ set ys i v → length gs ≤ i → v ≡ Count 0 → Filling gs zs (i + 1)
    fill_none v e gone is = let long = h.eight in record {
      eight = ap length e ∙ length-set ys i v ∙ h.eight;
      done = λ k d x q l. grind (arith, elements, h.done k d x, e);
      past = λ k d q r l. grind (arith, elements, h.past k d, is, e);
      later = λ k d q r. grind (arith, elements, h.later k d, e);
    }

  pub fill_all : {gs : List G} {ys : List Ceiling} (x : G) → Filling gs ys 8 → ys ≡ filled 8 (map c gs)
  fill_all {gs} {ys} x h =
      let long = h.eight in
      let eight = filled_long 8 gs in
      same_lists ys (filled 8 (map c gs)) (omega arith)
      (λ k d q. elim (cases_lt k (length gs)) [
        | inl z ↦ h.done k d x (omega arith) z ∙ sym (filled_has 8 gs k x d (omega arith) z)
        | inr z ↦ h.past k d (omega arith) (omega arith) z ∙ sym (filled_past 8 gs k d (omega arith) z)
      ])
