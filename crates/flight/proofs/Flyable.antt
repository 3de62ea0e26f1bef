-- A read plan with types is laid and spelled as the machine needs it. Assumes nothing.
use Rattle.std.proofs.Common.{◌≡◌, ℕ, zero, suc, ◌+◌, ◌-◌, ◌*◌, ◌<◌, ◌≤◌, Bool, true, false, cond, ltb, List, [], ◌∷◌, ◌++◌, reverse, length, get_or, drop, vec_items, sym, refl, ap, ◌∙◌, subst, arith, length-append, ltb-false, ltb-true, le-ltb, lt-ltb}
use mathlib.Core.List.{reverse_aux}
use Rattle.std.proofs.lemmas.List.{get_or_append_left, get_or-append-add, get_or-drop}
use Rattle.plan.specs.declared.TypeId.{TypeId}
use Rattle.plan.specs.declared.Node.{Node}
use Rattle.plan.specs.declared.Row.{Row}
use Rattle.plan.specs.declared.Leg.{Leg}
use Rattle.plan.specs.declared.Plan.{Plan as FlatPlan}
use Rattle.plan.specs.Trees as plan
use Rattle.plan.specs.Trees.{Term, flat}
use Rattle.plan.specs.Table as table
use Rattle.plan.specs.Table.{row_at, term_at, node_size, InOrder}
use Rattle.plan.specs.Plans.{leg_in, legs_in, params_of, tree}
use Rattle.plan.specs.Plans as replies
use Rattle.plan.specs.Written.{Run, with_leg, with_node, binders_in, LegLaid, Before, none_before}
use Rattle.plan.proofs.Ends.{some_nodes}
use Rattle.typer.specs.Typing.{World, world_of, scope_on, LegTyped, LegsTyped, PlanTyped}
use Rattle.typer.specs.Levels.{levels, leg_levels}
use Rattle.flight.specs.Nodes.{no_leg, kind_at, level_of}
use Rattle.flight.specs.Sound.{Under, Laid, LaidNode}
use Rattle.flight.specs.Spelled.{below, below_from, from_leg, Spells, Spelled, Main}
use Rattle.typer.proofs.Views.{levels_length}
use Rattle.std.proofs.lemmas.Bool.{eq-eqb, ne_eqb}
use Rattle.flight.proofs.Placed.{Lower, Along, Placed, walked, good}
use Rattle.flight.proofs.Owns.{Fit, fits, owns, two_at_most}

scope_length : (Γ ys : List TypeId) → length (scope_on Γ ys) ≡ length Γ + length ys
scope_length Γ [] = omega arith
scope_length Γ (y ∷ ys) = scope_length (y ∷ Γ) ys ∙ omega arith

binders_bound : (os : List Node) (k : ℕ) → binders_in k os ≤ k + 2 * length os
binders_bound [] k = omega arith
binders_bound (o ∷ os) k = let a = binders_bound os (with_node k o) in let b = two_at_most o in omega arith

-- every leg is typed
abbrev AllLegs : World → List plan.Leg → Type 0
AllLegs w [] = Unit {0}
AllLegs w (g ∷ gs) = LegTyped w g × AllLegs w gs

all_legs : (w : World) (gs : List plan.Leg) → LegsTyped w gs → AllLegs w gs
all_legs w [] h = tt
all_legs w (g ∷ []) h = (h.1, tt)
all_legs w (g ∷ g' ∷ gs) h = (h.0, all_legs w (g' ∷ gs) h.1)

module _ (ns : List Row) (gs : List Leg) (types : ℕ) (w : World) (sp : table.Spells ns) where
  abbrev lv : ℕ → ℕ
  lv = level_of ns gs

  abbrev LevelsFrom : ℕ → List ℕ → Type 0
  LevelsFrom p ds = (k : ℕ) → k < length ds → lv (p + k) ≡ get_or ds k 0

  abbrev fin : Leg → ℕ
  fin g = g.first + node_size (term_at ns g.first)

  -- The legs `rest` are to come, from the node p on; ls are those before, the last one first, and s is what they leave.
  record Ahead (p : ℕ) (ls : List plan.Leg) (s : Before) (rest : List Leg) : Type 0 where
    pub order : InOrder p ns rest
    pub legs_below : (i : ℕ) → p ≤ i → below ns gs i ≡ below_from ns ls rest i
    pub depths : LevelsFrom p (leg_levels (legs_in ns rest))
    pub laid : Run with_leg (LegLaid types) s (legs_in ns rest)
    pub typed : AllLegs w (legs_in ns rest)
    pub count : length ls ≡ length s.arities
    pub rest_is : drop (length ls) gs ≡ rest
    pub lower : (l : ℕ) → l < length s.arities → Lower ns gs lv ls l (get_or s.arities l 0)
    pub used : s.used ≡ p
    pub next : s.next ≤ 8 * length ls + 2 * p
    pub few : length ls + length rest ≤ 16
    pub back : reverse (legs_in ns gs) ≡ reverse_aux (legs_in ns rest) ls

  module _ (p : ℕ) (ls : List plan.Leg) (s : Before) (g : Leg) (rest : List Leg) (A : Ahead p ls s (g ∷ rest)) where
    abbrev t : Term
    t = term_at ns g.first

    abbrev n : ℕ
    n = length (params_of g)

    here : g.first ≡ p
    here = A.order.0

    -- all of its nodes stand over the legs ls
    in_leg : (i : ℕ) → p ≤ i → i < fin g → below ns gs i ≡ ls
    in_leg i ge lt = A.legs_below i ge ∙ ap (λ b. cond b ls (below_from ns (leg_in ns g ∷ ls) rest i)) (lt-ltb i (fin g) lt)

    past_leg : (i : ℕ) → fin g ≤ i → p ≤ i → below ns gs i ≡ below_from ns (leg_in ns g ∷ ls) rest i
    past_leg i ge ge' = A.legs_below i ge' ∙ ap (λ b. cond b ls (below_from ns (leg_in ns g ∷ ls) rest i)) (le-ltb i (fin g) ge)

    few_params : n ≤ 8
    few_params = A.laid.0.few_params

    small : s.next + n + 2 * node_size t < 65535
    small =
        let a = A.next in
        let b = A.laid.0.few_nodes in
        let c = A.few in
        let d = few_params in
        let u = A.used in
        omega arith

    levels_here : LevelsFrom p (levels n t)
    levels_here k lt =
        let e : length (levels n t ++ leg_levels (legs_in ns rest)) ≡ length (levels n t) + length (leg_levels (legs_in ns rest)) = length-append (levels n t) (leg_levels (legs_in ns rest)) in
        A.depths k (omega arith) ∙ get_or_append_left (levels n t) (leg_levels (legs_in ns rest)) 0 k lt

    along : Along ns gs lv ls p (flat t) (levels n t)
    along k lt =
        let e : length (levels n t) ≡ node_size t = levels_length n t in
        let sc : length (scope_on [] (params_of g)) ≡ n = scope_length [] (params_of g) ∙ omega arith in
        let f : Fit (flat t) (levels n t) = subst (λ (x : ℕ). Fit (flat t) (levels x t)) sc (fits w (scope_on [] (params_of g)) t g.result A.typed.0) in (
          levels_here k (omega arith),
          owns ns gs lv ls types s.arities A.lower (flat t) (levels n t) (s.next + n) A.laid.0.nodes_laid f small k lt,
        )

    leg_walked : (lv p ≡ n) × ((i : ℕ) → p ≤ i → i < p + node_size t → Placed ns gs lv ls i)
    leg_walked =
        walked ns gs lv ls sp p (fin g) in_leg (node_size t) t p n (omega arith) A.order.1 (ap (term_at ns) (sym here)) (omega arith) (let e = here in omega arith) along

    there : length ls < length gs
    there = go (length ls) gs A.rest_is
      where
        go : (m : ℕ) (xs : List Leg) → drop m xs ≡ g ∷ rest → m < length xs
        go zero [] e = absurd (let z : ◌≡◌ {A = ℕ} 0 (suc (length rest)) = ap length e in omega arith)
        go (suc m) [] e = absurd (let z : ◌≡◌ {A = ℕ} 0 (suc (length rest)) = ap length e in omega arith)
        go zero (x ∷ xs) e = omega arith
        go (suc m) (x ∷ xs) e = let r = go m xs e in omega arith

    this : get_or gs (length ls) no_leg ≡ g
    this =
        let z : length ls + 0 ≡ length ls = omega arith in
        ap (λ (m : ℕ). get_or gs m no_leg) (sym z) ∙ sym (get_or-drop (length ls) gs 0 no_leg) ∙ ap (λ (x : List Leg). get_or x 0 no_leg) A.rest_is

    first_below : below ns gs g.first ≡ ls
    first_below = let e = here in let m = some_nodes t in in_leg g.first (omega arith) (omega arith)

    abbrev ls' : List plan.Leg
    ls' = leg_in ns g ∷ ls

    abbrev s' : Before
    s' = with_leg s (leg_in ns g)

    numbered : g.binder.index ≡ s.next
    numbered = A.laid.0.numbered

    this_lower : Lower ns gs lv ls' (length ls) n
    this_lower =
        let th = this in
        let sm = small in
        let nb = numbered in
        record {
          there = there;
          leg = subst (λ (x : Leg). Under ns lv x.first n) (sym th)
              ((let e = here in let o = A.order.1 in omega arith), ap lv here ∙ leg_walked.0);
          fits = subst (λ (x : Leg). x.binder.index + n < 65536) (sym th) (omega arith);
          from = ap (λ b. cond b ls' (from_leg ls (length ls))) (eq-eqb (length ls) (length ls) refl)
              ∙ subst (λ (x : Leg). ls' ≡ leg_in ns x ∷ below ns gs x.first) (sym th) (ap (λ (x : List plan.Leg). leg_in ns g ∷ x) (sym first_below));
        }

    lower_next : (l : ℕ) → l < length s'.arities → Lower ns gs lv ls' l (get_or s'.arities l 0)
    lower_next l lt = go (ltb l (length s.arities)) refl
      where
        go : (b : Bool) → ltb l (length s.arities) ≡ b → Lower ns gs lv ls' l (get_or (s.arities ++ (n ∷ [])) l 0)
        go true e =
            let x = ltb-true l (length s.arities) e in
            let c = A.count in
            let old = A.lower l x in
            let q : get_or (s.arities ++ (n ∷ [])) l 0 ≡ get_or s.arities l 0 = get_or_append_left s.arities (n ∷ []) 0 l x in
            let skip : from_leg ls' l ≡ from_leg ls l = ap (λ b. cond b ls' (from_leg ls l)) (ne_eqb l (length ls) (λ (p : l ≡ length ls). omega arith)) in
            subst (λ (m : ℕ). Lower ns gs lv ls' l m) (sym q) (record { there = old.there; leg = old.leg; fits = old.fits; from = skip ∙ old.from })
        go false e =
            let x = ltb-false l (length s.arities) e in
            let c = A.count in
            let z : length (s.arities ++ (n ∷ [])) ≡ length s.arities + 1 = length-append s.arities (n ∷ []) in
            let y : length ls ≡ l = omega arith in
            let v : length s.arities + 0 ≡ l = omega arith in
            let q : n ≡ get_or (s.arities ++ (n ∷ [])) l 0 = sym (ap (λ (m : ℕ). get_or (s.arities ++ (n ∷ [])) m 0) (sym v) ∙ get_or-append-add s.arities (n ∷ []) 0 0) in
            subst (λ (m : ℕ). Lower ns gs lv ls' l m) q (subst (λ (m : ℕ). Lower ns gs lv ls' m n) y this_lower)

    ahead_next : Ahead (p + node_size (term_at ns p)) ls' s' rest
    ahead_next =
        let e = here in
        let sz : node_size (term_at ns p) ≡ node_size t = ap (λ (x : ℕ). node_size (term_at ns x)) (sym here) in
        let bb = binders_bound (flat t) (s.next + n) in
        let nx = A.next in
        let fp = few_params in
        let fw = A.few in
        let us = A.used in
        let ll : length (levels n t) ≡ node_size t = levels_length n t in
        let len : length (s.arities ++ (n ∷ [])) ≡ length s.arities + 1 = length-append s.arities (n ∷ []) in
        let ct = A.count in
        record {
          order = A.order.3;
          legs_below = λ i ge. past_leg i (omega arith) (omega arith);
          depths = λ k lt. (
              let la : length (levels n t ++ leg_levels (legs_in ns rest)) ≡ length (levels n t) + length (leg_levels (legs_in ns rest)) = length-append (levels n t) (leg_levels (legs_in ns rest)) in
              let q : (p + node_size (term_at ns p)) + k ≡ p + (length (levels n t) + k) = omega arith in
              ap lv q ∙ A.depths (length (levels n t) + k) (omega arith) ∙ get_or-append-add (levels n t) (leg_levels (legs_in ns rest)) k 0);
          laid = A.laid.1;
          typed = A.typed.1;
          count = omega arith;
          rest_is = sym (drop_drop_one (length ls) gs) ∙ ap (drop 1) A.rest_is;
          lower = lower_next;
          used = omega arith;
          next = omega arith;
          few = omega arith;
          back = A.back;
        }
      where
        drop_drop_one : (m : ℕ) (xs : List Leg) → drop 1 (drop m xs) ≡ drop (suc m) xs
        drop_drop_one zero xs = refl
        drop_drop_one (suc m) [] = refl
        drop_drop_one (suc m) (x ∷ xs) = drop_drop_one m xs

    good_here : (i : ℕ) → p ≤ i → i < length ns → i < p + node_size t → LaidNode ns gs lv (kind_at ns i) i × Spells ns gs (kind_at ns i) i
    good_here i ge lt il = good ns gs lv ls sp i lt (leg_walked.1 i ge il)

  all_good : (p : ℕ) (ls : List plan.Leg) (s : Before) (rest : List Leg) → Ahead p ls s rest → (i : ℕ) → p ≤ i → i < length ns
      → LaidNode ns gs lv (kind_at ns i) i × Spells ns gs (kind_at ns i) i
  all_good p ls s [] A i ge lt = absurd (let e = A.order in omega arith)
  all_good p ls s (g ∷ rest) A i ge lt =
      go (ltb i (p + node_size (term_at ns g.first))) refl (all_good (p + node_size (term_at ns p)) (leg_in ns g ∷ ls) (with_leg s (leg_in ns g)) rest (ahead_next p ls s g rest A))
    where
      go : (b : Bool) → ltb i (p + node_size (term_at ns g.first)) ≡ b
          → ((i : ℕ) → p + node_size (term_at ns p) ≤ i → i < length ns → LaidNode ns gs lv (kind_at ns i) i × Spells ns gs (kind_at ns i) i)
          → LaidNode ns gs lv (kind_at ns i) i × Spells ns gs (kind_at ns i) i
      go true e ih = good_here p ls s g rest A i ge lt (ltb-true i (p + node_size (term_at ns g.first)) e)
      go false e ih =
          let x = ltb-false i (p + node_size (term_at ns g.first)) e in
          let sz : node_size (term_at ns p) ≡ node_size (term_at ns g.first) = ap (λ (x : ℕ). node_size (term_at ns x)) (sym A.order.0) in
          ih i (omega arith) lt

  -- The last leg, main.
  record Last (g : Leg) : Type 0 where
    pub node : Under ns lv g.first (length (params_of g))
    pub few : length (params_of g) ≤ 8
    pub binder : g.binder.index < 60000
    pub back : reverse (legs_in ns gs) ≡ leg_in ns g ∷ below ns gs g.first

  last_there : (p : ℕ) (ls : List plan.Leg) (s : Before) (g : Leg) (rest : List Leg) → Ahead p ls s (g ∷ rest) → Last (get_or gs (length gs - 1) no_leg)
  last_there p ls s g [] A =
      let th = there p ls s g [] A in
      let ct : length gs ≡ length ls + 1 = ends (length ls) gs A.rest_is in
      let q : length ls ≡ length gs - 1 = omega arith in
      let is : get_or gs (length gs - 1) no_leg ≡ g = ap (λ (m : ℕ). get_or gs m no_leg) (sym q) ∙ this p ls s g [] A in
      let sm = small p ls s g [] A in
      let nb = numbered p ls s g [] A in
      let o = A.order in
      let o0 = o.0 in
      let o1 = o.1 in
      let nx = A.next in
      let fw = A.few in
      let fn = A.laid.0.few_nodes in
      let us = A.used in
      subst Last (sym is) (record {
        node = (omega arith, ap lv o.0 ∙ (leg_walked p ls s g [] A).0);
        few = o.2;
        binder = omega arith;
        back = A.back ∙ ap (λ (x : List plan.Leg). leg_in ns g ∷ x) (sym (first_below p ls s g [] A));
      })
    where
      ends : (m : ℕ) (xs : List Leg) → drop m xs ≡ g ∷ [] → length xs ≡ m + 1
      ends zero xs e = ap length e
      ends (suc m) [] e = absurd (let z : ◌≡◌ {A = ℕ} 0 1 = ap length e in omega arith)
      ends (suc m) (x ∷ xs) e = let r = ends m xs e in omega arith
  last_there p ls s g (g' ∷ rest) A = last_there (p + node_size (term_at ns p)) (leg_in ns g ∷ ls) (with_leg s (leg_in ns g)) g' rest (ahead_next p ls s g (g' ∷ rest) A)

  few_nodes : (p : ℕ) (ls : List plan.Leg) (s : Before) (rest : List Leg) → Ahead p ls s rest → p ≤ 256 → length ns ≤ 256
  few_nodes p ls s [] A le = let e = A.order in omega arith
  few_nodes p ls s (g ∷ rest) A le =
      let sz : node_size (term_at ns p) ≡ node_size (term_at ns g.first) = ap (λ (x : ℕ). node_size (term_at ns x)) (sym A.order.0) in
      let fn = A.laid.0.few_nodes in
      let us = A.used in
      few_nodes (p + node_size (term_at ns p)) (leg_in ns g ∷ ls) (with_leg s (leg_in ns g)) rest (ahead_next p ls s g rest A) (omega arith)

  module _ (order : InOrder 0 ns gs) (laid : Run with_leg (LegLaid types) none_before (legs_in ns gs)) (typed : AllLegs w (legs_in ns gs)) (few : length (legs_in ns gs) ≤ 16) where
    start : Ahead 0 [] none_before gs
    start =
        let e : length (legs_in ns gs) ≡ length gs = same_count gs in
        record {
          order = order;
          legs_below = λ i ge. refl;
          depths = λ k lt. ap lv (omega arith);
          laid = laid;
          typed = typed;
          count = refl;
          rest_is = refl;
          lower = λ l lt. absurd (omega arith);
          used = refl;
          next = omega arith;
          few = omega arith;
          back = refl;
        }
      where
        same_count : (xs : List Leg) → length (legs_in ns xs) ≡ length xs
        same_count [] = refl
        same_count (x ∷ xs) = ap suc (same_count xs)

    pub laid_all : Laid ns gs lv
    laid_all = record { few = few_nodes 0 [] none_before gs start (omega arith); each = λ i lt. (all_good 0 [] none_before gs start i (omega arith) lt).0 }

    pub spelled_all : Spelled ns gs
    spelled_all i lt = (all_good 0 [] none_before gs start i (omega arith) lt).1

    main_last : 1 ≤ length (legs_in ns gs) → Last (get_or gs (length gs - 1) no_leg)
    main_last = go gs start
      where
        go : (xs : List Leg) → Ahead 0 [] none_before xs → 1 ≤ length (legs_in ns xs) → Last (get_or gs (length gs - 1) no_leg)
        go [] A h = absurd (omega arith)
        go (g ∷ rest) A h = last_there 0 [] none_before g rest A

-- Of a whole plan.
module _ (p : FlatPlan) (S : replies.Sound p) (T : PlanTyped (tree p)) where
  abbrev rows : List Row
  rows = vec_items p.nodes

  abbrev legs : List Leg
  legs = vec_items p.legs

  typed : AllLegs (world_of (tree p)) (legs_in rows legs)
  typed = all_legs (world_of (tree p)) (legs_in rows legs) T

  pub plan_laid : Laid rows legs (level_of rows legs)
  plan_laid = laid_all rows legs (3 + length (tree p).entries) (world_of (tree p)) S.spells S.in_order S.laid.legs_laid typed S.laid.few_legs

  pub plan_spelled : Spelled rows legs
  plan_spelled = spelled_all rows legs (3 + length (tree p).entries) (world_of (tree p)) S.spells S.in_order S.laid.legs_laid typed S.laid.few_legs

  last : Last rows legs (3 + length (tree p).entries) (world_of (tree p)) S.spells (get_or legs (length legs - 1) no_leg)
  last = main_last rows legs (3 + length (tree p).entries) (world_of (tree p)) S.spells S.in_order S.laid.legs_laid typed S.laid.few_legs S.laid.some_legs

  pub plan_main : Main rows legs (get_or legs (length legs - 1) no_leg)
  plan_main =
      let b = last.binder in
      let f = last.few in
      record { lv = level_of rows legs; lv_is = refl; laid = plan_laid; node = last.node; few = f; fits = omega arith }

  -- main over the legs below it
  pub plan_back : reverse (tree p).legs ≡ leg_in rows (get_or legs (length legs - 1) no_leg) ∷ below rows legs (get_or legs (length legs - 1) no_leg).first
  plan_back = last.back

  pub some_legs : 1 ≤ length legs
  some_legs = go legs S.laid.some_legs
    where
      go : (xs : List Leg) → 1 ≤ length (legs_in rows xs) → 1 ≤ length xs
      go [] h = h
      go (x ∷ xs) h = omega arith
