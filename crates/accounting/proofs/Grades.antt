-- A flight that ends DONE keeps within every allowed grading. Assumes nothing.
use Rattle.std.proofs.Common.{◌≡◌, ℕ, zero, suc, ◌+◌, ◌<◌, ◌≤◌, Bool, true, false, cond, eqb, ◌⊎◌, List, [], ◌∷◌, reverse, length, sym, refl, ap, ◌∙◌, subst, ap₂, inl, inr, le_refl, zero-add, arith}
use mathlib.Core.List.{reverse_aux}
use mathlib.Core.Option.{Option, some, none}
use Rattle.std.proofs.lemmas.Bool.{eqb-true, eqb-false}
use Rattle.scales.specs.Laws.{Ops, Laws, ones, ExactlyOne}
use Rattle.plan.specs.Trees.{Leg, Plan}
use Rattle.evaluation.specs.Flight.{Value, v_unit, v_number, made, lookup, lookups, Ending, Readings, State, value, at, a_leg, Limits, gate, note, set_store, draw, dry_draw, stores, stores_log, Meaning, no_meaning, meanings, eval, start, fly_main, fly_legs, state_at}
use Rattle.evaluation.proofs.Steps.{apart}
use Rattle.evaluation.proofs.Bounded.{lookups_append, stores_unread}
use Rattle.grading.specs.Grading.{turned, last_first, at as leg_at, no_leg, arity, Leq, one_of, Graded, LegsAllowed}
use Rattle.accounting.specs.Accounting.{Made, WithinGrades, KeepsWithin, OneIsOnce}
use Rattle.accounting.proofs.Sums.{total, plus_zero', leq_from, leq_to, one_here, one_else}
use Rattle.accounting.proofs.Costs.{After, Good, Scoped, gate_good, still, looking, made_append}
use Rattle.accounting.proofs.Terms.{Serve, eval_costs}

-- the usages of n stores
abbrev store_uses : {G : Type 0} → Ops G → ℕ → List (ℕ → G)
store_uses S zero = []
store_uses S (suc n) = one_of S n ∷ store_uses S n

uses_length : {G : Type 0} (S : Ops G) (n : ℕ) → length (store_uses S n) ≡ n
uses_length S zero = refl
uses_length S (suc n) = ap suc (uses_length S n)

meanings_length : (L : Limits) (legs : List Leg) → length (meanings L legs) ≡ length legs
meanings_length L [] = refl
meanings_length L (leg ∷ legs) = ap suc (meanings_length L legs)

stores_made : (f n k b : ℕ) → Made k b (stores_log f n) → (k ≡ f + b) × (b < n)
stores_made f zero k b h = absurd h
stores_made f (suc n) k b h = go (stores_made f n k b) (made_append k b (stores_log f n) (made (f + n) n ∷ []) h)
  where
    go : (Made k b (stores_log f n) → (k ≡ f + b) × (b < n)) → Made k b (stores_log f n) ⊎ Made k b (made (f + n) n ∷ [])
        → (k ≡ f + b) × (b < suc n)
    go ih (inl x) = let r = ih x in (r.0, omega arith)
    go ih (inr (inl p)) = let q : n ≡ b = cc in let r : f + n ≡ k = cc in (omega arith, omega arith)
    go ih (inr (inr x)) = absurd x

module _ {G : Type 0} {S : Ops G} (Z : Laws S) (R : ℕ → G) (L : Limits) where
  -- a draw looks its store up once
  drawn_good : (k i x : ℕ) (s : State) → i < s.next → After S R (one_of S i) s.log s.next (value (v_number x) (note (lookup k i) s))
  drawn_good k i x s lt =
      looking Z R k i _ (λ b. S.zero) s.log s.next (value (v_number x) (note (lookup k i) s)) lt
      (λ b y. leq_from Z _ _ _ (plus_zero' Z _) (Z.leq_refl _))
      (still Z R _ (v_number x) (note (lookup k i) s) (λ b. Z.leq_refl _))

  draw_good : (k i : ℕ) (l : List ℕ) (s : State) → i < s.next → After S R (one_of S i) s.log s.next (draw L l k i s)
  draw_good k i [] s lt = go L.dry
    where
      go : (o : Option ℕ) → After S R (one_of S i) s.log s.next (dry_draw o k i s)
      go none = tt
      go (some x) = drawn_good k i x s lt
  draw_good k i (x ∷ xs) s lt = drawn_good k i x (set_store i xs s) lt

  stores_scoped : (f n p : ℕ) → n ≤ p → Scoped S R p (stores L f n) (store_uses S n)
  stores_scoped f zero p le = tt
  stores_scoped f (suc n) p le = (
    record {
      ends = λ b k. one_else Z n b (λ e. omega arith);
      does = λ d s k. gate_good Z R _ _ _ (L.room (length s.log)) s _ (draw_good (f + n) n (s.left n) s (omega arith));
    },
    stores_scoped f n p (omega arith),
  )

  stores_above : (γ : ℕ → G) (n b : ℕ) → n ≤ b → total S γ (store_uses S n) b ≡ S.zero
  stores_above γ zero b le = refl
  stores_above γ (suc n) b le =
      ap₂ S.plus (stores_above γ n b (omega arith)) (ap (S.times _) (one_else Z n b (λ e. omega arith)) ∙ Z.times_zero _)
      ∙ Z.plus_zero _

  stores_total : (γ : ℕ → G) (n b : ℕ) → b < n → total S γ (store_uses S n) b ≡ γ b
  stores_total γ zero b lt = absurd (omega arith)
  stores_total γ (suc n) b lt = go (stores_total γ n b) (eqb b n) refl
    where
      go : (b < n → total S γ (store_uses S n) b ≡ γ b) → (x : Bool) → eqb b n ≡ x → total S γ (store_uses S (suc n)) b ≡ γ b
      go ih true e =
          let q = eqb-true b n e in
          ap₂ S.plus (stores_above γ n b (omega arith)) (ap (S.times _) (one_here Z n b q) ∙ Z.times_one _)
          ∙ Z.plus_zero _
          ∙ ap γ (uses_length S n ∙ sym q)
      go ih false e =
          let q : ¬ (b ≡ n) = eqb-false b n e in
          ap₂ S.plus (ih (omega arith)) (ap (S.times _) (one_else Z n b q) ∙ Z.times_zero _)
          ∙ plus_zero' Z _

  serves : (legs : List Leg) → LegsAllowed S R legs → (i : ℕ) → i < length legs → Serve S R (leg_at no_leg legs i) (at (no_meaning L) (meanings L legs) i)
  serves [] al i lt = absurd (omega arith)
  serves (leg ∷ legs) al i lt =
      let ih = serves legs al.1 in
      let this : Meaning = record { binder = leg.first; does = eval L (meanings L legs) leg.body } in
      subst (λ n. Serve S R (leg_at no_leg (leg ∷ legs) i) (cond (eqb i n) this (at (no_meaning L) (meanings L legs) i))) (sym (meanings_length L legs))
      (go this (
        refl,
        al.0.0,
        al.0.2,
        λ σ Vs m len sc.
            eval_costs Z R L legs (meanings L legs) ih leg.body al.0.0 σ Vs m
            (subst (λ n. Graded S R legs n leg.body al.0.0) (sym len) al.0.1) sc,
      )
      (ih i) (eqb i (length legs)) refl)
    where
      go : (this : Meaning) → Serve S R leg this → (i < length legs → Serve S R (leg_at no_leg legs i) (at (no_meaning L) (meanings L legs) i))
          → (x : Bool) → eqb i (length legs) ≡ x → Serve S R (cond x leg (leg_at no_leg legs i)) (cond x this (at (no_meaning L) (meanings L legs) i))
      go this h ih true e = h
      go this h ih false e = ih (let q : ¬ (i ≡ length legs) = eqb-false i (length legs) e in omega arith)

  flown : (main : Leg) (legs : List Leg) → LegsAllowed S R (main ∷ legs) → (r : Readings)
      → (γ : ℕ → G) × ((i : ℕ) → i < arity main → Leq S (γ i) (R (main.first + i)))
      × After S R (total S γ (store_uses S (arity main))) (stores_log main.first (arity main)) (arity main) (fly_main L main legs r)
  flown main legs al r = (
    al.0.0,
    al.0.2,
    (eval_costs Z R L legs (meanings L legs) (serves legs al.1) main.body al.0.0 (stores L main.first (arity main))
        (store_uses S (arity main)) (arity main)
        (subst (λ n. Graded S R legs n main.body al.0.0) (sym (uses_length S (arity main))) al.0.1)
        (stores_scoped main.first (arity main) (arity main) (le_refl _))
        ).does 1 (start main.first (arity main) r) (le_refl _),
  )

  at_last : (main : Leg) (γ : ℕ → G) → ((i : ℕ) → i < arity main → Leq S (γ i) (R (main.first + i))) → (s : State)
      → Good S R (total S γ (store_uses S (arity main))) (stores_log main.first (arity main)) (arity main) s
      → (k b : ℕ) → Made k b s.log → Leq S (ones S (lookups b s.log)) (R k)
  at_last main γ up s g k b h =
      leq_from Z _ _ _
      (ap (λ l. ones S (lookups b l)) g.log_is
      ∙ ap (ones S) (lookups_append b (stores_log main.first (arity main)) g.new
      ∙ ap (λ x. x + lookups b g.new) (stores_unread main.first (arity main) b) ∙ zero-add _))
      (go (made_append k b (stores_log main.first (arity main)) g.new (subst (Made k b) g.log_is h)))
    where
      go : Made k b (stores_log main.first (arity main)) ⊎ Made k b g.new → Leq S (ones S (lookups b g.new)) (R k)
      go (inl x) =
          let r = stores_made main.first (arity main) k b x in
          Z.leq_trans _ _ _ (leq_to Z _ _ _ (g.old b r.1) (stores_total γ (arity main) b r.1))
          (subst (λ i. Leq S (γ b) (R i)) (sym r.0) (up b r.1))
      go (inr y) = g.fresh k b y

  pub legs_within : (gs : List Leg) → LegsAllowed S R gs → (r : Readings) (v : Value) (s : State) → fly_legs L gs r ≡ value v s → WithinGrades S R s.log
  legs_within [] al r v s e = λ k b h. absurd (subst (Made k b) (go (L.unmet a_leg) e) h)
    where
      go : (o : Option Ending) → gate o (start 0 0 r) (λ s. value v_unit s) ≡ value v s → s.log ≡ []
      go (some x) q = apart cc
      go none q = sym (ap (λ o. (state_at o).log) q)
  legs_within (main ∷ legs) al r v s e =
      let f = flown main legs al r in
      at_last main f.0 f.1 s
      (subst (After S R (total S f.0 (store_uses S (arity main))) (stores_log main.first (arity main)) (arity main)) e f.2)

-- the legs in the order of grading are those in the order of flights
turned_is : (below gs : List Leg) → turned below gs ≡ reverse_aux gs below
turned_is below [] = refl
turned_is below (g ∷ gs) = turned_is (g ∷ below) gs

pub same_order : (p : Plan) → last_first p ≡ reverse p.legs
same_order p = turned_is [] p.legs

pub keeps_within : {G : Type 0} {S : Ops G} → Laws S → KeepsWithin S
keeps_within {G} {S} Z L p R al r v s e = legs_within Z R L (reverse p.legs) (subst (LegsAllowed S R) (same_order p) al) r v s e

pub one_is_once : {G : Type 0} {S : Ops G} → Laws S → ExactlyOne S → OneIsOnce S
one_is_once Z exact = record { once = λ L p R al r v s e k b h q. exact _ (leq_to Z _ _ _ (keeps_within Z L p R al r v s e k b h) q) }
