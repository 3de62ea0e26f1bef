-- What an evaluation looks up, as a bound for each binding. Assumes nothing.
use Rattle.std.proofs.Common.{◌≡◌, ℕ, suc, ◌+◌, ◌<◌, ◌≤◌, cond, ◌⊎◌, List, [], ◌∷◌, ◌++◌, sym, refl, ap, ◌∙◌, subst, ap₂, inl, inr, append_assoc, append-nil, le_trans, le_refl, arith}
use mathlib.Core.Option.{Option, some, none}
use Rattle.std.proofs.lemmas.Bool.{ne_eqb}
use Rattle.scales.specs.Laws.{Ops, Laws, ones}
use Rattle.evaluation.specs.Flight.{Entry, made, lookup, lookups, Ending, State, Out, ended, value, Value, Comp, Scope, gate, and_then}
use Rattle.evaluation.proofs.Steps.{apart}
use Rattle.evaluation.proofs.Bounded.{lookups_append}
use Rattle.grading.specs.Grading.{Leq, one_of}
use Rattle.grading.proofs.AtMost.{plus_both}
use Rattle.accounting.specs.Accounting.{Made}
use Rattle.accounting.proofs.Sums.{plus_zero', leq_from, leq_to, ones_append, ones_lookup}

-- From the log l and n bindings made, to the state s: a binding b of before is looked up at most u b times, and each new one as its
-- binder's grade allows.
pub record Good {G : Type 0} (S : Ops G) (R : ℕ → G) (u : ℕ → G) (l : List Entry) (n : ℕ) (s : State) : Type 0 where
  pub new : List Entry
  pub log_is : s.log ≡ l ++ new
  pub grows : n ≤ s.next
  pub old : (b : ℕ) → b < n → Leq S (ones S (lookups b new)) (u b)
  pub later : (b : ℕ) → s.next ≤ b → lookups b new ≡ 0
  pub from : (k b : ℕ) → Made k b new → (n ≤ b) × (b < s.next)
  pub fresh : (k b : ℕ) → Made k b new → Leq S (ones S (lookups b new)) (R k)

abbrev pub After : {G : Type 0} → Ops G → (ℕ → G) → (ℕ → G) → List Entry → ℕ → Out → Type 0
After S R u l n (ended e s) = Unit {0}
After S R u l n (value v s) = Good S R u l n s

-- none from m on
abbrev pub Ends : {G : Type 0} → Ops G → ℕ → (ℕ → G) → Type 0
Ends S m u = (b : ℕ) → m ≤ b → u b ≡ S.zero

-- The evaluation, begun when at least m bindings were made, has the usage u.
pub record Costs {G : Type 0} (S : Ops G) (R : ℕ → G) (m : ℕ) (u : ℕ → G) (c : Comp) : Type 0 where
  pub ends : Ends S m u
  pub does : (d : ℕ) (s : State) → m ≤ s.next → After S R u s.log s.next (c d s)

abbrev pub Scoped : {G : Type 0} → Ops G → (ℕ → G) → ℕ → Scope → List (ℕ → G) → Type 0
Scoped S R m [] [] = Unit {0}
Scoped S R m [] (U ∷ Us) = ⊥
Scoped S R m (c ∷ ρ) [] = ⊥
Scoped S R m (c ∷ ρ) (U ∷ Us) = Costs S R m U c × Scoped S R m ρ Us

pub made_append : (k b : ℕ) (l m : List Entry) → Made k b (l ++ m) → Made k b l ⊎ Made k b m
made_append k b [] m h = inr h
made_append k b (e ∷ l) m (inl p) = inl (inl p)
made_append k b (e ∷ l) m (inr h) = elim (made_append k b l m h) [ inl x ↦ inl (inr x) | inr y ↦ inr y ]

module _ {G : Type 0} {S : Ops G} (Z : Laws S) (R : ℕ → G) where
  pub gate_good : (u : ℕ → G) (l : List Entry) (n : ℕ) (o : Option Ending) (s : State) (k : State → Out)
      → After S R u l n (k s) → After S R u l n (gate o s k)
  gate_good u l n (some e) s k h = tt
  gate_good u l n none s k h = h

  pub weaken : (u w : ℕ → G) (l : List Entry) (n : ℕ) (o : Out) → ((b : ℕ) → b < n → Leq S (u b) (w b))
      → After S R u l n o → After S R w l n o
  weaken u w l n (ended e s) le h = tt
  weaken u w l n (value v s) le h = record {
    new = h.new;
    log_is = h.log_is;
    grows = h.grows;
    old = λ b k. Z.leq_trans _ _ _ (h.old b k) (le b k);
    later = h.later;
    from = h.from;
    fresh = h.fresh;
  }

  -- nothing is looked up
  pub still : (u : ℕ → G) (v : Value) (s : State) → ((b : ℕ) → Leq S S.zero (u b)) → After S R u s.log s.next (value v s)
  still u v s h = record {
    new = [];
    log_is = sym (append-nil s.log);
    grows = le_refl _;
    old = λ b k. h b;
    later = λ b k. refl;
    from = λ k b x. absurd x;
    fresh = λ k b x. absurd x;
  }

  glue : (u w : ℕ → G) (l : List Entry) (n : ℕ) (s : State) (o : Out) → Good S R u l n s → Ends S n w
      → After S R w s.log s.next o → After S R (λ b. S.plus (u b) (w b)) l n o
  glue u w l n s (ended e t) g z h = tt
  glue u w l n s (value v t) g z h = record {
    new = g.new ++ h.new;
    log_is = h.log_is ∙ ap (λ x. x ++ h.new) g.log_is ∙ append_assoc l g.new h.new;
    grows = le_trans g.grows h.grows;
    old = λ b k. leq_from Z _ _ _ (ones_append Z b g.new h.new)
        (plus_both Z (g.old b k) (h.old b (le_trans k g.grows)));
    later = λ b k. lookups_append b g.new h.new ∙ ap₂ ◌+◌ (g.later b (le_trans h.grows k)) (h.later b k);
    from = λ k b x. elim (made_append k b g.new h.new x) [
      | inl y ↦ ((g.from k b y).0, le_trans (g.from k b y).1 h.grows)
      | inr y ↦ (le_trans g.grows (h.from k b y).0, (h.from k b y).1)
    ];
    fresh = λ k b x. leq_from Z _ _ _ (ones_append Z b g.new h.new) (elim (made_append k b g.new h.new x) [
      | inl y ↦ leq_to Z _ _ _
          (plus_both Z (g.fresh k b y) (leq_to Z _ _ _ (h.old b (g.from k b y).1) (z b (g.from k b y).0)))
          (plus_zero' Z (R k))
      | inr y ↦ leq_from Z _ _ _
          (ap (λ x. S.plus (ones S x) (ones S (lookups b h.new))) (g.later b (h.from k b y).0) ∙ Z.plus_zero _)
          (h.fresh k b y)
    ]);
  }

  pub seq : (u w : ℕ → G) (l : List Entry) (n : ℕ) (o : Out) (k : Value → State → Out) → After S R u l n o → Ends S n w
      → ((v : Value) (s : State) → n ≤ s.next → After S R w s.log s.next (k v s))
      → After S R (λ b. S.plus (u b) (w b)) l n (and_then o k)
  seq u w l n (ended e s) k g z h = tt
  seq u w l n (value v s) k g z h = glue u w l n s (k v s) g z (h v s g.grows)

  -- a new binding, n, of the binder k
  pub making : (k : ℕ) (u w : ℕ → G) (l : List Entry) (n : ℕ) (o : Out) → Leq S (w n) (R k)
      → ((b : ℕ) → b < n → Leq S (w b) (u b)) → After S R w (l ++ (made k n ∷ [])) (suc n) o → After S R u l n o
  making k u w l n (ended e s) a le h = tt
  making k u w l n (value v s) a le h = record {
    new = made k n ∷ h.new;
    log_is = h.log_is ∙ append_assoc l (made k n ∷ []) h.new;
    grows = le_trans (omega arith) h.grows;
    old = λ b lt. Z.leq_trans _ _ _ (h.old b (omega arith)) (le b lt);
    later = h.later;
    from = λ j b x. elim x [
      | inl p ↦ (let q : n ≡ b = cc in let r = h.grows in (omega arith, omega arith))
      | inr y ↦ (let r = h.from j b y in (omega arith, omega arith))
    ];
    fresh = λ j b x. elim x [
      | inl p ↦ let q : n ≡ b = cc in let r : k ≡ j = cc in
          subst (λ i. Leq S (ones S (lookups b h.new)) (R i)) r
          (Z.leq_trans _ _ _ (h.old b (omega arith)) (subst (λ i. Leq S (w i) (R k)) q a))
      | inr y ↦ h.fresh j b y
    ];
  }

  -- a lookup of the binding c of the binder k
  pub looking : (k c : ℕ) (u w : ℕ → G) (l : List Entry) (n : ℕ) (o : Out) → c < n
      → ((b : ℕ) → b < n → Leq S (S.plus (one_of S c b) (w b)) (u b)) → After S R w (l ++ (lookup k c ∷ [])) n o → After S R u l n o
  looking k c u w l n (ended e s) lt le h = tt
  looking k c u w l n (value v s) lt le h = record {
    new = lookup k c ∷ h.new;
    log_is = h.log_is ∙ append_assoc l (lookup k c ∷ []) h.new;
    grows = h.grows;
    old = λ b m. leq_from Z _ _ _ (ones_lookup Z b k c h.new)
        (Z.leq_trans _ _ _ (plus_both Z (Z.leq_refl _) (h.old b m)) (le b m));
    later = λ b m. let g = h.grows in
        ap (λ x. cond x (suc (lookups b h.new)) (lookups b h.new)) (ne_eqb b c (omega arith)) ∙ h.later b m;
    from = λ j b x. elim x [ inl p ↦ apart cc | inr y ↦ h.from j b y ];
    fresh = λ j b x. elim x [
      | inl p ↦ apart cc
      | inr y ↦ let r = (h.from j b y).0 in
          leq_from Z _ _ _ (ap (λ x. ones S (cond x (suc (lookups b h.new)) (lookups b h.new))) (ne_eqb b c (omega arith)))
          (h.fresh j b y)
    ];
  }
