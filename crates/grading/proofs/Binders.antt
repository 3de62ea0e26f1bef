-- A relation between each binder and its least grade. Assumes nothing.
use Rattle.std.proofs.Common.{◌≡◌, ℕ, suc, ◌+◌, ◌<◌, Bool, true, false, cond, eqb, List, [], ◌∷◌, length, sym, refl, ap, subst, arith}
use Rattle.std.proofs.lemmas.Bool.{eqb-false}
use Rattle.scales.specs.Laws.{Ops}
use Rattle.plan.specs.Trees.{Term, t_unit, t_number, t_name, t_let, t_take, t_pair, t_split, t_left, t_right, t_case, t_call, t_add, t_less, Terms, t_none, t_more, Leg}
use Rattle.grading.specs.Grading.{at, no_leg, arity}
use Rattle.grading.specs.Least.{need, param_needs, leg_needs}

-- `Binders o Γ P t n`: each binder of t stands in the relation P to the least grade that its body has at its level.
abbrev mutual
  pub Binders : {G : Type 0} → Ops G → List (ℕ → G) → (ℕ → G → Type 0) → Term → ℕ → Type 0
  Binders o Γ P t_unit n = Unit {0}
  Binders o Γ P (t_number v) n = Unit {0}
  Binders o Γ P (t_name j) n = Unit {0}
  Binders o Γ P (t_let k a b) n = P k (need o Γ b (suc n) n) × Binders o Γ P a n × Binders o Γ P b (suc n)
  Binders o Γ P (t_take k a b) n = P k (need o Γ b (suc n) n) × Binders o Γ P a n × Binders o Γ P b (suc n)
  Binders o Γ P (t_pair a b) n = Binders o Γ P a n × Binders o Γ P b n
  Binders o Γ P (t_split k a b) n =
      P k (need o Γ b (suc (suc n)) n) × P (suc k) (need o Γ b (suc (suc n)) (suc n)) × Binders o Γ P a n × Binders o Γ P b (suc (suc n))
  Binders o Γ P (t_left y a) n = Binders o Γ P a n
  Binders o Γ P (t_right y a) n = Binders o Γ P a n
  Binders o Γ P (t_case k a b c) n =
      P k (need o Γ b (suc n) n) × P (suc k) (need o Γ c (suc n) n) × Binders o Γ P a n × Binders o Γ P b (suc n) × Binders o Γ P c (suc n)
  Binders o Γ P (t_call i ts) n = AllBinders o Γ P ts n
  Binders o Γ P (t_add a b) n = Binders o Γ P a n × Binders o Γ P b n
  Binders o Γ P (t_less a b) n = Binders o Γ P a n × Binders o Γ P b n

  pub AllBinders : {G : Type 0} → Ops G → List (ℕ → G) → (ℕ → G → Type 0) → Terms → ℕ → Type 0
  AllBinders o Γ P t_none n = Unit {0}
  AllBinders o Γ P (t_more a ts) n = Binders o Γ P a n × AllBinders o Γ P ts n

-- a leg's parameters stand so to the grades r
abbrev pub Params : {G : Type 0} → (ℕ → G → Type 0) → Leg → (ℕ → G) → Type 0
Params P g r = (j : ℕ) → j < arity g → P (g.first + j) (r j)

-- every binder of the legs, parameters too
abbrev pub EachBinder : {G : Type 0} → Ops G → (ℕ → G → Type 0) → List Leg → Type 0
EachBinder o P [] = Unit {0}
EachBinder o P (g ∷ legs) =
    Params P g (param_needs o (leg_needs o legs) g) × Binders o (leg_needs o legs) P g.body (arity g) × EachBinder o P legs

pub needs_length : {G : Type 0} (o : Ops G) (legs : List Leg) → length (leg_needs o legs) ≡ length legs
needs_length o [] = refl
needs_length o (g ∷ legs) = ap suc (needs_length o legs)

-- so does the leg with any number
pub params_at : {G : Type 0} (o : Ops G) (P : ℕ → G → Type 0) (legs : List Leg) → EachBinder o P legs
    → (i : ℕ) → i < length legs → Params P (at no_leg legs i) (at (λ j. o.zero) (leg_needs o legs) i)
params_at o P [] h i lt = absurd (omega arith)
params_at {G} o P (g ∷ legs) h i lt =
    let this : ℕ → G = param_needs o (leg_needs o legs) g in
    subst (λ n. Params P (at no_leg (g ∷ legs) i) (cond (eqb i n) this (at (λ j. o.zero) (leg_needs o legs) i))) (sym (needs_length o legs))
    (go this h.0 (params_at o P legs h.2 i) (eqb i (length legs)) refl)
  where
    go : (this : ℕ → G) → Params P g this → (i < length legs → Params P (at no_leg legs i) (at (λ j. o.zero) (leg_needs o legs) i))
        → (x : Bool) → eqb i (length legs) ≡ x → Params P (cond x g (at no_leg legs i)) (cond x this (at (λ j. o.zero) (leg_needs o legs) i))
    go this u ih true e = u
    go this u ih false e = ih (let q : ¬ (i ≡ length legs) = eqb-false i (length legs) e in omega arith)
