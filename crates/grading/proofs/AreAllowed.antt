-- A grading that gives each binder its least grade is allowed. Assumes nothing.
use Rattle.std.proofs.Common.{◌≡◌, ℕ, suc, ◌+◌, ◌<◌, List, [], ◌∷◌, length, sym, ap, ◌∙◌, subst, add-zero, zero-add, arith}
use Rattle.scales.specs.Laws.{Ops, Laws}
use Rattle.plan.specs.Trees.{Term, t_unit, t_number, t_name, t_let, t_take, t_pair, t_split, t_left, t_right, t_case, t_call, t_add, t_less, Terms, t_none, t_more, how_many, Leg}
use Rattle.grading.specs.Grading.{at, no_leg, arity, Leq, Above, Graded, Arguments, LegsAllowed}
use Rattle.grading.specs.Least.{need, needs, param_needs, leg_needs}
use Rattle.grading.specs.Nodes.{EveryNode, EveryArgument}
use Rattle.grading.specs.Laws.{ContextsAllowed}
use Rattle.grading.proofs.Binders.{Binders, AllBinders, Params, EachBinder, params_at}
use Rattle.grading.proofs.Formed.{Formed, AllFormed, LegsFormed}

-- R has the grade for the binder
abbrev pub Has : {G : Type 0} → (ℕ → G) → ℕ → G → Type 0
Has R k g = R k ≡ g

module _ {G : Type 0} {o : Ops G} (L : Laws o) where
  is_leq : {a b : G} → a ≡ b → Leq o b a
  is_leq {a} {b} p = subst (λ (x : G). Leq o x a) p (L.leq_refl a)

  scaled_leq : {r s : G} (x y : G) → r ≡ s → Leq o (o.plus (o.times r x) y) (o.plus (o.times s x) y)
  scaled_leq {r} {s} x y p = is_leq (ap (λ (q : G). o.plus (o.times q x) y) (sym p))

module _ {G : Type 0} {o : Ops G} (L : Laws o) (R : ℕ → G) (legs : List Leg) (Γ : List (ℕ → G))
    (has : (i : ℕ) → i < length legs → Params (Has R) (at no_leg legs i) (at (λ j. o.zero) Γ i)) where
  itself : (n : ℕ) (γ : ℕ → G) → Above o n γ γ
  itself n γ l lt = L.leq_refl (γ l)

  mutual
    pub need_graded : (t : Term) (n : ℕ) → Formed legs t n → Binders o Γ (Has R) t n → Graded o R legs n t (need o Γ t n)
    need_graded t_unit n f h = itself n (need o Γ t_unit n)
    need_graded (t_number v) n f h = itself n (need o Γ (t_number v) n)
    need_graded (t_name j) n f h = (f, itself n (need o Γ (t_name j) n))
    need_graded (t_let k a b) n f h =
        (need o Γ a n, need o Γ b (suc n), need_graded a n f.0 h.1, need_graded b (suc n) f.1 h.2, is_leq L h.0, λ l lt. scaled_leq L _ _ h.0)
    need_graded (t_take k a b) n f h =
        (need o Γ a n, need o Γ b (suc n), need_graded a n f.0 h.1, need_graded b (suc n) f.1 h.2, is_leq L h.0, itself n (need o Γ (t_take k a b) n))
    need_graded (t_pair a b) n f h = (need o Γ a n, need o Γ b n, need_graded a n f.0 h.0, need_graded b n f.1 h.1, itself n (need o Γ (t_pair a b) n))
    need_graded (t_split k a b) n f h = (
      need o Γ a n,
      need o Γ b (suc (suc n)),
      need_graded a n f.0 h.2,
      need_graded b (suc (suc n)) f.1 h.3,
      is_leq L h.0,
      is_leq L h.1,
      itself n (need o Γ (t_split k a b) n),
    )
    need_graded (t_left y a) n f h = need_graded a n f h
    need_graded (t_right y a) n f h = need_graded a n f h
    need_graded (t_case k a b c) n f h = (
      need o Γ a n,
      need o Γ b (suc n),
      need o Γ c (suc n),
      need_graded a n f.0 h.2,
      need_graded b (suc n) f.1 h.3,
      need_graded c (suc n) f.2 h.4,
      is_leq L h.0,
      is_leq L h.1,
      itself n (need o Γ (t_case k a b c) n),
    )
    need_graded (t_call i ts) n f h = (
      f.0,
      f.1,
      needs_graded ts n (at (λ j. o.zero) Γ i) (at no_leg legs i).first 0 (at no_leg legs i).first (arity (at no_leg legs i))
          (sym (add-zero _)) (zero-add _ ∙ f.1) (has i f.0) f.2 h,
    )
    need_graded (t_add a b) n f h = (need o Γ a n, need o Γ b n, need_graded a n f.0 h.0, need_graded b n f.1 h.1, itself n (need o Γ (t_add a b) n))
    need_graded (t_less a b) n f h = (need o Γ a n, need o Γ b n, need_graded a n f.0 h.0, need_graded b n f.1 h.1, itself n (need o Γ (t_less a b) n))

    needs_graded : (ts : Terms) (n : ℕ) (r : ℕ → G) (k j f p : ℕ) → k ≡ f + j → j + how_many ts ≡ p → ((j : ℕ) → j < p → Has R (f + j) (r j))
        → AllFormed legs ts n → AllBinders o Γ (Has R) ts n → Arguments o R legs n ts k (needs o Γ ts r j n)
    needs_graded t_none n r k j f p e q u fs h = λ l lt. L.leq_refl o.zero
    needs_graded (t_more a ts) n r k j f p e q u fs h = (
      need o Γ a n,
      needs o Γ ts r (suc j) n,
      need_graded a n fs.0 h.0,
      needs_graded ts n r (suc k) (suc j) f p (omega arith) (omega arith) u fs.1 h.1,
      λ l lt. scaled_leq L _ _ (ap R e ∙ u j (omega arith)),
    )

  -- the same at every node
  abbrev Allows : Term → ℕ → Type 0
  Allows t n = Graded o R legs n t (need o Γ t n)

  mutual
    pub nodes_graded : (t : Term) (n : ℕ) → Formed legs t n → Binders o Γ (Has R) t n → EveryNode Allows t n
    nodes_graded t_unit n f h = need_graded t_unit n f h
    nodes_graded (t_number v) n f h = need_graded (t_number v) n f h
    nodes_graded (t_name j) n f h = need_graded (t_name j) n f h
    nodes_graded (t_let k a b) n f h = (need_graded (t_let k a b) n f h, nodes_graded a n f.0 h.1, nodes_graded b (suc n) f.1 h.2)
    nodes_graded (t_take k a b) n f h = (need_graded (t_take k a b) n f h, nodes_graded a n f.0 h.1, nodes_graded b (suc n) f.1 h.2)
    nodes_graded (t_pair a b) n f h = (need_graded (t_pair a b) n f h, nodes_graded a n f.0 h.0, nodes_graded b n f.1 h.1)
    nodes_graded (t_split k a b) n f h = (need_graded (t_split k a b) n f h, nodes_graded a n f.0 h.2, nodes_graded b (suc (suc n)) f.1 h.3)
    nodes_graded (t_left y a) n f h = (need_graded a n f h, nodes_graded a n f h)
    nodes_graded (t_right y a) n f h = (need_graded a n f h, nodes_graded a n f h)
    nodes_graded (t_case k a b c) n f h =
        (need_graded (t_case k a b c) n f h, nodes_graded a n f.0 h.2, nodes_graded b (suc n) f.1 h.3, nodes_graded c (suc n) f.2 h.4)
    nodes_graded (t_call i ts) n f h = (need_graded (t_call i ts) n f h, all_graded ts n f.2 h)
    nodes_graded (t_add a b) n f h = (need_graded (t_add a b) n f h, nodes_graded a n f.0 h.0, nodes_graded b n f.1 h.1)
    nodes_graded (t_less a b) n f h = (need_graded (t_less a b) n f h, nodes_graded a n f.0 h.0, nodes_graded b n f.1 h.1)

    all_graded : (ts : Terms) (n : ℕ) → AllFormed legs ts n → AllBinders o Γ (Has R) ts n → EveryArgument Allows ts n
    all_graded t_none n f h = tt
    all_graded (t_more a ts) n f h = (nodes_graded a n f.0 h.0, all_graded ts n f.1 h.1)

module _ {G : Type 0} {o : Ops G} (L : Laws o) (R : ℕ → G) where
  pub contexts_allowed : (legs : List Leg) → LegsFormed legs → EachBinder o (Has R) legs → ContextsAllowed o R legs
  contexts_allowed [] f h = tt
  contexts_allowed (g ∷ legs) f h = (
    nodes_graded L R legs (leg_needs o legs) (params_at o (Has R) legs h.2) g.body (arity g) f.0 h.1,
    contexts_allowed legs f.1 h.2,
  )

  pub legs_graded : (legs : List Leg) → LegsFormed legs → EachBinder o (Has R) legs → LegsAllowed o R legs
  legs_graded [] f h = tt
  legs_graded (g ∷ legs) f h = (
    (
      param_needs o (leg_needs o legs) g,
      need_graded L R legs (leg_needs o legs) (params_at o (Has R) legs h.2) g.body (arity g) f.0 h.1,
      λ i lt. is_leq L (h.0 i lt),
    ),
    legs_graded legs f.1 h.2,
  )
