-- The least grades lie at or below those of each allowed grading. Assumes nothing.
use Rattle.std.proofs.Common.{◌≡◌, ℕ, suc, ◌+◌, ◌<◌, List, [], ◌∷◌, length, sym, ◌∙◌, subst, add-zero, zero-add, arith}
use Rattle.scales.specs.Laws.{Ops, Laws}
use Rattle.scales.proofs.RowTheorems.{plus_mono_r}
use Rattle.plan.specs.Trees.{Term, t_unit, t_number, t_name, t_let, t_take, t_pair, t_split, t_left, t_right, t_case, t_call, t_add, t_less, Terms, t_none, t_more, how_many, Leg}
use Rattle.grading.specs.Grading.{at, no_leg, arity, Leq, Above, Graded, Arguments, LegsAllowed}
use Rattle.grading.specs.Least.{need, needs, leg_needs}
use Rattle.grading.proofs.Binders.{Binders, AllBinders, Params, EachBinder, params_at}

module _ {G : Type 0} {o : Ops G} (L : Laws o) where
  pub plus_both : {a b c d : G} → Leq o a b → Leq o c d → Leq o (o.plus a c) (o.plus b d)
  plus_both {a} {b} {c} {d} h k = L.leq_trans _ _ _ (L.plus_mono a b c h) (plus_mono_r L c d b k)

  pub times_both : {a b c d : G} → Leq o a b → Leq o c d → Leq o (o.times a c) (o.times b d)
  times_both {a} {b} {c} {d} h k = L.leq_trans _ _ _ (L.times_mono_l a b c h) (L.times_mono_r c d b k)

  pub join_both : {a b c d : G} → Leq o a b → Leq o c d → Leq o (o.join a c) (o.join b d)
  join_both {a} {b} {c} {d} h k =
      L.join_least _ _ _ (L.leq_trans _ _ _ h (L.join_l b d)) (L.leq_trans _ _ _ k (L.join_r b d))

  -- a sum of two parts that lie below, and a grade above their sum
  sum_under : {a b c d : G} (e : G) → Leq o a b → Leq o c d → Leq o (o.plus b d) e → Leq o (o.plus a c) e
  sum_under e h k s = L.leq_trans _ _ _ (plus_both h k) s

-- at or below R's grade for the binder
abbrev pub Under : {G : Type 0} → Ops G → (ℕ → G) → ℕ → G → Type 0
Under o R k g = Leq o g (R k)

module _ {G : Type 0} {o : Ops G} (L : Laws o) (R : ℕ → G) (legs : List Leg) (Γ : List (ℕ → G))
    (under : (i : ℕ) → i < length legs → Params (Under o R) (at no_leg legs i) (at (λ j. o.zero) Γ i)) where
  mutual
    pub need_least : (t : Term) (n : ℕ) (γ : ℕ → G) → Graded o R legs n t γ → Above o n (need o Γ t n) γ
    need_least t_unit n γ g l lt = g l lt
    need_least (t_number v) n γ g l lt = g l lt
    need_least (t_name j) n γ g l lt = g.1 l lt
    need_least (t_let k a b) n γ g l lt =
        sum_under L (γ l) (times_both L (L.leq_trans _ _ _ (need_least b (suc n) g.1 g.3 n (omega arith)) g.4) (need_least a n g.0 g.2 l lt))
        (need_least b (suc n) g.1 g.3 l (omega arith)) (g.5 l lt)
    need_least (t_take k a b) n γ g l lt =
        sum_under L (γ l) (need_least a n g.0 g.2 l lt) (need_least b (suc n) g.1 g.3 l (omega arith)) (g.5 l lt)
    need_least (t_pair a b) n γ g l lt = sum_under L (γ l) (need_least a n g.0 g.2 l lt) (need_least b n g.1 g.3 l lt) (g.4 l lt)
    need_least (t_split k a b) n γ g l lt =
        sum_under L (γ l) (need_least a n g.0 g.2 l lt) (need_least b (suc (suc n)) g.1 g.3 l (omega arith)) (g.6 l lt)
    need_least (t_left y a) n γ g l lt = need_least a n γ g l lt
    need_least (t_right y a) n γ g l lt = need_least a n γ g l lt
    need_least (t_case k a b c) n γ g l lt =
        sum_under L (γ l) (need_least a n g.0 g.3 l lt)
        (join_both L (need_least b (suc n) g.1 g.4 l (omega arith)) (need_least c (suc n) g.2 g.5 l (omega arith))) (g.8 l lt)
    need_least (t_call i ts) n γ g l lt =
        needs_least ts n γ (at (λ j. o.zero) Γ i) (at no_leg legs i).first 0 (at no_leg legs i).first (arity (at no_leg legs i))
        (sym (add-zero _)) (zero-add _ ∙ g.1) (under i g.0) g.2 l lt
    need_least (t_add a b) n γ g l lt = sum_under L (γ l) (need_least a n g.0 g.2 l lt) (need_least b n g.1 g.3 l lt) (g.4 l lt)
    need_least (t_less a b) n γ g l lt = sum_under L (γ l) (need_least a n g.0 g.2 l lt) (need_least b n g.1 g.3 l lt) (g.4 l lt)

    needs_least : (ts : Terms) (n : ℕ) (γ : ℕ → G) (r : ℕ → G) (k j f p : ℕ) → k ≡ f + j → j + how_many ts ≡ p
        → ((j : ℕ) → j < p → Under o R (f + j) (r j)) → Arguments o R legs n ts k γ → Above o n (needs o Γ ts r j n) γ
    needs_least t_none n γ r k j f p e q u g l lt = g l lt
    needs_least (t_more a ts) n γ r k j f p e q u g l lt =
        sum_under L (γ l) (times_both L (subst (λ i. Under o R i (r j)) (sym e) (u j (omega arith))) (need_least a n g.0 g.2 l lt))
        (needs_least ts n g.1 r (suc k) (suc j) f p (omega arith) (omega arith) u g.3 l lt) (g.4 l lt)

  -- the body's least grade at a level lies at or below the grade of the binder there
  bound_least : (t : Term) (n l k : ℕ) (γ : ℕ → G) → l < n → Graded o R legs n t γ → Leq o (γ l) (R k) → Under o R k (need o Γ t n l)
  bound_least t n l k γ lt g h = L.leq_trans _ _ _ (need_least t n γ g l lt) h

  mutual
    pub binders_least : (t : Term) (n : ℕ) (γ : ℕ → G) → Graded o R legs n t γ → Binders o Γ (Under o R) t n
    binders_least t_unit n γ g = tt
    binders_least (t_number v) n γ g = tt
    binders_least (t_name j) n γ g = tt
    binders_least (t_let k a b) n γ g =
        (bound_least b (suc n) n k g.1 (omega arith) g.3 g.4, binders_least a n g.0 g.2, binders_least b (suc n) g.1 g.3)
    binders_least (t_take k a b) n γ g =
        (bound_least b (suc n) n k g.1 (omega arith) g.3 g.4, binders_least a n g.0 g.2, binders_least b (suc n) g.1 g.3)
    binders_least (t_pair a b) n γ g = (binders_least a n g.0 g.2, binders_least b n g.1 g.3)
    binders_least (t_split k a b) n γ g = (
      bound_least b (suc (suc n)) n k g.1 (omega arith) g.3 g.4,
      bound_least b (suc (suc n)) (suc n) (suc k) g.1 (omega arith) g.3 g.5,
      binders_least a n g.0 g.2,
      binders_least b (suc (suc n)) g.1 g.3,
    )
    binders_least (t_left y a) n γ g = binders_least a n γ g
    binders_least (t_right y a) n γ g = binders_least a n γ g
    binders_least (t_case k a b c) n γ g = (
      bound_least b (suc n) n k g.1 (omega arith) g.4 g.6,
      bound_least c (suc n) n (suc k) g.2 (omega arith) g.5 g.7,
      binders_least a n g.0 g.3,
      binders_least b (suc n) g.1 g.4,
      binders_least c (suc n) g.2 g.5,
    )
    binders_least (t_call i ts) n γ g = all_least ts n (at no_leg legs i).first γ g.2
    binders_least (t_add a b) n γ g = (binders_least a n g.0 g.2, binders_least b n g.1 g.3)
    binders_least (t_less a b) n γ g = (binders_least a n g.0 g.2, binders_least b n g.1 g.3)

    all_least : (ts : Terms) (n k : ℕ) (γ : ℕ → G) → Arguments o R legs n ts k γ → AllBinders o Γ (Under o R) ts n
    all_least t_none n k γ g = tt
    all_least (t_more a ts) n k γ g = (binders_least a n g.0 g.2, all_least ts n (suc k) g.1 g.3)

module _ {G : Type 0} {o : Ops G} (L : Laws o) (R : ℕ → G) where
  pub legs_least : (legs : List Leg) → LegsAllowed o R legs → EachBinder o (Under o R) legs
  legs_least [] al = tt
  legs_least (g ∷ legs) al =
      let ih = legs_least legs al.1 in
      let u = params_at o (Under o R) legs ih in (
        (λ i lt. L.leq_trans _ _ _ (need_least L R legs (leg_needs o legs) u g.body (arity g) al.0.0 al.0.1 i lt) (al.0.2 i lt)),
        binders_least L R legs (leg_needs o legs) u g.body (arity g) al.0.0 al.0.1,
        ih,
      )

  pub nodes_least : (legs : List Leg) → LegsAllowed o R legs → (n : ℕ) (t : Term) (γ : ℕ → G) → Graded o R legs n t γ → Above o n (need o (leg_needs o legs) t n) γ
  nodes_least legs al n t γ g = need_least L R legs (leg_needs o legs) (params_at o (Under o R) legs (legs_least legs al)) t n γ g
