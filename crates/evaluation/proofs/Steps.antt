-- One induction over the trees: a relation between two evaluations that each single step keeps holds between the evaluations of every term. Assumes nothing.
use Rattle.std.proofs.Common.{◌≡◌, ℕ, zero, suc, ◌+◌, ◌<◌, ◌≤◌, Bool, true, false, cond, eqb, List, [], ◌∷◌, length, refl, ap, subst, le_refl, arith}
use Rattle.plan.specs.Trees.{Term, t_unit, t_number, t_name, t_let, t_take, t_pair, t_split, t_left, t_right, t_case, t_call, t_add, t_less, Terms, t_none, t_more, Leg}
use Rattle.evaluation.specs.Flight.{Value, v_unit, v_number, v_pair, v_left, v_right, value, Comp, Scope, at, Need, a_number, a_pair, an_either, a_name, a_leg, Limits, need, and_then, begin, deeper, make, bound, kept, store, either_of, first_of, second_of, sum_of, less_of, both, numbers, absent, Meaning, no_meaning, inside, bind_all, eval, meanings, stores}

-- what follows from two things that differ
pub apart : {A : Type 0} → ◌≡◌ {A = ℕ} 0 1 → A
apart q = absurd (omega arith)

-- The single steps under the limits L and L' keep R; a binding that is made has a number of which Fresh holds.
pub record Steps (L L' : Limits) (Fresh : ℕ → Type 0) (R : Comp → Comp → Type 0) : Type 0 where
  pub gives : (v : Value) → R (kept v) (kept v)
  pub begins : (c f : Comp) → R c f → R (begin L c) (begin L' f)
  pub downs : (c f : Comp) → R c f → R (λ d s. c (suc d) s) (λ d s. f (suc d) s)
  pub thens : (c f : Comp) (c' f' : Value → Comp) → R c f → ((v : Value) → R (c' v) (f' v))
      → R (λ d s. and_then (c d s) (λ v s. c' v d s)) (λ d s. and_then (f d s) (λ v s. f' v d s))
  pub makes : (k : ℕ) (c f : ℕ → Comp) → ((b : ℕ) → Fresh b → R (c b) (f b)) → R (λ d s. make L k s (λ b s. c b d s)) (λ d s. make L' k s (λ b s. f b d s))
  pub looks : (k b : ℕ) (c f : Comp) → Fresh b → R c f → R (bound L k b c) (bound L' k b f)
  pub needs : (q : Need) (c f : Comp) → R c f → R (λ d s. need L q s (λ s. c d s)) (λ d s. need L' q s (λ s. f d s))

abbrev pub Paired : (Comp → Comp → Type 0) → Scope → Scope → Type 0
Paired R [] [] = Unit {0}
Paired R [] (f ∷ σ) = ⊥
Paired R (c ∷ ρ) [] = ⊥
Paired R (c ∷ ρ) (f ∷ σ) = R c f × Paired R ρ σ

abbrev Serves : (Comp → Comp → Type 0) → Meaning → Meaning → Type 0
Serves R m f = (m.binder ≡ f.binder) × ((ρ σ : Scope) → Paired R ρ σ → R (m.does ρ) (f.does σ))

abbrev Serve : (Comp → Comp → Type 0) → List Meaning → List Meaning → Type 0
Serve R [] [] = Unit {0}
Serve R [] (f ∷ N) = ⊥
Serve R (m ∷ M) [] = ⊥
Serve R (m ∷ M) (f ∷ N) = Serves R m f × Serve R M N

module _ (L L' : Limits) (Fresh : ℕ → Type 0) (R : Comp → Comp → Type 0) (S : Steps L L' Fresh R) where
  goes : (c f : Comp) → R c f → R (deeper L c) (deeper L' f)
  goes c f h = S.downs _ _ (S.begins c f h)

  lacks : (q : Need) → R (absent L q) (absent L' q)
  lacks q = S.needs q (kept v_unit) (kept v_unit) (S.gives v_unit)

  two : (c f c' f' : Comp) (k k' : Value → Value → Comp) → R c f → R c' f' → ((v w : Value) → R (k v w) (k' v w))
      → R (λ d s. both L c c' (λ v w s. k v w d s) d s) (λ d s. both L' f f' (λ v w s. k' v w d s) d s)
  two c f c' f' k k' h h' i =
      S.thens (deeper L c) (deeper L' f) (λ v d s. and_then (deeper L c' d s) (λ w s. k v w d s)) (λ v d s. and_then (deeper L' f' d s) (λ w s. k' v w d s)) (goes c f h)
      (λ v. S.thens (deeper L c') (deeper L' f') (k v) (k' v) (goes c' f' h') (i v))

  counts : (op : Value → Value → Value) (v w : Value) → R (λ d s. numbers L op v w s) (λ d s. numbers L' op v w s)
  counts op v w =
      S.needs (a_number v) (λ d s. need L (a_number w) s (λ s. value (op v w) s)) (λ d s. need L' (a_number w) s (λ s. value (op v w) s))
      (S.needs (a_number w) (kept (op v w)) (kept (op v w)) (S.gives (op v w)))

  -- a binding, and the body in the scope with it
  opens : (k : ℕ) (run : Comp) (run' : Comp) (body body' : Comp → Comp) → R run run' → ((c f : Comp) → R c f → R (body c) (body' f))
      → R (λ d s. make L k s (λ b s. deeper L (body (bound L k b run)) d s)) (λ d s. make L' k s (λ b s. deeper L' (body' (bound L' k b run')) d s))
  opens k run run' body body' h i =
      S.makes k (λ b. deeper L (body (bound L k b run))) (λ b. deeper L' (body' (bound L' k b run')))
      (λ b fresh. goes _ _ (i (bound L k b run) (bound L' k b run') (S.looks k b run run' fresh h)))

  chooses : (v : Value) (c c' f f' : Value → Comp) → ((x : Value) → R (c x) (f x)) → ((x : Value) → R (c' x) (f' x))
      → R (λ d s. either_of v (λ x. c x d s) (λ x. c' x d s)) (λ d s. either_of v (λ x. f x d s) (λ x. f' x d s))
  chooses v_unit c c' f f' h i = h v_unit
  chooses (v_number n) c c' f f' h i = h v_unit
  chooses (v_pair v w) c c' f f' h i = h v_unit
  chooses (v_left v) c c' f f' h i = h v
  chooses (v_right v) c c' f f' h i = i v

  same_length : (ρ σ : Scope) → Paired R ρ σ → length ρ ≡ length σ
  same_length [] [] h = refl
  same_length [] (f ∷ σ) h = absurd h
  same_length (c ∷ ρ) [] h = absurd h
  same_length (c ∷ ρ) (f ∷ σ) h = ap suc (same_length ρ σ h.1)

  at_level : (ρ σ : Scope) (l : ℕ) → Paired R ρ σ → R (at (absent L a_name) ρ l) (at (absent L' a_name) σ l)
  at_level [] [] l h = lacks a_name
  at_level [] (f ∷ σ) l h = absurd h
  at_level (c ∷ ρ) [] l h = absurd h
  at_level (c ∷ ρ) (f ∷ σ) l h =
      subst (λ n. R (cond (eqb l (length ρ)) c (at (absent L a_name) ρ l)) (cond (eqb l n) f (at (absent L' a_name) σ l))) (same_length ρ σ h.1)
      (go (eqb l (length ρ)) (at_level ρ σ l h.1))
    where
      go : (b : Bool) → R (at (absent L a_name) ρ l) (at (absent L' a_name) σ l) → R (cond b c (at (absent L a_name) ρ l)) (cond b f (at (absent L' a_name) σ l))
      go true ih = h.0
      go false ih = ih

  same_legs : (M N : List Meaning) → Serve R M N → length M ≡ length N
  same_legs [] [] h = refl
  same_legs [] (f ∷ N) h = absurd h
  same_legs (m ∷ M) [] h = absurd h
  same_legs (m ∷ M) (f ∷ N) h = ap suc (same_legs M N h.1)

  at_leg : (M N : List Meaning) (l : ℕ) → Serve R M N → Serves R (at (no_meaning L) M l) (at (no_meaning L') N l)
  at_leg [] [] l h = (refl, λ ρ σ sc. lacks a_leg)
  at_leg [] (f ∷ N) l h = absurd h
  at_leg (m ∷ M) [] l h = absurd h
  at_leg (m ∷ M) (f ∷ N) l h =
      subst (λ n. Serves R (cond (eqb l (length M)) m (at (no_meaning L) M l)) (cond (eqb l n) f (at (no_meaning L') N l))) (same_legs M N h.1)
      (go (eqb l (length M)) (at_leg M N l h.1))
    where
      go : (b : Bool) → Serves R (at (no_meaning L) M l) (at (no_meaning L') N l) → Serves R (cond b m (at (no_meaning L) M l)) (cond b f (at (no_meaning L') N l))
      go true ih = h.0
      go false ih = ih

  mutual
    inside_all : (t : Term) (M N : List Meaning) (ρ σ : Scope) → Serve R M N → Paired R ρ σ → R (inside L M t ρ) (inside L' N t σ)
    inside_all t_unit M N ρ σ m sc = S.gives v_unit
    inside_all (t_number n) M N ρ σ m sc = S.gives (v_number n)
    inside_all (t_name l) M N ρ σ m sc = at_level ρ σ l sc
    inside_all (t_let k a e) M N ρ σ m sc =
        opens k (begin L (inside L M a ρ)) (begin L' (inside L' N a σ)) (λ c. inside L M e (c ∷ ρ)) (λ f. inside L' N e (f ∷ σ)) (S.begins _ _ (inside_all a M N ρ σ m sc))
        (λ c f h. inside_all e M N (c ∷ ρ) (f ∷ σ) m (h, sc))
    inside_all (t_take k a e) M N ρ σ m sc =
        S.thens _ _ _ _ (goes _ _ (inside_all a M N ρ σ m sc))
        (λ v. opens k (kept v) (kept v) (λ c. inside L M e (c ∷ ρ)) (λ f. inside L' N e (f ∷ σ)) (S.gives v) (λ c f h. inside_all e M N (c ∷ ρ) (f ∷ σ) m (h, sc)))
    inside_all (t_pair a e) M N ρ σ m sc =
        two _ _ _ _ (λ v w. kept (v_pair v w)) (λ v w. kept (v_pair v w)) (inside_all a M N ρ σ m sc) (inside_all e M N ρ σ m sc) (λ v w. S.gives (v_pair v w))
    inside_all (t_split k a e) M N ρ σ m sc =
        S.thens _ _ _ _ (goes _ _ (inside_all a M N ρ σ m sc))
        (λ v. S.needs (a_pair v) _ _
        (S.makes k
        (λ b d s. make L (suc k) s (λ c s. deeper L (inside L M e (bound L (suc k) c (kept (second_of v)) ∷ bound L k b (kept (first_of v)) ∷ ρ)) d s))
        (λ b d s. make L' (suc k) s (λ c s. deeper L' (inside L' N e (bound L' (suc k) c (kept (second_of v)) ∷ bound L' k b (kept (first_of v)) ∷ σ)) d s))
        (λ b fresh. opens (suc k) (kept (second_of v)) (kept (second_of v))
        (λ c. inside L M e (c ∷ bound L k b (kept (first_of v)) ∷ ρ)) (λ f. inside L' N e (f ∷ bound L' k b (kept (first_of v)) ∷ σ)) (S.gives (second_of v))
        (λ c f h. inside_all e M N (c ∷ bound L k b (kept (first_of v)) ∷ ρ) (f ∷ bound L' k b (kept (first_of v)) ∷ σ) m
        (h, (S.looks k b _ _ fresh (S.gives (first_of v)), sc))))))
    inside_all (t_left y a) M N ρ σ m sc = S.thens _ _ _ _ (goes _ _ (inside_all a M N ρ σ m sc)) (λ v. S.gives (v_left v))
    inside_all (t_right y a) M N ρ σ m sc = S.thens _ _ _ _ (goes _ _ (inside_all a M N ρ σ m sc)) (λ v. S.gives (v_right v))
    inside_all (t_case k a e g) M N ρ σ m sc =
        S.thens _ _ _ _ (goes _ _ (inside_all a M N ρ σ m sc))
        (λ v. S.needs (an_either v) _ _
        (chooses v
        (λ v d s. make L k s (λ b s. deeper L (inside L M e (bound L k b (kept v) ∷ ρ)) d s))
        (λ v d s. make L (suc k) s (λ b s. deeper L (inside L M g (bound L (suc k) b (kept v) ∷ ρ)) d s))
        (λ v d s. make L' k s (λ b s. deeper L' (inside L' N e (bound L' k b (kept v) ∷ σ)) d s))
        (λ v d s. make L' (suc k) s (λ b s. deeper L' (inside L' N g (bound L' (suc k) b (kept v) ∷ σ)) d s))
        (λ v. opens k (kept v) (kept v) (λ c. inside L M e (c ∷ ρ)) (λ f. inside L' N e (f ∷ σ)) (S.gives v) (λ c f h. inside_all e M N (c ∷ ρ) (f ∷ σ) m (h, sc)))
        (λ v. opens (suc k) (kept v) (kept v) (λ c. inside L M g (c ∷ ρ)) (λ f. inside L' N g (f ∷ σ)) (S.gives v) (λ c f h. inside_all g M N (c ∷ ρ) (f ∷ σ) m (h, sc)))))
    inside_all (t_call i ts) M N ρ σ m sc =
        let q = at_leg M N i m in
        subst (λ x. R (λ d s. bind_all L M ts (at (no_meaning L) M i).binder ρ [] (at (no_meaning L) M i).does (suc d) s)
        (λ d s. bind_all L' N ts x σ [] (at (no_meaning L') N i).does (suc d) s)) q.0
        (S.downs _ _ (all_args ts M N (at (no_meaning L) M i).binder ρ σ [] [] (at (no_meaning L) M i).does (at (no_meaning L') N i).does m sc tt q.1))
    inside_all (t_add a e) M N ρ σ m sc =
        two _ _ _ _ (λ v w d s. numbers L sum_of v w s) (λ v w d s. numbers L' sum_of v w s) (inside_all a M N ρ σ m sc) (inside_all e M N ρ σ m sc) (counts sum_of)
    inside_all (t_less a e) M N ρ σ m sc =
        two _ _ _ _ (λ v w d s. numbers L less_of v w s) (λ v w d s. numbers L' less_of v w s) (inside_all a M N ρ σ m sc) (inside_all e M N ρ σ m sc) (counts less_of)

    all_args : (ts : Terms) (M N : List Meaning) (k : ℕ) (ρ σ ρ' σ' : Scope) (c f : Scope → Comp) → Serve R M N → Paired R ρ σ → Paired R ρ' σ'
        → ((ρ σ : Scope) → Paired R ρ σ → R (c ρ) (f σ)) → R (bind_all L M ts k ρ ρ' c) (bind_all L' N ts k σ σ' f)
    all_args t_none M N k ρ σ ρ' σ' c f m sc sd h = h ρ' σ' sd
    all_args (t_more a ts) M N k ρ σ ρ' σ' c f m sc sd h =
        S.makes k (λ b. bind_all L M ts (suc k) ρ (bound L k b (begin L (inside L M a ρ)) ∷ ρ') c)
        (λ b. bind_all L' N ts (suc k) σ (bound L' k b (begin L' (inside L' N a σ)) ∷ σ') f)
        (λ b fresh. all_args ts M N (suc k) ρ σ (bound L k b (begin L (inside L M a ρ)) ∷ ρ') (bound L' k b (begin L' (inside L' N a σ)) ∷ σ') c f m sc
        (S.looks k b _ _ fresh (S.begins _ _ (inside_all a M N ρ σ m sc)), sd) h)

  all_legs : (gs : List Leg) → Serve R (meanings L gs) (meanings L' gs)
  all_legs [] = tt
  all_legs (g ∷ gs) = ((refl, λ ρ σ sc. S.begins _ _ (inside_all g.body (meanings L gs) (meanings L' gs) ρ σ (all_legs gs) sc)), all_legs gs)

  all_stores : (f n p : ℕ) → n ≤ p → ((k i : ℕ) → i < p → R (store L k i) (store L' k i)) → Paired R (stores L f n) (stores L' f n)
  all_stores f zero p le h = tt
  all_stores f (suc n) p le h = (h (f + n) n (omega arith), all_stores f n p (omega arith) h)

  -- what main does, if draws from its stores keep R too
  pub main_evaluation : (main : Leg) (below : List Leg) → ((k i : ℕ) → i < length main.params → R (store L k i) (store L' k i))
      → R (eval L (meanings L below) main.body (stores L main.first (length main.params))) (eval L' (meanings L' below) main.body (stores L' main.first (length main.params)))
  main_evaluation main below h =
      S.begins _ _ (inside_all main.body (meanings L below) (meanings L' below) _ _ (all_legs below) (all_stores main.first (length main.params) (length main.params) (le_refl _) h))
