-- Prefix order and the stack of expressions are each other's inverse. Assumes nothing.
use Rattle.std.proofs.Common.{◌≡◌, ℕ, zero, suc, List, [], ◌∷◌, ◌++◌, sym, refl, ap, ◌∙◌, subst, ap₂, append_assoc, append-nil, arith}
use mathlib.Core.Option.{Option, some, none, some-injective}
use Rattle.plan.specs.declared.LegId.{LegId}
use Rattle.plan.specs.declared.Node.{Node}
use Rattle.plan.specs.declared.Node.TheVariants.{Unit as Unit', Number, Name, Let, Take, Pair, Split, Left, Right, Case, Call, Add, Less}
use Rattle.plan.specs.Trees.{Term, t_unit, t_number, t_name, t_let, t_take, t_pair, t_split, t_left, t_right, t_case, t_call, t_add, t_less, Terms, t_none, t_more, how_many, flat, flats, Stack, one, two, three, more_taken, taken, called, on, on_some, stack, the_leg, the_level, the_binder}

abbrev pushed : Terms → List Term → List Term
pushed t_none ts = ts
pushed (t_more a us) ts = a ∷ pushed us ts

taken_pushed : (us : Terms) (ts : List Term) → taken (how_many us) (pushed us ts) ≡ some (us, ts)
taken_pushed t_none ts = refl
taken_pushed (t_more a us) ts = ap (more_taken a) (taken_pushed us ts)

-- the expressions of the nodes in front of others
mutual
  pub stack_flat : (t : Term) (os : List Node) (ts : List Term) → stack os ≡ some ts → stack (flat t ++ os) ≡ some (t ∷ ts)
  stack_flat t_unit os ts e = ap (on_some Unit') e
  stack_flat (t_number n) os ts e = ap (on_some (Number n)) e
  stack_flat (t_name l) os ts e = ap (on_some (Name (the_level l))) e
  stack_flat (t_let k a b) os ts e = ap (on_some (Let (the_binder k))) (ap stack (append_assoc (flat a) (flat b) os) ∙ stack_flat a _ _ (stack_flat b os ts e))
  stack_flat (t_take k a b) os ts e = ap (on_some (Take (the_binder k))) (ap stack (append_assoc (flat a) (flat b) os) ∙ stack_flat a _ _ (stack_flat b os ts e))
  stack_flat (t_pair a b) os ts e = ap (on_some Pair) (ap stack (append_assoc (flat a) (flat b) os) ∙ stack_flat a _ _ (stack_flat b os ts e))
  stack_flat (t_split k a b) os ts e = ap (on_some (Split (the_binder k))) (ap stack (append_assoc (flat a) (flat b) os) ∙ stack_flat a _ _ (stack_flat b os ts e))
  stack_flat (t_left y a) os ts e = ap (on_some (Left y)) (stack_flat a os ts e)
  stack_flat (t_right y a) os ts e = ap (on_some (Right y)) (stack_flat a os ts e)
  stack_flat (t_case k a b c) os ts e =
      ap (on_some (Case (the_binder k)))
      (ap stack (append_assoc (flat a) (flat b ++ flat c) os ∙ ap (λ x. flat a ++ x) (append_assoc (flat b) (flat c) os))
      ∙ stack_flat a _ _ (stack_flat b _ _ (stack_flat c os ts e)))
  stack_flat (t_call l us) os ts e = ap (on_some (Call (the_leg l) (how_many us))) (stack_flats us os ts e) ∙ ap (called l) (taken_pushed us ts)
  stack_flat (t_add a b) os ts e = ap (on_some Add) (ap stack (append_assoc (flat a) (flat b) os) ∙ stack_flat a _ _ (stack_flat b os ts e))
  stack_flat (t_less a b) os ts e = ap (on_some Less) (ap stack (append_assoc (flat a) (flat b) os) ∙ stack_flat a _ _ (stack_flat b os ts e))

  stack_flats : (us : Terms) (os : List Node) (ts : List Term) → stack os ≡ some ts → stack (flats us ++ os) ≡ some (pushed us ts)
  stack_flats t_none os ts e = e
  stack_flats (t_more a us) os ts e = ap stack (append_assoc (flat a) (flats us) os) ∙ stack_flat a _ _ (stack_flats us os ts e)

abbrev pub flat_all : List Term → List Node
flat_all [] = []
flat_all (t ∷ ts) = flat t ++ flat_all ts

abbrev Back : Node → List Node → Stack → Type 0
Back o os s = (ts : List Term) → s ≡ some ts → o ∷ os ≡ flat_all ts

one_back : (o : Node) (f : Term → Term) (s : List Term) → ((a : Term) → flat (f a) ≡ o ∷ flat a) → Back o (flat_all s) (one f s)
one_back o f [] w ts e = absurd (let z : ◌≡◌ {A = ℕ} 0 1 = cc in omega arith)
one_back o f (a ∷ s) w ts e = let q : f a ∷ s ≡ ts = cc in subst (λ x. o ∷ flat_all (a ∷ s) ≡ flat_all x) q (ap (λ x. x ++ flat_all s) (sym (w a)))

two_back : (o : Node) (f : Term → Term → Term) (s : List Term) → ((a b : Term) → flat (f a b) ≡ o ∷ (flat a ++ flat b)) → Back o (flat_all s) (two f s)
two_back o f [] w ts e = absurd (let z : ◌≡◌ {A = ℕ} 0 1 = cc in omega arith)
two_back o f (a ∷ []) w ts e = absurd (let z : ◌≡◌ {A = ℕ} 0 1 = cc in omega arith)
two_back o f (a ∷ b ∷ s) w ts e =
    let q : f a b ∷ s ≡ ts = cc in
    subst (λ x. o ∷ flat_all (a ∷ b ∷ s) ≡ flat_all x) q (ap (λ x. o ∷ x) (sym (append_assoc (flat a) (flat b) (flat_all s))) ∙ ap (λ x. x ++ flat_all s) (sym (w a b)))

three_back : (o : Node) (f : Term → Term → Term → Term) (s : List Term) → ((a b c : Term) → flat (f a b c) ≡ o ∷ (flat a ++ (flat b ++ flat c))) → Back o (flat_all s) (three f s)
three_back o f [] w ts e = absurd (let z : ◌≡◌ {A = ℕ} 0 1 = cc in omega arith)
three_back o f (a ∷ []) w ts e = absurd (let z : ◌≡◌ {A = ℕ} 0 1 = cc in omega arith)
three_back o f (a ∷ b ∷ []) w ts e = absurd (let z : ◌≡◌ {A = ℕ} 0 1 = cc in omega arith)
three_back o f (a ∷ b ∷ c ∷ s) w ts e =
    let q : f a b c ∷ s ≡ ts = cc in
    subst (λ x. o ∷ flat_all (a ∷ b ∷ c ∷ s) ≡ flat_all x) q
    (ap (λ x. o ∷ x) (ap (λ x. flat a ++ x) (sym (append_assoc (flat b) (flat c) (flat_all s))) ∙ sym (append_assoc (flat a) (flat b ++ flat c) (flat_all s)))
    ∙ ap (λ x. x ++ flat_all s) (sym (w a b c)))

taken_back : (n : ℕ) (s : List Term) (p : Terms × List Term) → taken n s ≡ some p → (how_many p.0 ≡ n) × (flat_all s ≡ flats p.0 ++ flat_all p.1)
taken_back zero s p e =
    let q : (t_none, s) ≡ p = some-injective (t_none, s) p e in
    subst (λ r. (how_many r.0 ≡ 0) × (flat_all s ≡ flats r.0 ++ flat_all r.1)) q (refl, refl)
taken_back (suc n) [] p e = absurd (let z : ◌≡◌ {A = ℕ} 0 1 = cc in omega arith)
taken_back (suc n) (a ∷ s) p e = go (taken n s) refl e (taken_back n s)
  where
    go : (o : Option (Terms × List Term)) → taken n s ≡ o → more_taken a o ≡ some p
        → ((q : Terms × List Term) → taken n s ≡ some q → (how_many q.0 ≡ n) × (flat_all s ≡ flats q.0 ++ flat_all q.1))
        → (how_many p.0 ≡ suc n) × (flat_all (a ∷ s) ≡ flats p.0 ++ flat_all p.1)
    go none q e h = absurd (let z : ◌≡◌ {A = ℕ} 0 1 = cc in omega arith)
    go (some r) q e h =
        let k = h r q in
        let w : (t_more a r.0, r.1) ≡ p = some-injective (t_more a r.0, r.1) p e in
        subst (λ r. (how_many r.0 ≡ suc n) × (flat_all (a ∷ s) ≡ flats r.0 ++ flat_all r.1)) w
        (ap suc k.0, ap (λ x. flat a ++ x) k.1 ∙ sym (append_assoc (flat a) (flats r.0) (flat_all r.1)))

call_back : (l : LegId) (n : ℕ) (s : List Term) (o : Option (Terms × List Term)) → taken n s ≡ o → Back (Call l n) (flat_all s) (called l.index o)
call_back l n s none q ts e = absurd (let z : ◌≡◌ {A = ℕ} 0 1 = cc in omega arith)
call_back l n s (some p) q ts e =
    let b = taken_back n s p q in
    let r : t_call l.index p.0 ∷ p.1 ≡ ts = cc in
    subst (λ x. Call l n ∷ flat_all s ≡ flat_all x) r (ap₂ (λ x y. Call l x ∷ y) (sym b.0) b.1)

on_back : (o : Node) (s : List Term) → Back o (flat_all s) (on o s)
on_back Unit' s ts e = ap flat_all (let q : t_unit ∷ s ≡ ts = cc in q)
on_back (Number n) s ts e = ap flat_all (let q : t_number n ∷ s ≡ ts = cc in q)
on_back (Name l) s ts e = ap flat_all (let q : t_name l.index ∷ s ≡ ts = cc in q)
on_back (Let k) s ts e = two_back (Let k) (t_let k.index) s (λ a b. refl) ts e
on_back (Take k) s ts e = two_back (Take k) (t_take k.index) s (λ a b. refl) ts e
on_back Pair s ts e = two_back Pair t_pair s (λ a b. refl) ts e
on_back (Split k) s ts e = two_back (Split k) (t_split k.index) s (λ a b. refl) ts e
on_back (Left y) s ts e = one_back (Left y) (t_left y) s (λ a. refl) ts e
on_back (Right y) s ts e = one_back (Right y) (t_right y) s (λ a. refl) ts e
on_back (Case k) s ts e = three_back (Case k) (t_case k.index) s (λ a b c. refl) ts e
on_back (Call l n) s ts e = call_back l n s (taken n s) refl ts e
on_back Add s ts e = two_back Add t_add s (λ a b. refl) ts e
on_back Less s ts e = two_back Less t_less s (λ a b. refl) ts e

pub stack_back : (os : List Node) (ts : List Term) → stack os ≡ some ts → os ≡ flat_all ts
stack_back [] ts e = ap flat_all (let q : [] ≡ ts = cc in q)
stack_back (o ∷ os) ts e = go (stack os) refl e (stack_back os)
  where
    go : (s : Stack) → stack os ≡ s → on_some o s ≡ some ts → ((ts' : List Term) → stack os ≡ some ts' → os ≡ flat_all ts') → o ∷ os ≡ flat_all ts
    go none q e h = absurd (let z : ◌≡◌ {A = ℕ} 0 1 = cc in omega arith)
    go (some s) q e h = ap (λ x. o ∷ x) (h s q) ∙ on_back o s ts e

pub stack_one : (t : Term) → stack (flat t) ≡ some (t ∷ [])
stack_one t = ap stack (sym (append-nil (flat t))) ∙ stack_flat t [] [] refl

pub one_back_flat : (os : List Node) (t : Term) → stack os ≡ some (t ∷ []) → os ≡ flat t
one_back_flat os t e = stack_back os (t ∷ []) e ∙ append-nil (flat t)

pub stack_all : (ts : List Term) (os : List Node) (us : List Term) → stack os ≡ some us → stack (flat_all ts ++ os) ≡ some (ts ++ us)
stack_all [] os us e = e
stack_all (t ∷ ts) os us e = ap stack (append_assoc (flat t) (flat_all ts) os) ∙ stack_flat t (flat_all ts ++ os) (ts ++ us) (stack_all ts os us e)

pub stack_append : (xs ys : List Node) (ts us : List Term) → stack xs ≡ some ts → stack ys ≡ some us → stack (xs ++ ys) ≡ some (ts ++ us)
stack_append xs ys ts us e f = ap (λ l. stack (l ++ ys)) (stack_back xs ts e) ∙ stack_all ts ys us f
