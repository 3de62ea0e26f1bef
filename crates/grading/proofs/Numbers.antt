-- The list of least grades, by the binders' numbers. Assumes nothing.
use Rattle.std.proofs.Common.{◌≡◌, ℕ, zero, suc, ◌+◌, ◌<◌, List, [], ◌∷◌, ◌++◌, length, get_or, sym, refl, ap, subst, add-zero, add-one, arith}
use Rattle.std.proofs.lemmas.List.{length-append}
use Rattle.scales.specs.Laws.{Ops}
use Rattle.plan.specs.declared.Node.{Node}
use Rattle.plan.specs.Trees.{Term, t_unit, t_number, t_name, t_let, t_take, t_pair, t_split, t_left, t_right, t_case, t_call, t_add, t_less, Terms, t_none, t_more, flat, flats}
use Rattle.plan.specs.Written.{Run, with_node, NodeLaid, binders_in}
use Rattle.grading.specs.Least.{inner, inner_of_each, from_0}
use Rattle.grading.proofs.Binders.{Binders, AllBinders}

-- ---- the numbers of the nodes' binders

pub run_left : (ok : ℕ → Node → Type 0) (s : ℕ) (xs ys : List Node) → Run with_node ok s (xs ++ ys) → Run with_node ok s xs
run_left ok s [] ys r = tt
run_left ok s (x ∷ xs) ys r = (r.0, run_left ok (with_node s x) xs ys r.1)

pub run_right : (ok : ℕ → Node → Type 0) (s : ℕ) (xs ys : List Node) → Run with_node ok s (xs ++ ys) → Run with_node ok (binders_in s xs) ys
run_right ok s [] ys r = r
run_right ok s (x ∷ xs) ys r = run_right ok (with_node s x) xs ys r.1

binders_append : (s : ℕ) (xs ys : List Node) → binders_in s (xs ++ ys) ≡ binders_in (binders_in s xs) ys
binders_append s [] ys = refl
binders_append s (x ∷ xs) ys = binders_append (with_node s x) xs ys

-- ---- each grade of a list stands in the relation P to its number, which begins at k

abbrev pub Listed : {G : Type 0} → (ℕ → G → Type 0) → ℕ → List G → Type 0
Listed P k [] = Unit {0}
Listed P k (x ∷ xs) = P k x × Listed P (suc k) xs

module _ {G : Type 0} (P : ℕ → G → Type 0) where
  pub renumbered : (xs : List G) {j k : ℕ} → j ≡ k → Listed P j xs → Listed P k xs
  renumbered xs e h = subst (λ (i : ℕ). Listed P i xs) e h

  pub listed_join : (xs ys : List G) (k : ℕ) → Listed P k xs → Listed P (k + length xs) ys → Listed P k (xs ++ ys)
  listed_join [] ys k h q = renumbered ys (add-zero k) q
  listed_join (x ∷ xs) ys k h q = (h.0, listed_join xs ys (suc k) h.1 (renumbered ys (let e : k + length (x ∷ xs) ≡ suc k + length xs = omega arith in e) q))

  pub listed_left : (xs ys : List G) (k : ℕ) → Listed P k (xs ++ ys) → Listed P k xs
  listed_left [] ys k h = tt
  listed_left (x ∷ xs) ys k h = (h.0, listed_left xs ys (suc k) h.1)

  pub listed_right : (xs ys : List G) (k : ℕ) → Listed P k (xs ++ ys) → Listed P (k + length xs) ys
  listed_right [] ys k h = renumbered ys (sym (add-zero k)) h
  listed_right (x ∷ xs) ys k h = renumbered ys (let e : suc k + length xs ≡ k + length (x ∷ xs) = omega arith in e) (listed_right xs ys (suc k) h.1)

  pub listed_at : (xs : List G) (d : G) (k i : ℕ) → Listed P k xs → i < length xs → P (k + i) (get_or xs i d)
  listed_at [] d k i h lt = absurd (omega arith)
  listed_at (x ∷ xs) d k zero h lt = subst (λ (j : ℕ). P j x) (sym (add-zero k)) h.0
  listed_at (x ∷ xs) d k (suc i) h lt = subst (λ (j : ℕ). P j (get_or xs i d)) (let e : suc k + i ≡ k + suc i = omega arith in e) (listed_at xs d (suc k) i h.1 (omega arith))

  pub listed_by : (xs : List G) (d : G) (k : ℕ) → ((i : ℕ) → i < length xs → P (k + i) (get_or xs i d)) → Listed P k xs
  listed_by [] d k h = tt
  listed_by (x ∷ xs) d k h = (
    subst (λ (j : ℕ). P j x) (add-zero k) (h 0 (omega arith)),
    listed_by xs d (suc k) (λ i lt. subst (λ (j : ℕ). P j (get_or xs i d)) (let e : k + suc i ≡ suc k + i = omega arith in e) (h (suc i) (omega arith))),
  )

  pub listed_params : (n k : ℕ) (γ : ℕ → G) → ((i : ℕ) → i < n → P (k + i) (γ i)) → Listed P k (from_0 n γ)
  listed_params zero k γ h = tt
  listed_params (suc n) k γ h = (
    subst (λ (j : ℕ). P j (γ 0)) (add-zero k) (h 0 (omega arith)),
    listed_params n (suc k) (λ l. γ (suc l)) (λ i lt. subst (λ (j : ℕ). P j (γ (suc i))) (let e : k + suc i ≡ suc k + i = omega arith in e) (h (suc i) (omega arith))),
  )

  pub params_listed : (n k : ℕ) (γ : ℕ → G) → Listed P k (from_0 n γ) → (i : ℕ) → i < n → P (k + i) (γ i)
  params_listed zero k γ h i lt = absurd (omega arith)
  params_listed (suc n) k γ h zero lt = subst (λ (j : ℕ). P j (γ 0)) (sym (add-zero k)) h.0
  params_listed (suc n) k γ h (suc i) lt = subst (λ (j : ℕ). P j (γ (suc i))) (let e : suc k + i ≡ k + suc i = omega arith in e) (params_listed n (suc k) (λ l. γ (suc l)) h.1 i (omega arith))

pub from_0_length : {G : Type 0} (n : ℕ) (γ : ℕ → G) → length (from_0 n γ) ≡ n
from_0_length zero γ = refl
from_0_length (suc n) γ = ap suc (from_0_length n (λ l. γ (suc l)))

-- ---- as many grades as binders

module _ {G : Type 0} (o : Ops G) (Γ : List (ℕ → G)) where
  two_counted : (xs ys : List Node) (as' bs : List G) (s : ℕ) → ((s : ℕ) → binders_in s xs ≡ s + length as') → ((s : ℕ) → binders_in s ys ≡ s + length bs)
      → binders_in s (xs ++ ys) ≡ s + length (as' ++ bs)
  two_counted xs ys as' bs s f g =
      let e = binders_append s xs ys in
      let a = f s in
      let b = g (binders_in s xs) in
      let m = length-append as' bs in
      omega arith

  mutual
    pub inner_counted : (t : Term) (n s : ℕ) → binders_in s (flat t) ≡ s + length (inner o Γ t n)
    inner_counted t_unit n s = omega arith
    inner_counted (t_number v) n s = omega arith
    inner_counted (t_name j) n s = omega arith
    inner_counted (t_let k a b) n s = let e = two_counted (flat a) (flat b) (inner o Γ a n) (inner o Γ b (suc n)) (s + 1) (inner_counted a n) (inner_counted b (suc n)) in omega arith
    inner_counted (t_take k a b) n s = let e = two_counted (flat a) (flat b) (inner o Γ a n) (inner o Γ b (suc n)) (s + 1) (inner_counted a n) (inner_counted b (suc n)) in omega arith
    inner_counted (t_pair a b) n s = let e = two_counted (flat a) (flat b) (inner o Γ a n) (inner o Γ b n) (s + 0) (inner_counted a n) (inner_counted b n) in omega arith
    inner_counted (t_split k a b) n s = let e = two_counted (flat a) (flat b) (inner o Γ a n) (inner o Γ b (suc (suc n))) (s + 2) (inner_counted a n) (inner_counted b (suc (suc n))) in omega arith
    inner_counted (t_left y a) n s = let e = inner_counted a n (s + 0) in omega arith
    inner_counted (t_right y a) n s = let e = inner_counted a n (s + 0) in omega arith
    inner_counted (t_case k a b c) n s =
        let e = two_counted (flat a) (flat b ++ flat c) (inner o Γ a n) (inner o Γ b (suc n) ++ inner o Γ c (suc n)) (s + 2) (inner_counted a n)
        (λ s. two_counted (flat b) (flat c) (inner o Γ b (suc n)) (inner o Γ c (suc n)) s (inner_counted b (suc n)) (inner_counted c (suc n))) in
        omega arith
    inner_counted (t_call i ts) n s = let e = each_counted ts n (s + 0) in omega arith
    inner_counted (t_add a b) n s = let e = two_counted (flat a) (flat b) (inner o Γ a n) (inner o Γ b n) (s + 0) (inner_counted a n) (inner_counted b n) in omega arith
    inner_counted (t_less a b) n s = let e = two_counted (flat a) (flat b) (inner o Γ a n) (inner o Γ b n) (s + 0) (inner_counted a n) (inner_counted b n) in omega arith

    each_counted : (ts : Terms) (n s : ℕ) → binders_in s (flats ts) ≡ s + length (inner_of_each o Γ ts n)
    each_counted t_none n s = omega arith
    each_counted (t_more a ts) n s = two_counted (flat a) (flats ts) (inner o Γ a n) (inner_of_each o Γ ts n) s (inner_counted a n) (each_counted ts n)

-- ---- the binders of an expression that is laid from s on, by their places in the list

-- the first part, and the second one after its binders
pub record Parts {G : Type 0} (P : ℕ → G → Type 0) (ok : ℕ → Node → Type 0) (s : ℕ) (xs ys : List Node) (as' bs : List G) : Type 0 where
  pub left_laid : Run with_node ok s xs
  pub left : Listed P s as'
  pub right_laid : Run with_node ok (binders_in s xs) ys
  pub right : Listed P (binders_in s xs) bs

module _ {G : Type 0} (P : ℕ → G → Type 0) (ok : ℕ → Node → Type 0) where
  parts : (xs ys : List Node) (as' bs : List G) (s s' : ℕ) → s ≡ s' → ((s : ℕ) → binders_in s xs ≡ s + length as')
      → Run with_node ok s (xs ++ ys) → Listed P s' (as' ++ bs) → Parts P ok s xs ys as' bs
  parts xs ys as' bs s s' e count r h = record {
    left_laid = run_left ok s xs ys r;
    left = renumbered P as' (sym e) (listed_left P as' bs s' h);
    right_laid = run_right ok s xs ys r;
    right = renumbered P bs (let c = count s in let q : s' + length as' ≡ binders_in s xs = omega arith in q) (listed_right P as' bs s' h);
  }

  joined : (xs : List Node) (as' bs : List G) (s s' : ℕ) → s ≡ s' → ((s : ℕ) → binders_in s xs ≡ s + length as')
      → Listed P s as' → Listed P (binders_in s xs) bs → Listed P s' (as' ++ bs)
  joined xs as' bs s s' e count h k =
      listed_join P as' bs s' (renumbered P as' e h) (renumbered P bs (let c = count s in let q : binders_in s xs ≡ s' + length as' = omega arith in q) k)

module _ {G : Type 0} (o : Ops G) (Γ : List (ℕ → G)) (P : ℕ → G → Type 0) (types : ℕ) (ar : List ℕ) where
  abbrev ok : ℕ → Node → Type 0
  ok = NodeLaid types ar

  abbrev Laid : ℕ → Term → Type 0
  Laid s t = Run with_node ok s (flat t)

  at_number : {j k : ℕ} (g : G) → j ≡ k → P k g → P j g
  at_number g e h = subst (λ (i : ℕ). P i g) (sym e) h

  -- two expressions one behind the other
  abbrev two : (a b : Term) (n m s s' : ℕ) → s ≡ s' → Run with_node ok s (flat a ++ flat b) → Listed P s' (inner o Γ a n ++ inner o Γ b m) → Parts P ok s (flat a) (flat b) (inner o Γ a n) (inner o Γ b m)
  two a b n m s s' e r h = parts P ok (flat a) (flat b) (inner o Γ a n) (inner o Γ b m) s s' e (inner_counted o Γ a n) r h

  mutual
    pub from_list : (t : Term) (n s : ℕ) → Laid s t → Listed P s (inner o Γ t n) → Binders o Γ P t n
    from_list t_unit n s r h = tt
    from_list (t_number v) n s r h = tt
    from_list (t_name j) n s r h = tt
    from_list (t_let k a b) n s r h =
        let q = two a b n (suc n) (s + 1) (suc s) (add-one s) r.1 h.1 in
        (at_number _ r.0 h.0, from_list a n _ q.left_laid q.left, from_list b (suc n) _ q.right_laid q.right)
    from_list (t_take k a b) n s r h =
        let q = two a b n (suc n) (s + 1) (suc s) (add-one s) r.1 h.1 in
        (at_number _ r.0 h.0, from_list a n _ q.left_laid q.left, from_list b (suc n) _ q.right_laid q.right)
    from_list (t_pair a b) n s r h =
        let q = two a b n n (s + 0) s (add-zero s) r.1 h in (from_list a n _ q.left_laid q.left, from_list b n _ q.right_laid q.right)
    from_list (t_split k a b) n s r h =
        let q = two a b n (suc (suc n)) (s + 2) (suc (suc s)) (omega arith) r.1 h.1.1 in (
          at_number _ r.0 h.0,
          at_number _ (ap suc r.0) h.1.0,
          from_list a n _ q.left_laid q.left,
          from_list b (suc (suc n)) _ q.right_laid q.right,
        )
    from_list (t_left y a) n s r h = from_list a n (s + 0) r.1 (renumbered P _ (sym (add-zero s)) h)
    from_list (t_right y a) n s r h = from_list a n (s + 0) r.1 (renumbered P _ (sym (add-zero s)) h)
    from_list (t_case k a b c) n s r h =
        let q = parts P ok (flat a) (flat b ++ flat c) (inner o Γ a n) (inner o Γ b (suc n) ++ inner o Γ c (suc n)) (s + 2) (suc (suc s)) (omega arith)
        (inner_counted o Γ a n) r.1 h.1.1 in
        let p = two b c (suc n) (suc n) _ _ refl q.right_laid q.right in (
          at_number _ r.0 h.0,
          at_number _ (ap suc r.0) h.1.0,
          from_list a n _ q.left_laid q.left,
          from_list b (suc n) _ p.left_laid p.left,
          from_list c (suc n) _ p.right_laid p.right,
        )
    from_list (t_call i ts) n s r h = all_from ts n (s + 0) r.1 (renumbered P _ (sym (add-zero s)) h)
    from_list (t_add a b) n s r h =
        let q = two a b n n (s + 0) s (add-zero s) r.1 h in (from_list a n _ q.left_laid q.left, from_list b n _ q.right_laid q.right)
    from_list (t_less a b) n s r h =
        let q = two a b n n (s + 0) s (add-zero s) r.1 h in (from_list a n _ q.left_laid q.left, from_list b n _ q.right_laid q.right)

    all_from : (ts : Terms) (n s : ℕ) → Run with_node ok s (flats ts) → Listed P s (inner_of_each o Γ ts n) → AllBinders o Γ P ts n
    all_from t_none n s r h = tt
    all_from (t_more a ts) n s r h =
        let q = parts P ok (flat a) (flats ts) (inner o Γ a n) (inner_of_each o Γ ts n) s s refl (inner_counted o Γ a n) r h in
        (from_list a n _ q.left_laid q.left, all_from ts n _ q.right_laid q.right)

  -- the lists of two expressions one behind the other
  abbrev two_joined : (a b : Term) (n m s s' : ℕ) → s ≡ s' → Listed P s (inner o Γ a n) → Listed P (binders_in s (flat a)) (inner o Γ b m) → Listed P s' (inner o Γ a n ++ inner o Γ b m)
  two_joined a b n m s s' e h k = joined P ok (flat a) (inner o Γ a n) (inner o Γ b m) s s' e (inner_counted o Γ a n) h k

  first_laid : (a b : Term) (s : ℕ) → Run with_node ok s (flat a ++ flat b) → Laid s a
  first_laid a b s r = run_left ok s (flat a) (flat b) r

  second_laid : (a b : Term) (s : ℕ) → Run with_node ok s (flat a ++ flat b) → Laid (binders_in s (flat a)) b
  second_laid a b s r = run_right ok s (flat a) (flat b) r

  mutual
    pub to_list : (t : Term) (n s : ℕ) → Laid s t → Binders o Γ P t n → Listed P s (inner o Γ t n)
    to_list t_unit n s r h = tt
    to_list (t_number v) n s r h = tt
    to_list (t_name j) n s r h = tt
    to_list (t_let k a b) n s r h = (
      at_number _ (sym r.0) h.0,
      two_joined a b n (suc n) (s + 1) (suc s) (add-one s) (to_list a n _ (first_laid a b _ r.1) h.1) (to_list b (suc n) _ (second_laid a b _ r.1) h.2),
    )
    to_list (t_take k a b) n s r h = (
      at_number _ (sym r.0) h.0,
      two_joined a b n (suc n) (s + 1) (suc s) (add-one s) (to_list a n _ (first_laid a b _ r.1) h.1) (to_list b (suc n) _ (second_laid a b _ r.1) h.2),
    )
    to_list (t_pair a b) n s r h =
        two_joined a b n n (s + 0) s (add-zero s) (to_list a n _ (first_laid a b _ r.1) h.0) (to_list b n _ (second_laid a b _ r.1) h.1)
    to_list (t_split k a b) n s r h = (
      at_number _ (sym r.0) h.0,
      (
        at_number _ (ap suc (sym r.0)) h.1,
        two_joined a b n (suc (suc n)) (s + 2) (suc (suc s)) (omega arith) (to_list a n _ (first_laid a b _ r.1) h.2) (to_list b (suc (suc n)) _ (second_laid a b _ r.1) h.3),
      ),
    )
    to_list (t_left y a) n s r h = renumbered P _ (add-zero s) (to_list a n (s + 0) r.1 h)
    to_list (t_right y a) n s r h = renumbered P _ (add-zero s) (to_list a n (s + 0) r.1 h)
    to_list (t_case k a b c) n s r h =
        let rest = run_right ok (s + 2) (flat a) (flat b ++ flat c) r.1 in (
          at_number _ (sym r.0) h.0,
          (
            at_number _ (ap suc (sym r.0)) h.1,
            joined P ok (flat a) (inner o Γ a n) (inner o Γ b (suc n) ++ inner o Γ c (suc n)) (s + 2) (suc (suc s)) (omega arith) (inner_counted o Γ a n)
                (to_list a n _ (run_left ok (s + 2) (flat a) (flat b ++ flat c) r.1) h.2)
                (two_joined b c (suc n) (suc n) _ _ refl (to_list b (suc n) _ (first_laid b c _ rest) h.3) (to_list c (suc n) _ (second_laid b c _ rest) h.4)),
          ),
        )
    to_list (t_call i ts) n s r h = renumbered P _ (add-zero s) (all_to ts n (s + 0) r.1 h)
    to_list (t_add a b) n s r h =
        two_joined a b n n (s + 0) s (add-zero s) (to_list a n _ (first_laid a b _ r.1) h.0) (to_list b n _ (second_laid a b _ r.1) h.1)
    to_list (t_less a b) n s r h =
        two_joined a b n n (s + 0) s (add-zero s) (to_list a n _ (first_laid a b _ r.1) h.0) (to_list b n _ (second_laid a b _ r.1) h.1)

    all_to : (ts : Terms) (n s : ℕ) → Run with_node ok s (flats ts) → AllBinders o Γ P ts n → Listed P s (inner_of_each o Γ ts n)
    all_to t_none n s r h = tt
    all_to (t_more a ts) n s r h =
        joined P ok (flat a) (inner o Γ a n) (inner_of_each o Γ ts n) s s refl (inner_counted o Γ a n)
        (to_list a n _ (run_left ok s (flat a) (flats ts) r) h.0) (all_to ts n _ (run_right ok s (flat a) (flats ts) r) h.1)
