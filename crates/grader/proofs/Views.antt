-- The least grades of an expression by those of its kids. Assumes nothing.
use Rattle.std.proofs.Common.{◌≡◌, ℕ, zero, suc, ◌+◌, ◌<◌, ◌≤◌, List, [], ◌∷◌, ◌++◌, map, length, get_or, replicate, sym, refl, ap, ◌∙◌, ap₂, append_assoc, append-nil, arith}
use Rattle.scales.specs.Laws.{Ops}
use Rattle.scales.specs.Rows.{zipInto, row_plus, row_times}
use Rattle.plan.specs.declared.LegId.{LegId as LegId'}
use Rattle.plan.specs.declared.Leg.{Leg as FlatLeg}
use Rattle.plan.specs.declared.Node.{Node}
use Rattle.plan.specs.declared.Node.TheVariants.{Unit as Unit', Number, Name, Let, Take, Pair, Split, Left, Right, Case, Call, Add, Less}
use Rattle.plan.specs.Kinds.{kids_of, binders}
use Rattle.plan.specs.Limits.{max_levels}
use Rattle.plan.specs.Trees.{Term, t_unit, t_number, t_name, t_let, t_take, t_pair, t_split, t_left, t_right, t_case, t_call, t_add, t_less, Terms, t_none, t_more, how_many, the_leg, head, arguments, kids}
use Rattle.grading.specs.Least.{need, needs, inner, inner_of_each, from_0}
use Rattle.grader.specs.Walk.{Fit, FitEach, HeadFit, Callable, kid_width, node_row, own_grades, call_row, param_grade}
use Rattle.grading.proofs.Numbers.{from_0_length}
use Rattle.grader.proofs.Merging.{get_or_from_0}
use Rattle.grader.proofs.Calling.{call_same}

module _ {G : Type 0} where
  pub zip_row : (f : G → G → G) (n m : ℕ) (γ δ : ℕ → G) → n ≤ m → from_0 n (λ l. f (γ l) (δ l)) ≡ zipInto f (from_0 n γ) (from_0 m δ)
  zip_row f zero m γ δ le = refl
  zip_row f (suc n) zero γ δ le = absurd (omega arith)
  zip_row f (suc n) (suc m) γ δ le = ap (λ l. f (γ 0) (δ 0) ∷ l) (zip_row f n m (λ l. γ (suc l)) (λ l. δ (suc l)) (omega arith))

  pub map_row : (f : G → G) (n : ℕ) (γ : ℕ → G) → from_0 n (λ l. f (γ l)) ≡ map f (from_0 n γ)
  map_row f zero γ = refl
  map_row f (suc n) γ = ap (λ l. f (γ 0) ∷ l) (map_row f n (λ l. γ (suc l)))

  same_row : (x : G) (n : ℕ) → from_0 n (λ l. x) ≡ replicate n x
  same_row x zero = refl
  same_row x (suc n) = ap (λ l. x ∷ l) (same_row x n)

module _ {G : Type 0} (o : Ops G) (Γ : List (ℕ → G)) where
  -- the least context of an expression
  abbrev pub row : ℕ → Term → List G
  row n t = from_0 n (need o Γ t n)

  abbrev pub kid_rows : ℕ → Node → ℕ → List Term → List (List G)
  kid_rows n h k [] = []
  kid_rows n h k (a ∷ ts) = row (kid_width n h k) a ∷ kid_rows n h (suc k) ts

  abbrev pub each_inner : ℕ → Node → ℕ → List Term → List G
  each_inner n h k [] = []
  each_inner n h k (a ∷ ts) = inner o Γ a (kid_width n h k) ++ each_inner n h (suc k) ts

  plus_row : (n m : ℕ) (γ δ : ℕ → G) → n ≤ m → from_0 n (λ l. o.plus (γ l) (δ l)) ≡ row_plus o (from_0 n γ) (from_0 m δ)
  plus_row = zip_row o.plus

  let_row : (n : ℕ) (γ δ : ℕ → G) → from_0 n (λ l. o.plus (o.times (δ n) (γ l)) (δ l)) ≡ row_plus o (row_times o (get_or (from_0 (suc n) δ) n o.zero) (from_0 n γ)) (from_0 (suc n) δ)
  let_row n γ δ =
      plus_row n (suc n) (λ l. o.times (δ n) (γ l)) δ (omega arith) ∙ ap (λ u. row_plus o u (from_0 (suc n) δ)) (map_row (o.times (δ n)) n γ)
      ∙ ap (λ x. row_plus o (row_times o x (from_0 n γ)) (from_0 (suc n) δ)) (sym (get_or_from_0 (suc n) δ n o.zero (omega arith)))

  call_view : (ts : Terms) (r : ℕ → G) (j n k : ℕ) (l : LegId') (c : ℕ) → from_0 n (needs o Γ ts r j n) ≡ call_row o r j n (kid_rows n (Call l c) k (arguments ts))
  call_view t_none r j n k l c = same_row o.zero n
  call_view (t_more a ts) r j n zero l c =
      plus_row n n (λ i. o.times (r j) (need o Γ a n i)) (needs o Γ ts r (suc j) n) (omega arith)
      ∙ ap₂ (row_plus o) (map_row (o.times (r j)) n (need o Γ a n)) (call_view ts r (suc j) n 1 l c)
  call_view (t_more a ts) r j n (suc k) l c =
      plus_row n n (λ i. o.times (r j) (need o Γ a n i)) (needs o Γ ts r (suc j) n) (omega arith)
      ∙ ap₂ (row_plus o) (map_row (o.times (r j)) n (need o Γ a n)) (call_view ts r (suc j) n (suc (suc k)) l c)

  pub row_view : (n : ℕ) (t : Term) → row n t ≡ node_row o (param_grade o Γ) (head t) n (kid_rows n (head t) 0 (kids t))
  row_view n t_unit = same_row o.zero n
  row_view n (t_number v) = same_row o.zero n
  row_view n (t_name l) = refl
  row_view n (t_let k a b) = let_row n (need o Γ a n) (need o Γ b (suc n))
  row_view n (t_take k a b) = plus_row n (suc n) (need o Γ a n) (need o Γ b (suc n)) (omega arith)
  row_view n (t_pair a b) = plus_row n n (need o Γ a n) (need o Γ b n) (omega arith)
  row_view n (t_split k a b) = plus_row n (suc (suc n)) (need o Γ a n) (need o Γ b (suc (suc n))) (omega arith)
  row_view n (t_left y a) = refl
  row_view n (t_right y a) = refl
  row_view n (t_case k a b c) =
      plus_row n (suc n) (need o Γ a n) (λ l. o.join (need o Γ b (suc n) l) (need o Γ c (suc n) l)) (omega arith)
      ∙ ap (row_plus o (row n a)) (zip_row o.join (suc n) (suc n) (need o Γ b (suc n)) (need o Γ c (suc n)) (omega arith))
  row_view n (t_call l ts) = call_view ts (param_grade o Γ l) 0 n 0 (the_leg l) (how_many ts)
  row_view n (t_add a b) = plus_row n n (need o Γ a n) (need o Γ b n) (omega arith)
  row_view n (t_less a b) = plus_row n n (need o Γ a n) (need o Γ b n) (omega arith)

  read : (n i : ℕ) (γ : ℕ → G) → i < n → γ i ≡ get_or (from_0 n γ) i o.zero
  read n i γ lt = sym (get_or_from_0 n γ i o.zero lt)

  each_view : (ts : Terms) (n k : ℕ) (l : LegId') (c : ℕ) → inner_of_each o Γ ts n ≡ each_inner n (Call l c) k (arguments ts)
  each_view t_none n k l c = refl
  each_view (t_more a ts) n zero l c = ap (λ r. inner o Γ a n ++ r) (each_view ts n 1 l c)
  each_view (t_more a ts) n (suc k) l c = ap (λ r. inner o Γ a n ++ r) (each_view ts n (suc (suc k)) l c)

  two_inner : (xs ys : List G) → xs ++ ys ≡ xs ++ (ys ++ [])
  two_inner xs ys = ap (λ l. xs ++ l) (sym (append-nil ys))

  pub inner_view : (n : ℕ) (t : Term) → inner o Γ t n ≡ own_grades o (head t) n (kid_rows n (head t) 0 (kids t)) ++ each_inner n (head t) 0 (kids t)
  inner_view n t_unit = refl
  inner_view n (t_number v) = refl
  inner_view n (t_name l) = refl
  inner_view n (t_let k a b) = ap₂ (λ x l. x ∷ l) (read (suc n) n (need o Γ b (suc n)) (omega arith)) (two_inner (inner o Γ a n) (inner o Γ b (suc n)))
  inner_view n (t_take k a b) = ap₂ (λ x l. x ∷ l) (read (suc n) n (need o Γ b (suc n)) (omega arith)) (two_inner (inner o Γ a n) (inner o Γ b (suc n)))
  inner_view n (t_pair a b) = two_inner (inner o Γ a n) (inner o Γ b n)
  inner_view n (t_split k a b) =
      ap₂ (λ x l. x ∷ l) (read (suc (suc n)) n (need o Γ b (suc (suc n))) (omega arith))
      (ap₂ (λ x l. x ∷ l) (read (suc (suc n)) (suc n) (need o Γ b (suc (suc n))) (omega arith)) (two_inner (inner o Γ a n) (inner o Γ b (suc (suc n)))))
  inner_view n (t_left y a) = sym (append-nil (inner o Γ a n))
  inner_view n (t_right y a) = sym (append-nil (inner o Γ a n))
  inner_view n (t_case k a b c) =
      ap₂ (λ x l. x ∷ l) (read (suc n) n (need o Γ b (suc n)) (omega arith))
      (ap₂ (λ x l. x ∷ l) (read (suc n) n (need o Γ c (suc n)) (omega arith)) (ap (λ l. inner o Γ a n ++ (inner o Γ b (suc n) ++ l)) (sym (append-nil (inner o Γ c (suc n))))))
  inner_view n (t_call l ts) = each_view ts n 0 (the_leg l) (how_many ts)
  inner_view n (t_add a b) = two_inner (inner o Γ a n) (inner o Γ b n)
  inner_view n (t_less a b) = two_inner (inner o Γ a n) (inner o Γ b n)

  pub own_count : (h : Node) (n : ℕ) (us : List (List G)) → length (own_grades o h n us) ≡ binders h
  own_count Unit' n us = refl
  own_count (Number v) n us = refl
  own_count (Name l) n us = refl
  own_count (Let k) n us = refl
  own_count (Take k) n us = refl
  own_count Pair n us = refl
  own_count (Split k) n us = refl
  own_count (Left y) n us = refl
  own_count (Right y) n us = refl
  own_count (Case k) n us = refl
  own_count (Call l c) n us = refl
  own_count Add n us = refl
  own_count Less n us = refl

  pub rows_length : (n : ℕ) (h : Node) (k : ℕ) (ts : List Term) → length (kid_rows n h k ts) ≡ length ts
  rows_length n h k [] = refl
  rows_length n h k (a ∷ ts) = ap suc (rows_length n h (suc k) ts)

  pub rows_wide : (n : ℕ) (h : Node) (j : ℕ) (ts : List Term) (k : ℕ) → k < length ts → length (get_or (kid_rows n h j ts) k []) ≡ kid_width n h (j + k)
  rows_wide n h j [] k lt = absurd (omega arith)
  rows_wide n h j (a ∷ ts) zero lt = from_0_length (kid_width n h j) _ ∙ ap (kid_width n h) (let e : j ≡ j + 0 = omega arith in e)
  rows_wide n h j (a ∷ ts) (suc k) lt = rows_wide n h (suc j) ts k (omega arith) ∙ ap (kid_width n h) (let e : suc j + k ≡ j + suc k = omega arith in e)

  pub rows_push : (n : ℕ) (h : Node) (j : ℕ) (ts : List Term) (a : Term) → kid_rows n h j (ts ++ (a ∷ [])) ≡ kid_rows n h j ts ++ (row (kid_width n h (j + length ts)) a ∷ [])
  rows_push n h j [] a = ap (λ k. row (kid_width n h k) a ∷ []) (let e : j ≡ j + 0 = omega arith in e)
  rows_push n h j (t ∷ ts) a =
      ap (λ l. row (kid_width n h j) t ∷ l) (rows_push n h (suc j) ts a ∙ ap (λ k. kid_rows n h (suc j) ts ++ (row (kid_width n h k) a ∷ [])) (let e : suc j + length ts ≡ j + suc (length ts) = omega arith in e))

  pub inner_push : (n : ℕ) (h : Node) (j : ℕ) (ts us : List Term) → each_inner n h j (ts ++ us) ≡ each_inner n h j ts ++ each_inner n h (j + length ts) us
  inner_push n h j [] us = ap (λ k. each_inner n h k us) (let e : j ≡ j + 0 = omega arith in e)
  inner_push n h j (t ∷ ts) us =
      ap (λ l. inner o Γ t (kid_width n h j) ++ l) (inner_push n h (suc j) ts us ∙ ap (λ k. each_inner n h (suc j) ts ++ each_inner n h k us) (let e : suc j + length ts ≡ j + suc (length ts) = omega arith in e))
      ∙ sym (append_assoc (inner o Γ t (kid_width n h j)) (each_inner n h (suc j) ts) (each_inner n h (j + suc (length ts)) us))

  -- only a call asks for the grades of parameters, and for as many as it has arguments
  pub node_same : (r r' : ℕ → ℕ → G) (gs : List FlatLeg) (h : Node) (n : ℕ) (us : List (List G)) → length us ≡ kids_of h → HeadFit gs n h
      → ((l c : ℕ) → Callable gs l c → (i : ℕ) → i < c → r l i ≡ r' l i) → node_row o r h n us ≡ node_row o r' h n us
  node_same r r' gs Unit' n us e f q = refl
  node_same r r' gs (Number v) n us e f q = refl
  node_same r r' gs (Name l) n us e f q = refl
  node_same r r' gs (Let k) n us e f q = refl
  node_same r r' gs (Take k) n us e f q = refl
  node_same r r' gs Pair n us e f q = refl
  node_same r r' gs (Split k) n us e f q = refl
  node_same r r' gs (Left y) n us e f q = refl
  node_same r r' gs (Right y) n us e f q = refl
  node_same r r' gs (Case k) n us e f q = refl
  node_same r r' gs (Call l c) n us e f q = call_same o (r l.index) (r' l.index) n 0 us (λ i le lt. q l.index c f i (omega (arith, e)))
  node_same r r' gs Add n us e f q = refl
  node_same r r' gs Less n us e f q = refl

-- ---- what fits, by the kids

abbrev pub KidsFit : List FlatLeg → ℕ → Node → ℕ → List Term → Type 0
KidsFit gs n h k [] = Unit {0}
KidsFit gs n h k (a ∷ ts) = Fit gs (kid_width n h k) a × KidsFit gs n h (suc k) ts

fit_arguments : (gs : List FlatLeg) (n k : ℕ) (l : LegId') (c : ℕ) (ts : Terms) → FitEach gs n ts → KidsFit gs n (Call l c) k (arguments ts)
fit_arguments gs n k l c t_none f = tt
fit_arguments gs n zero l c (t_more a ts) f = (f.0, fit_arguments gs n 1 l c ts f.1)
fit_arguments gs n (suc k) l c (t_more a ts) f = (f.0, fit_arguments gs n (suc (suc k)) l c ts f.1)

pub fit_view : (gs : List FlatLeg) (n : ℕ) (t : Term) → Fit gs n t → (n ≤ max_levels) × HeadFit gs n (head t) × KidsFit gs n (head t) 0 (kids t)
fit_view gs n t_unit f = (f, tt, tt)
fit_view gs n (t_number v) f = (f, tt, tt)
fit_view gs n (t_name l) f = (f.0, f.1, tt)
fit_view gs n (t_let k a b) f = (f.0, tt, (f.1, (f.2, tt)))
fit_view gs n (t_take k a b) f = (f.0, tt, (f.1, (f.2, tt)))
fit_view gs n (t_pair a b) f = (f.0, tt, (f.1, (f.2, tt)))
fit_view gs n (t_split k a b) f = (f.0, tt, (f.1, (f.2, tt)))
fit_view gs n (t_left y a) f = (f.0, tt, (f.1, tt))
fit_view gs n (t_right y a) f = (f.0, tt, (f.1, tt))
fit_view gs n (t_case k a b c) f = (f.0, tt, (f.1, (f.2, (f.3, tt))))
fit_view gs n (t_call l ts) f = (f.0, f.1, fit_arguments gs n 0 (the_leg l) (how_many ts) ts f.2)
fit_view gs n (t_add a b) f = (f.0, tt, (f.1, (f.2, tt)))
fit_view gs n (t_less a b) f = (f.0, tt, (f.1, (f.2, tt)))
