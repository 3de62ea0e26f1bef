-- The check of an expression by those of its kids, in order. Assumes nothing.
use Rattle.std.proofs.Common.{◌≡◌, ℕ, zero, suc, ◌+◌, Bool, true, false, cond, eqb, leb, List, [], ◌∷◌, ◌++◌, length, Some, None, Ok, Err, Option, sym, refl, ap, ◌∙◌, append_assoc, append-nil, length-append, arith}
use Rattle.std.specs.List.{slice_get}
use Rattle.plan.specs.declared.TypeId.{TypeId}
use Rattle.plan.specs.declared.LegId.{LegId as LegId'}
use Rattle.plan.specs.declared.Node.TheVariants.{Pair, Left, Right, Call, Add, Less}
use Rattle.plan.specs.declared.faults.TypeFault.{TypeFault}
use Rattle.plan.specs.declared.faults.TypeFault.TheVariants.{Scope as BadScope}
use Rattle.plan.specs.Limits.{max_levels}
use Rattle.plan.specs.Trees.{Term, t_unit, t_number, t_name, t_let, t_take, t_pair, t_split, t_left, t_right, t_case, t_call, t_add, t_less, Terms, t_none, t_more, how_many, the_leg, flat, flats, head, arguments, kids}
use Rattle.typer.specs.Typing.{World, Reached, then_type, there_at, if_room, if_same, pair_parts, either_parts, check, check_all, size}
use Rattle.typer.specs.Walk.{kid_at, kid_scope, node_type, check_kids}
use Rattle.typer.specs.Levels.{levels, levels_of_each}
use Rattle.typer.specs.Depths.{kid_levels}

-- ---- one kid, two kids, and then the node's own rule

abbrev Rule : Type 0
Rule = List TypeId → Reached TypeId

after_one : (r : Reached TypeId) (us : List TypeId) (H : Rule) → then_type r (λ v. H (us ++ (v ∷ []))) ≡ then_type (then_type r (λ v. Ok (us ++ (v ∷ [])))) H
after_one (Ok v) us H = refl
after_one (Err e) us H = refl

after_two : (r : Reached TypeId) (s : Reached TypeId) (H : Rule) → then_type r (λ u. then_type s (λ v. H (u ∷ v ∷ []))) ≡ then_type (then_type r (λ u. then_type s (λ v. Ok (u ∷ v ∷ [])))) H
after_two (Ok u) s H = after_one s (u ∷ []) H
after_two (Err e) s H = refl

-- a first kid, then a body with more levels, whose type is the node's
opened_view : (b : Bool) (Δ : List TypeId) (f : TypeFault) (u : TypeId) (c : List TypeId → Reached TypeId)
    → cond b (c Δ) (Err f) ≡ then_type (then_type (cond b (Ok Δ) (Err f)) (λ Δ. then_type (c Δ) (λ v. Ok (u ∷ v ∷ [])))) (λ us. Ok (kid_at us 1))
opened_view false Δ f u c = refl
opened_view true Δ f u c = go (c Δ)
  where
    go : (q : Reached TypeId) → q ≡ then_type (then_type q (λ v. Ok (u ∷ v ∷ []))) (λ us. Ok (kid_at us 1))
    go (Ok v) = refl
    go (Err e) = refl

module _ (w : World) (Γ : List TypeId) (i : ℕ) where
  abbrev View : Term → Type 0
  View t = check w Γ i t ≡ then_type (check_kids w Γ i (head t) [] (suc i) (kids t)) (node_type w Γ i (head t))

  let_view : (r : Reached TypeId) (c : List TypeId → Reached TypeId)
      → then_type r (λ u. if_room i 1 Γ (c (u ∷ Γ))) ≡ then_type (then_type r (λ u. then_type (if_room i 1 Γ (Ok (u ∷ Γ))) (λ Δ. then_type (c Δ) (λ v. Ok (u ∷ v ∷ []))))) (λ us. Ok (kid_at us 1))
  let_view (Err e) c = refl
  let_view (Ok u) c = opened_view (leb (1 + length Γ) max_levels) (u ∷ Γ) (BadScope i) u c

  split_view : (o : Option (TypeId × TypeId)) (u : TypeId) (c : List TypeId → Reached TypeId)
      → then_type (there_at i o) (λ p. if_room i 2 Γ (c (p.1 ∷ p.0 ∷ Γ)))
      ≡ then_type (then_type (then_type (there_at i o) (λ p. if_room i 2 Γ (Ok (p.1 ∷ p.0 ∷ Γ)))) (λ Δ. then_type (c Δ) (λ v. Ok (u ∷ v ∷ [])))) (λ us. Ok (kid_at us 1))
  split_view None u c = refl
  split_view (Some p) u c = opened_view (leb (2 + length Γ) max_levels) (p.1 ∷ p.0 ∷ Γ) (BadScope i) u c

  case_view : (o : Option (TypeId × TypeId)) (b : Bool) (x : TypeId) (c d : List TypeId → Reached TypeId)
      → then_type (there_at i o) (λ p. cond b (then_type (c (p.0 ∷ Γ)) (λ u. then_type (d (p.1 ∷ Γ)) (λ v. if_same i u v (Ok u)))) (Err (BadScope i)))
      ≡ then_type (then_type (then_type (there_at i o) (λ p. cond b (Ok (p.0 ∷ Γ)) (Err (BadScope i)))) (λ Δ. then_type (c Δ) (λ u.
      then_type (then_type (there_at i o) (λ p. cond b (Ok (p.1 ∷ Γ)) (Err (BadScope i)))) (λ Δ. then_type (d Δ) (λ v. Ok (x ∷ u ∷ v ∷ [])))))) (λ us. if_same i (kid_at us 1) (kid_at us 2) (Ok (kid_at us 1)))
  case_view None b x c d = refl
  case_view (Some p) false x c d = refl
  case_view (Some p) true x c d = go (c (p.0 ∷ Γ))
    where
      last : (u : TypeId) (q : Reached TypeId) → then_type q (λ v. if_same i u v (Ok u)) ≡ then_type (then_type q (λ v. Ok (x ∷ u ∷ v ∷ []))) (λ us. if_same i (kid_at us 1) (kid_at us 2) (Ok (kid_at us 1)))
      last u (Ok v) = refl
      last u (Err e) = refl

      go : (q : Reached TypeId) → then_type q (λ u. then_type (d (p.1 ∷ Γ)) (λ v. if_same i u v (Ok u)))
          ≡ then_type (then_type q (λ u. then_type (d (p.1 ∷ Γ)) (λ v. Ok (x ∷ u ∷ v ∷ [])))) (λ us. if_same i (kid_at us 1) (kid_at us 2) (Ok (kid_at us 1)))
      go (Ok u) = last u (d (p.1 ∷ Γ))
      go (Err e) = refl

  first_kid : (r : Reached TypeId) (f g : TypeId → Reached TypeId) → ((u : TypeId) → f u ≡ g u) → then_type r f ≡ then_type r g
  first_kid (Ok u) f g h = h u
  first_kid (Err e) f g h = refl

  -- the rest of a check behind the first kid is joined to it
  joined : (r : Reached TypeId) (f : TypeId → Reached (List TypeId)) (H : Rule) → then_type r (λ u. then_type (f u) H) ≡ then_type (then_type r f) H
  joined (Ok u) f H = refl
  joined (Err e) f H = refl

  own_scope : (l : LegId') (n : ℕ) (us : List TypeId) → kid_scope w Γ i (Call l n) us ≡ Ok Γ
  own_scope l n us = go (eqb (length us) 0)
    where
      go : (b : Bool) → cond {A = Reached (List TypeId)} b (Ok Γ) (Ok Γ) ≡ Ok Γ
      go true = refl
      go false = refl

  arguments_view : (ts : Terms) (l : LegId') (n : ℕ) (us : List TypeId) (p : ℕ) → check_kids w Γ i (Call l n) us p (arguments ts) ≡ then_type (check_all w Γ p ts) (λ ys. Ok (us ++ ys))
  arguments_view t_none l n us p = ap Ok (sym (append-nil us))
  arguments_view (t_more a ts) l n us p =
      ap (λ s. then_type s (λ Δ. then_type (check w Δ p a) (λ u. check_kids w Γ i (Call l n) (us ++ (u ∷ [])) (p + size a) (arguments ts)))) (own_scope l n us)
      ∙ go (check w Γ p a) (λ u. arguments_view ts l n (us ++ (u ∷ [])) (p + size a))
    where
      more : (u : TypeId) (q : Reached (List TypeId)) → then_type q (λ ys. Ok ((us ++ (u ∷ [])) ++ ys)) ≡ then_type (then_type q (λ ys. Ok (u ∷ ys))) (λ ys. Ok (us ++ ys))
      more u (Ok ys) = ap Ok (append_assoc us (u ∷ []) ys)
      more u (Err e) = refl

      go : (r : Reached TypeId) → ((u : TypeId) → check_kids w Γ i (Call l n) (us ++ (u ∷ [])) (p + size a) (arguments ts) ≡ then_type (check_all w Γ (p + size a) ts) (λ ys. Ok ((us ++ (u ∷ [])) ++ ys)))
          → then_type r (λ u. check_kids w Γ i (Call l n) (us ++ (u ∷ [])) (p + size a) (arguments ts)) ≡ then_type (then_type r (λ u. then_type (check_all w Γ (p + size a) ts) (λ ys. Ok (u ∷ ys)))) (λ ys. Ok (us ++ ys))
      go (Ok u) h = h u ∙ more u (check_all w Γ (p + size a) ts)
      go (Err e) h = refl

  through : (r : Reached (List TypeId)) (H : Rule) → then_type r H ≡ then_type (then_type r (λ ys. Ok ([] ++ ys))) H
  through (Ok ys) H = refl
  through (Err e) H = refl

  pub view : (t : Term) → View t
  view t_unit = refl
  view (t_number n) = refl
  view (t_name l) = refl
  view (t_let k a b) = let_view (check w Γ (suc i) a) (λ Δ. check w Δ (suc i + size a) b)
  view (t_take k a b) = let_view (check w Γ (suc i) a) (λ Δ. check w Δ (suc i + size a) b)
  view (t_pair a b) = after_two (check w Γ (suc i) a) (check w Γ (suc i + size a) b) (node_type w Γ i Pair)
  view (t_split k a b) =
      first_kid (check w Γ (suc i) a) _ _ (λ x. split_view (pair_parts (slice_get w.types x.index)) x (λ Δ. check w Δ (suc i + size a) b)) ∙ joined (check w Γ (suc i) a) _ _
  view (t_left y a) = after_one (check w Γ (suc i) a) [] (node_type w Γ i (Left y))
  view (t_right y a) = after_one (check w Γ (suc i) a) [] (node_type w Γ i (Right y))
  view (t_case k a b c) =
      first_kid (check w Γ (suc i) a) _ _ (λ x. case_view (either_parts (slice_get w.types x.index)) (leb (1 + length Γ) max_levels) x (λ Δ. check w Δ (suc i + size a) b) (λ Δ. check w Δ (suc i + size a + size b) c))
      ∙ joined (check w Γ (suc i) a) _ _
  view (t_call l ts) =
      through (check_all w Γ (suc i) ts) (node_type w Γ i (Call (the_leg l) (how_many ts)))
      ∙ ap (λ r. then_type r (node_type w Γ i (Call (the_leg l) (how_many ts)))) (sym (arguments_view ts (the_leg l) (how_many ts) [] (suc i)))
  view (t_add a b) = after_two (check w Γ (suc i) a) (check w Γ (suc i + size a) b) (node_type w Γ i Add)
  view (t_less a b) = after_two (check w Γ (suc i) a) (check w Γ (suc i + size a) b) (node_type w Γ i Less)

-- ---- levels, the same way

each_levels : (d : ℕ) (ts : Terms) (l : LegId') (n k : ℕ) → levels_of_each d ts ≡ kid_levels d (Call l n) k (arguments ts)
each_levels d t_none l n k = refl
each_levels d (t_more a ts) l n zero = ap (λ r. levels d a ++ r) (each_levels d ts l n 1)
each_levels d (t_more a ts) l n (suc k) = ap (λ r. levels d a ++ r) (each_levels d ts l n (suc (suc k)))

pub levels_view : (d : ℕ) (t : Term) → levels d t ≡ d ∷ kid_levels d (head t) 0 (kids t)
levels_view d t_unit = refl
levels_view d (t_number n) = refl
levels_view d (t_name l) = refl
levels_view d (t_let k a b) = grind (arith, append-nil)
levels_view d (t_take k a b) = grind (arith, append-nil)
levels_view d (t_pair a b) = grind (arith, append-nil)
levels_view d (t_split k a b) = grind (arith, append-nil)
levels_view d (t_left y a) = grind (arith, append-nil)
levels_view d (t_right y a) = grind (arith, append-nil)
levels_view d (t_case k a b c) = grind (arith, append-nil)
levels_view d (t_call l ts) = ap (λ r. d ∷ r) (each_levels d ts (the_leg l) (how_many ts) 0)
levels_view d (t_add a b) = grind (arith, append-nil)
levels_view d (t_less a b) = grind (arith, append-nil)

mutual
  -- one for each node
  pub levels_length : (d : ℕ) (t : Term) → length (levels d t) ≡ length (flat t)
  levels_length d t_unit = refl
  levels_length d (t_number n) = refl
  levels_length d (t_name l) = refl
  levels_length d (t_let k a b) = grind (arith, length-append, levels_length d a, levels_length (d + 1) b)
  levels_length d (t_take k a b) = grind (arith, length-append, levels_length d a, levels_length (d + 1) b)
  levels_length d (t_pair a b) = grind (arith, length-append, levels_length d a, levels_length d b)
  levels_length d (t_split k a b) = grind (arith, length-append, levels_length d a, levels_length (d + 2) b)
  levels_length d (t_left y a) = ap suc (levels_length d a)
  levels_length d (t_right y a) = ap suc (levels_length d a)
  levels_length d (t_case k a b c) = grind (arith, length-append, levels_length d a, levels_length (d + 1) b, levels_length (d + 1) c)
  levels_length d (t_call l ts) = ap suc (each_length d ts)
  levels_length d (t_add a b) = grind (arith, length-append, levels_length d a, levels_length d b)
  levels_length d (t_less a b) = grind (arith, length-append, levels_length d a, levels_length d b)

  each_length : (d : ℕ) (ts : Terms) → length (levels_of_each d ts) ≡ length (flats ts)
  each_length d t_none = refl
  each_length d (t_more a ts) = grind (arith, length-append, levels_length d a, each_length d ts)
