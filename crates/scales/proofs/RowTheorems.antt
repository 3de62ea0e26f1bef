-- The laws of rows, and theorems over every lawful scale.
use Rattle.std.proofs.Common.{◌≡◌, ℕ, zero, suc, true, false, List, [], ◌∷◌, ◌++◌, length, sym, refl, ap, ◌∙◌, subst, ap₂, arith}
use Rattle.std.specs.List.{fold}
use Rattle.std.proofs.lemmas.Bool.{and_parts, and_from, both_ways}
use Rattle.scales.specs.Laws.{Ops, Laws}
use Rattle.scales.specs.Rows.{row_plus, row_join, row_times, row_zero, row_leq, total, RowLaws, Regroups, Swaps}
use Rattle.scales.proofs.RowLists.{leq_places, places_leq}

module _ {S : Type 0} {o : Ops S} (L : Laws o) where
  -- sum keeps the order in its second argument too
  pub plus_mono_r : (a b c : S) → o.leq a b ≡ true → o.leq (o.plus c a) (o.plus c b) ≡ true
  plus_mono_r a b c h = subst (λ (x : S). o.leq x (o.plus c b) ≡ true) (L.plus_comm a c) (subst (λ (x : S). o.leq (o.plus a c) x ≡ true) (L.plus_comm b c) (L.plus_mono a b c h))

  pub zero_plus : (a : S) → o.plus a o.zero ≡ a
  zero_plus a = L.plus_comm a o.zero ∙ L.plus_zero a

  pub regroup : (a b c d : S) → o.plus (o.plus a b) (o.plus c d) ≡ o.plus (o.plus a c) (o.plus b d)
  regroup a b c d =
      L.plus_assoc a b (o.plus c d)
      ∙ ap (o.plus a) (sym (L.plus_assoc b c d) ∙ ap (λ x. o.plus x d) (L.plus_comm b c) ∙ L.plus_assoc c b d)
      ∙ sym (L.plus_assoc a c (o.plus b d))

  -- ---- rows

  abbrev leq_cons : (x y : S) (xs ys : List S) → o.leq x y ≡ true → row_leq o xs ys ≡ true → row_leq o (x ∷ xs) (y ∷ ys) ≡ true
  leq_cons x y xs ys h k = and_from (o.leq x y) (row_leq o xs ys) h k

  head_leq : (x y : S) (xs ys : List S) → row_leq o (x ∷ xs) (y ∷ ys) ≡ true → o.leq x y ≡ true
  head_leq x y xs ys h = (and_parts (o.leq x y) (row_leq o xs ys) h).0

  tail_leq : (x y : S) (xs ys : List S) → row_leq o (x ∷ xs) (y ∷ ys) ≡ true → row_leq o xs ys ≡ true
  tail_leq x y xs ys h = (and_parts (o.leq x y) (row_leq o xs ys) h).1

  never : {P : Type 0} → false ≡ true → P
  never h = absurd (both_ways false refl h)

  row_plus_comm : (xs ys : List S) → length xs ≡ length ys → row_plus o xs ys ≡ row_plus o ys xs
  row_plus_comm [] [] e = refl
  row_plus_comm [] (y ∷ ys) e = absurd (omega arith)
  row_plus_comm (x ∷ xs) [] e = absurd (omega arith)
  row_plus_comm (x ∷ xs) (y ∷ ys) e = ap₂ ◌∷◌ (L.plus_comm x y) (row_plus_comm xs ys (omega arith))

  row_plus_assoc : (xs ys zs : List S) → length xs ≡ length ys → row_plus o (row_plus o xs ys) zs ≡ row_plus o xs (row_plus o ys zs)
  row_plus_assoc [] ys zs e = refl
  row_plus_assoc (x ∷ xs) [] zs e = absurd (omega arith)
  row_plus_assoc (x ∷ xs) (y ∷ ys) [] e = refl
  row_plus_assoc (x ∷ xs) (y ∷ ys) (z ∷ zs) e = ap₂ ◌∷◌ (L.plus_assoc x y z) (row_plus_assoc xs ys zs (omega arith))

  row_plus_zero : (xs : List S) → row_plus o (row_zero o (length xs)) xs ≡ xs
  row_plus_zero [] = refl
  row_plus_zero (x ∷ xs) = ap₂ ◌∷◌ (L.plus_zero x) (row_plus_zero xs)

  row_zero_plus : (xs : List S) (n : ℕ) → row_plus o xs (row_zero o n) ≡ xs
  row_zero_plus [] n = refl
  row_zero_plus (x ∷ xs) zero = refl
  row_zero_plus (x ∷ xs) (suc n) = ap₂ ◌∷◌ (zero_plus x) (row_zero_plus xs n)

  row_times_assoc : (a b : S) (xs : List S) → row_times o (o.times a b) xs ≡ row_times o a (row_times o b xs)
  row_times_assoc a b [] = refl
  row_times_assoc a b (x ∷ xs) = ap₂ ◌∷◌ (L.times_assoc a b x) (row_times_assoc a b xs)

  row_one_times : (xs : List S) → row_times o o.one xs ≡ xs
  row_one_times [] = refl
  row_one_times (x ∷ xs) = ap₂ ◌∷◌ (L.one_times x) (row_one_times xs)

  row_zero_times : (xs : List S) → row_times o o.zero xs ≡ row_zero o (length xs)
  row_zero_times [] = refl
  row_zero_times (x ∷ xs) = ap₂ ◌∷◌ (L.zero_times x) (row_zero_times xs)

  row_times_zero : (a : S) (n : ℕ) → row_times o a (row_zero o n) ≡ row_zero o n
  row_times_zero a zero = refl
  row_times_zero a (suc n) = ap₂ ◌∷◌ (L.times_zero a) (row_times_zero a n)

  row_plus_times : (a b : S) (xs : List S) → row_times o (o.plus a b) xs ≡ row_plus o (row_times o a xs) (row_times o b xs)
  row_plus_times a b [] = refl
  row_plus_times a b (x ∷ xs) = ap₂ ◌∷◌ (L.plus_times a b x) (row_plus_times a b xs)

  row_leq_refl : (xs : List S) → row_leq o xs xs ≡ true
  row_leq_refl [] = refl
  row_leq_refl (x ∷ xs) = leq_cons x x xs xs (L.leq_refl x) (row_leq_refl xs)

  row_times_plus : (a : S) (xs ys : List S) → row_leq o (row_times o a (row_plus o xs ys)) (row_plus o (row_times o a xs) (row_times o a ys)) ≡ true
  row_times_plus a [] ys = refl
  row_times_plus a (x ∷ xs) [] = row_leq_refl (row_times o a (x ∷ xs))
  row_times_plus a (x ∷ xs) (y ∷ ys) = leq_cons _ _ (row_times o a (row_plus o xs ys)) (row_plus o (row_times o a xs) (row_times o a ys)) (L.times_plus a x y) (row_times_plus a xs ys)

  row_leq_trans : (xs ys zs : List S) → row_leq o xs ys ≡ true → row_leq o ys zs ≡ true → row_leq o xs zs ≡ true
  row_leq_trans [] [] zs h k = k
  row_leq_trans [] (y ∷ ys) zs h k = never h
  row_leq_trans (x ∷ xs) [] zs h k = never h
  row_leq_trans (x ∷ xs) (y ∷ ys) [] h k = never k
  row_leq_trans (x ∷ xs) (y ∷ ys) (z ∷ zs) h k =
      leq_cons x z xs zs (L.leq_trans x y z (head_leq x y xs ys h) (head_leq y z ys zs k))
      (row_leq_trans xs ys zs (tail_leq x y xs ys h) (tail_leq y z ys zs k))

  row_leq_anti : (xs ys : List S) → row_leq o xs ys ≡ true → row_leq o ys xs ≡ true → xs ≡ ys
  row_leq_anti [] [] h k = refl
  row_leq_anti [] (y ∷ ys) h k = never h
  row_leq_anti (x ∷ xs) [] h k = never h
  row_leq_anti (x ∷ xs) (y ∷ ys) h k =
      ap₂ ◌∷◌ (L.leq_anti x y (head_leq x y xs ys h) (head_leq y x ys xs k)) (row_leq_anti xs ys (tail_leq x y xs ys h) (tail_leq y x ys xs k))

  row_plus_mono_l : (xs ys zs : List S) → row_leq o xs ys ≡ true → row_leq o (row_plus o xs zs) (row_plus o ys zs) ≡ true
  row_plus_mono_l [] [] zs h = refl
  row_plus_mono_l [] (y ∷ ys) zs h = never h
  row_plus_mono_l (x ∷ xs) [] zs h = never h
  row_plus_mono_l (x ∷ xs) (y ∷ ys) [] h = h
  row_plus_mono_l (x ∷ xs) (y ∷ ys) (z ∷ zs) h =
      leq_cons _ _ (row_plus o xs zs) (row_plus o ys zs) (L.plus_mono x y z (head_leq x y xs ys h)) (row_plus_mono_l xs ys zs (tail_leq x y xs ys h))

  row_plus_mono_r : (xs ys zs : List S) → row_leq o ys zs ≡ true → row_leq o (row_plus o xs ys) (row_plus o xs zs) ≡ true
  row_plus_mono_r [] ys zs h = refl
  row_plus_mono_r (x ∷ xs) [] [] h = row_leq_refl (x ∷ xs)
  row_plus_mono_r (x ∷ xs) [] (z ∷ zs) h = never h
  row_plus_mono_r (x ∷ xs) (y ∷ ys) [] h = never h
  row_plus_mono_r (x ∷ xs) (y ∷ ys) (z ∷ zs) h =
      leq_cons _ _ (row_plus o xs ys) (row_plus o xs zs) (plus_mono_r y z x (head_leq y z ys zs h)) (row_plus_mono_r xs ys zs (tail_leq y z ys zs h))

  row_times_mono_l : (a b : S) (xs : List S) → o.leq a b ≡ true → row_leq o (row_times o a xs) (row_times o b xs) ≡ true
  row_times_mono_l a b [] h = refl
  row_times_mono_l a b (x ∷ xs) h = leq_cons _ _ (row_times o a xs) (row_times o b xs) (L.times_mono_l a b x h) (row_times_mono_l a b xs h)

  row_times_mono_r : (a : S) (xs ys : List S) → row_leq o xs ys ≡ true → row_leq o (row_times o a xs) (row_times o a ys) ≡ true
  row_times_mono_r a [] [] h = refl
  row_times_mono_r a [] (y ∷ ys) h = never h
  row_times_mono_r a (x ∷ xs) [] h = never h
  row_times_mono_r a (x ∷ xs) (y ∷ ys) h =
      leq_cons _ _ (row_times o a xs) (row_times o a ys) (L.times_mono_r x y a (head_leq x y xs ys h)) (row_times_mono_r a xs ys (tail_leq x y xs ys h))

  row_join_l : (xs ys : List S) → row_leq o xs (row_join o xs ys) ≡ true
  row_join_l [] ys = refl
  row_join_l (x ∷ xs) [] = row_leq_refl (x ∷ xs)
  row_join_l (x ∷ xs) (y ∷ ys) = leq_cons _ _ xs (row_join o xs ys) (L.join_l x y) (row_join_l xs ys)

  row_join_r : (xs ys : List S) → length xs ≡ length ys → row_leq o ys (row_join o xs ys) ≡ true
  row_join_r [] [] e = refl
  row_join_r [] (y ∷ ys) e = absurd (omega arith)
  row_join_r (x ∷ xs) [] e = absurd (omega arith)
  row_join_r (x ∷ xs) (y ∷ ys) e = leq_cons _ _ ys (row_join o xs ys) (L.join_r x y) (row_join_r xs ys (omega arith))

  row_join_least : (xs ys zs : List S) → row_leq o xs zs ≡ true → row_leq o ys zs ≡ true → row_leq o (row_join o xs ys) zs ≡ true
  row_join_least [] ys zs h k = h
  row_join_least (x ∷ xs) [] zs h k = h
  row_join_least (x ∷ xs) (y ∷ ys) [] h k = never h
  row_join_least (x ∷ xs) (y ∷ ys) (z ∷ zs) h k =
      leq_cons _ _ (row_join o xs ys) zs (L.join_least x y z (head_leq x z xs zs h) (head_leq y z ys zs k))
      (row_join_least xs ys zs (tail_leq x z xs zs h) (tail_leq y z ys zs k))

  pub row_laws : RowLaws o
  row_laws = record {
    plus_comm = row_plus_comm;
    plus_assoc = row_plus_assoc;
    plus_zero = row_plus_zero;
    zero_plus = row_zero_plus;
    times_assoc = row_times_assoc;
    one_times = row_one_times;
    zero_times = row_zero_times;
    times_zero = row_times_zero;
    plus_times = row_plus_times;
    times_plus = row_times_plus;
    leq_places = leq_places o;
    places_leq = λ xs ys p. places_leq o xs ys p.lengths p.places;
    leq_refl = row_leq_refl;
    leq_trans = row_leq_trans;
    leq_anti = row_leq_anti;
    plus_mono_l = row_plus_mono_l;
    plus_mono_r = row_plus_mono_r;
    times_mono_l = row_times_mono_l;
    times_mono_r = row_times_mono_r;
    join_l = row_join_l;
    join_r = row_join_r;
    join_least = row_join_least;
  }

  -- ---- totals

  pub total_append : (xs ys : List S) → total o (xs ++ ys) ≡ o.plus (total o xs) (total o ys)
  total_append [] ys = sym (L.plus_zero (total o ys))
  total_append (x ∷ xs) ys = ap (o.plus x) (total_append xs ys) ∙ sym (L.plus_assoc x (total o xs) (total o ys))

  -- a sum from the first grade on
  sum_on : (a : S) (xs : List S) → fold o.plus a xs ≡ o.plus a (total o xs)
  sum_on a [] = sym (zero_plus a)
  sum_on a (x ∷ xs) = sum_on (o.plus a x) xs ∙ L.plus_assoc a x (total o xs)

  pub sum_is : (xs : List S) → fold o.plus o.zero xs ≡ total o xs
  sum_is xs = sum_on o.zero xs ∙ L.plus_zero (total o xs)

pub regroups : Regroups
regroups S = regroup S.laws

pub swaps : Swaps
swaps S xs ys = let L = S.laws in total_append L xs ys ∙ L.plus_comm (total S.ops xs) (total S.ops ys) ∙ sym (total_append L ys xs)
