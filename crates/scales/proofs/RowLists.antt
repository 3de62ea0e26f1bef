-- Rows as lists: what `zipInto` and `row_leq` are at each place.
use Rattle.std.proofs.Common.{◌≡◌, ℕ, zero, suc, ◌<◌, ◌≤◌, true, false, ◌&&◌, List, [], ◌∷◌, length, get_or, sym, refl, ap, ◌∙◌, inl, inr, arith}
use Rattle.std.proofs.lemmas.List.{same_lists}
use Rattle.std.proofs.lemmas.Bool.{and_parts, and_from, and_right, both_ways, cases_lt}
use Rattle.std.specs.List.{list_all, zip}
use Rattle.scales.specs.Laws.{Ops}
use Rattle.scales.specs.Rows.{zipInto, row_leq, RowLeq}

pub length_zip : {X : Type 0} (f : X → X → X) (xs ys : List X) → length (zipInto f xs ys) ≡ length xs
length_zip f [] ys = refl
length_zip f (x ∷ xs) [] = refl
length_zip f (x ∷ xs) (y ∷ ys) = ap suc (length_zip f xs ys)

pub get_or_zip : {X : Type 0} (f : X → X → X) (xs ys : List X) (k : ℕ) (d : X) → k < length xs → k < length ys → get_or (zipInto f xs ys) k d ≡ f (get_or xs k d) (get_or ys k d)
get_or_zip f [] ys k d h l = absurd (omega arith)
get_or_zip f (x ∷ xs) [] k d h l = absurd (omega arith)
get_or_zip f (x ∷ xs) (y ∷ ys) zero d h l = refl
get_or_zip f (x ∷ xs) (y ∷ ys) (suc k) d h l = get_or_zip f xs ys k d (omega arith) (omega arith)

pub get_or_zip_past : {X : Type 0} (f : X → X → X) (xs ys : List X) (k : ℕ) (d : X) → length ys ≤ k → get_or (zipInto f xs ys) k d ≡ get_or xs k d
get_or_zip_past f [] ys k d h = refl
get_or_zip_past f (x ∷ xs) [] k d h = refl
get_or_zip_past f (x ∷ xs) (y ∷ ys) zero d h = absurd (omega arith)
get_or_zip_past f (x ∷ xs) (y ∷ ys) (suc k) d h = get_or_zip_past f xs ys k d (omega arith)

-- a list with f at the places that both have, and the first row's grades at the others, is `zipInto`
pub zip_places : {X : Type 0} (f : X → X → X) (xs ys zs : List X) → length zs ≡ length xs
    → ((k : ℕ) (d : X) → k < length xs → k < length ys → get_or zs k d ≡ f (get_or xs k d) (get_or ys k d))
    → ((k : ℕ) (d : X) → length ys ≤ k → get_or zs k d ≡ get_or xs k d)
    → zs ≡ zipInto f xs ys
zip_places f xs ys zs e at past =
    same_lists zs (zipInto f xs ys) (e ∙ sym (length_zip f xs ys))
    (λ k d lt. elim (cases_lt k (length ys)) [
      | inl h ↦ at k d (omega arith) h ∙ sym (get_or_zip f xs ys k d (omega arith) h)
      | inr h ↦ past k d h ∙ sym (get_or_zip_past f xs ys k d h)
    ])

-- ---- order

pub leq_places : {X : Type 0} (o : Ops X) (xs ys : List X) → row_leq o xs ys ≡ true → RowLeq o xs ys
leq_places o [] [] h = record { lengths = refl; places = λ k d l. absurd (omega arith) }
leq_places o [] (y ∷ ys) h = absurd (both_ways false refl h)
leq_places o (x ∷ xs) [] h = absurd (both_ways false refl h)
leq_places {X} o (x ∷ xs) (y ∷ ys) h =
    let r = and_parts (o.leq x y) (row_leq o xs ys) h in
    let t = leq_places o xs ys r.1 in
    record { lengths = ap suc t.lengths; places = at r.0 t.places }
  where
    at : o.leq x y ≡ true → ((k : ℕ) (d : X) → k < length xs → o.leq (get_or xs k d) (get_or ys k d) ≡ true) → (k : ℕ) (d : X) → k < length (x ∷ xs) → o.leq (get_or (x ∷ xs) k d) (get_or (y ∷ ys) k d) ≡ true
    at p q zero d l = p
    at p q (suc k) d l = q k d (omega arith)

pub places_leq : {X : Type 0} (o : Ops X) (xs ys : List X) → length xs ≡ length ys → ((k : ℕ) (d : X) → k < length xs → o.leq (get_or xs k d) (get_or ys k d) ≡ true) → row_leq o xs ys ≡ true
places_leq o [] [] e f = refl
places_leq o [] (y ∷ ys) e f = absurd (omega arith)
places_leq o (x ∷ xs) [] e f = absurd (omega arith)
places_leq o (x ∷ xs) (y ∷ ys) e f = and_from (o.leq x y) (row_leq o xs ys) (f 0 x (omega arith)) (places_leq o xs ys (omega arith) (λ k d l. f (suc k) d (omega arith)))

-- the same as one test of each pair
pub leq_all : {X : Type 0} (o : Ops X) (xs ys : List X) → length xs ≡ length ys → list_all (λ (p : X × X). o.leq p.0 p.1) (zip xs ys) ≡ row_leq o xs ys
leq_all o [] [] e = refl
leq_all o [] (y ∷ ys) e = absurd (omega arith)
leq_all o (x ∷ xs) [] e = absurd (omega arith)
leq_all o (x ∷ xs) (y ∷ ys) e = ap (λ b. o.leq x y && b) (leq_all o xs ys (omega arith))

pub leq_lengths : {X : Type 0} (o : Ops X) (xs ys : List X) → (length xs ≡ length ys → ⊥) → row_leq o xs ys ≡ false
leq_lengths o [] [] e = absurd (e refl)
leq_lengths o [] (y ∷ ys) e = refl
leq_lengths o (x ∷ xs) [] e = refl
leq_lengths o (x ∷ xs) (y ∷ ys) e = and_right (o.leq x y) (row_leq o xs ys) (leq_lengths o xs ys (λ q. e (ap suc q)))
