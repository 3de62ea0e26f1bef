-- The worked examples, computed.
use Rattle.std.proofs.Common.{◌≡◌, ℕ, zero, suc, ◌^◌, ◌<◌, ◌≤◌, Bool, true, ◌&&◌, leb, List, [], ◌∷◌, length, get_or, sym, refl, subst, add-one, arith}
use lib.Bits.{bit_or}
use Rattle.std.proofs.lemmas.Bool.{and_parts, leb-true}
use Rattle.scales.specs.Examples.{Examples, one_or_two, just_two, none_or_three}
use Rattle.scales.specs.Masks.{bit, gather, any, is_sum, sum, repeated, is_product, product}
use Rattle.scales.specs.Set.{Holds, set_one, set_plus, set_times}
use Rattle.scales.specs.declared.set.Set.{Set}
use Rattle.scales.proofs.SetCode.{Marked, marked_none, marked_more, marked_set}

-- the mask of the first i numbers of a list
abbrev masked : List ℕ → ℕ → ℕ
masked xs zero = 0
masked xs (suc i) = bit_or (masked xs i) (2 ^ get_or xs i 0)

abbrev all_small : List ℕ → Bool
all_small [] = true
all_small (x ∷ xs) = leb x 15 && all_small xs

small_at : (xs : List ℕ) → all_small xs ≡ true → (k : ℕ) → k < length xs → get_or xs k 0 ≤ 15
small_at [] h k l = absurd (omega arith)
small_at (x ∷ xs) h zero l = leb-true x 15 (and_parts (leb x 15) (all_small xs) h).0
small_at (x ∷ xs) h (suc k) l = small_at xs (and_parts (leb x 15) (all_small xs) h).1 k (omega arith)

marked_by : (xs : List ℕ) → all_small xs ≡ true → (i : ℕ) → i ≤ length xs → Marked xs i (masked xs i)
marked_by xs h zero l = marked_none xs
marked_by xs h (suc i) l = subst (λ (n : ℕ). Marked xs n (masked xs (suc i))) (add-one i) (marked_more xs i (masked xs i) (get_or xs i 0) (marked_by xs h i (omega arith)) refl (small_at xs h i (omega arith)))

-- a set whose mask is the list's holds the list
holds_by : (a : Set) (xs : List ℕ) → all_small xs ≡ true → masked xs (length xs) ≡ a.mask → Holds a xs
holds_by a xs h e = (marked_set xs (length xs) a refl (subst (λ (m : ℕ). Marked xs (length xs) m) e (marked_by xs h (length xs) (omega arith)))).1

scaled : product 6 (sum 2 2) ≡ 20
unfolding product is_product repeated sum is_sum gather any bit
scaled = refl

summed : sum 6 6 ≡ 28
unfolding sum is_sum gather any bit
summed = refl

twice : product 4 9 ≡ 73
unfolding product is_product repeated sum is_sum gather any bit
twice = refl

pub examples : Examples
examples = record {
  span_scaled = (refl, refl);
  span_summed = (refl, refl);
  set_1 = holds_by set_one (1 ∷ []) refl refl;
  set_1_2 = holds_by one_or_two (1 ∷ 2 ∷ []) refl refl;
  set_2 = holds_by just_two (2 ∷ []) refl refl;
  set_0_3 = holds_by none_or_three (0 ∷ 3 ∷ []) refl refl;
  set_scaled = holds_by (set_times one_or_two (set_plus set_one set_one)) (2 ∷ 4 ∷ []) refl (sym scaled);
  set_summed = holds_by (set_plus one_or_two one_or_two) (2 ∷ 3 ∷ 4 ∷ []) refl (sym summed);
  set_twice = holds_by (set_times just_two none_or_three) (0 ∷ 3 ∷ 6 ∷ []) refl (sym twice);
}
