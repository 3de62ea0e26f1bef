-- Sums of grades over the levels of a scope. Assumes nothing.
use Rattle.std.proofs.Common.{◌≡◌, ℕ, zero, suc, ◌+◌, ◌<◌, ◌≤◌, Bool, true, false, cond, eqb, List, [], ◌∷◌, ◌++◌, length, sym, refl, ap, ◌∙◌, subst, ap₂, suc-add, zero-add, arith}
use Rattle.std.proofs.lemmas.Bool.{eqb-true, eqb-false, eq-eqb, ne_eqb}
use Rattle.scales.specs.Laws.{Ops, Laws, ones}
use Rattle.evaluation.specs.Flight.{Entry, lookup, lookups, at}
use Rattle.evaluation.proofs.Bounded.{lookups_append}
use Rattle.grading.specs.Grading.{Leq, Above, nothing, one_of, both, scaled}
use Rattle.grading.proofs.AtMost.{plus_both, times_both}

-- Σ γ_l · U_l b over the levels of a scope, innermost first
abbrev pub total : {G : Type 0} → Ops G → (ℕ → G) → List (ℕ → G) → ℕ → G
total S γ [] b = S.zero
total S γ (U ∷ Us) b = S.plus (total S γ Us b) (S.times (γ (length Us)) (U b))

module _ {G : Type 0} {S : Ops G} (Z : Laws S) where
  pub plus_zero' : (a : G) → S.plus a S.zero ≡ a
  plus_zero' a = Z.plus_comm a S.zero ∙ Z.plus_zero a

  pub leq_eq : (a b : G) → a ≡ b → Leq S a b
  leq_eq a b p = subst (λ x. Leq S a x) p (Z.leq_refl a)

  -- a ≤ b after a change of either side by an equation
  pub leq_from : (a b c : G) → a ≡ b → Leq S b c → Leq S a c
  leq_from a b c p h = subst (λ x. Leq S x c) (sym p) h

  pub leq_to : (a b c : G) → Leq S a b → b ≡ c → Leq S a c
  leq_to a b c h p = subst (λ x. Leq S a x) p h

  pub ones_add : (m n : ℕ) → ones S (m + n) ≡ S.plus (ones S m) (ones S n)
  ones_add zero n = ap (ones S) (zero-add n) ∙ sym (Z.plus_zero (ones S n))
  ones_add (suc m) n =
      ap (ones S) (suc-add m n) ∙ ap (S.plus S.one) (ones_add m n) ∙ sym (Z.plus_assoc S.one (ones S m) (ones S n))

  pub total_le : (Us : List (ℕ → G)) (δ γ : ℕ → G) (b : ℕ) → Above S (length Us) δ γ → Leq S (total S δ Us b) (total S γ Us b)
  total_le [] δ γ b h = Z.leq_refl S.zero
  total_le (U ∷ Us) δ γ b h =
      plus_both Z (total_le Us δ γ b (λ l k. h l (omega arith)))
      (times_both Z (h (length Us) (omega arith)) (Z.leq_refl (U b)))

  pub total_zero : (Us : List (ℕ → G)) (b : ℕ) → total S (nothing S) Us b ≡ S.zero
  total_zero [] b = refl
  total_zero (U ∷ Us) b = ap₂ S.plus (total_zero Us b) (Z.zero_times (U b)) ∙ Z.plus_zero S.zero

  pub swap_middle : (a b c d : G) → S.plus (S.plus a b) (S.plus c d) ≡ S.plus (S.plus a c) (S.plus b d)
  swap_middle a b c d =
      Z.plus_assoc a b (S.plus c d)
      ∙ ap (S.plus a) (sym (Z.plus_assoc b c d) ∙ ap (λ x. S.plus x d) (Z.plus_comm b c) ∙ Z.plus_assoc c b d)
      ∙ sym (Z.plus_assoc a c (S.plus b d))

  pub total_add : (Us : List (ℕ → G)) (δ ε : ℕ → G) (b : ℕ)
      → total S (both S δ ε) Us b ≡ S.plus (total S δ Us b) (total S ε Us b)
  total_add [] δ ε b = sym (Z.plus_zero S.zero)
  total_add (U ∷ Us) δ ε b =
      ap₂ S.plus (total_add Us δ ε b) (Z.plus_times (δ (length Us)) (ε (length Us)) (U b)) ∙ swap_middle _ _ _ _

  pub total_scale : (Us : List (ℕ → G)) (r : G) (δ : ℕ → G) (b : ℕ)
      → Leq S (S.times r (total S δ Us b)) (total S (scaled S r δ) Us b)
  total_scale [] r δ b = leq_eq _ _ (Z.times_zero r)
  total_scale (U ∷ Us) r δ b =
      Z.leq_trans _ _ _ (Z.times_plus r (total S δ Us b) (S.times (δ (length Us)) (U b)))
      (plus_both Z (total_scale Us r δ b) (leq_eq _ _ (sym (Z.times_assoc r (δ (length Us)) (U b)))))

  -- one use of a binding, at its own number and at another
  pub one_here : (c b : ℕ) → b ≡ c → one_of S c b ≡ S.one
  one_here c b e = ap (λ x. cond x S.one S.zero) (eq-eqb b c e)

  pub one_else : (c b : ℕ) → ¬ (b ≡ c) → one_of S c b ≡ S.zero
  one_else c b n = ap (λ x. cond x S.one S.zero) (ne_eqb b c n)

  -- one use of a level is what the name of that level does; a level beyond the scope has no part in the sum
  total_beyond : (Us : List (ℕ → G)) (j b : ℕ) → length Us ≤ j → total S (one_of S j) Us b ≡ S.zero
  total_beyond [] j b h = refl
  total_beyond (U ∷ Us) j b h =
      ap₂ S.plus (total_beyond Us j b (omega arith)) (ap (λ x. S.times x (U b)) (one_else j (length Us) (λ e. omega arith)) ∙ Z.zero_times (U b))
      ∙ Z.plus_zero S.zero

  pub total_one : (Us : List (ℕ → G)) (other : ℕ → G) (j b : ℕ) → j < length Us → total S (one_of S j) Us b ≡ at other Us j b
  total_one [] other j b h = absurd (omega arith)
  total_one (U ∷ Us) other j b h = go (total_one Us other j b) (eqb j (length Us)) refl
    where
      go : (j < length Us → total S (one_of S j) Us b ≡ at other Us j b) → (x : Bool) → eqb j (length Us) ≡ x
          → total S (one_of S j) (U ∷ Us) b ≡ cond x U (at other Us j) b
      go ih true e =
          let q = eqb-true j (length Us) e in
          ap₂ S.plus (total_beyond Us j b (omega arith)) (ap (λ x. S.times x (U b)) (one_here j (length Us) (sym q)) ∙ Z.one_times (U b))
          ∙ Z.plus_zero (U b)
      go ih false e =
          let q : ¬ (j ≡ length Us) = eqb-false j (length Us) e in
          ap₂ S.plus (ih (omega arith)) (ap (λ x. S.times x (U b)) (one_else j (length Us) (λ e. q (sym e))) ∙ Z.zero_times (U b))
          ∙ plus_zero' (at other Us j b)

  pub ones_append : (b : ℕ) (l m : List Entry)
      → ones S (lookups b (l ++ m)) ≡ S.plus (ones S (lookups b l)) (ones S (lookups b m))
  ones_append b l m = ap (ones S) (lookups_append b l m) ∙ ones_add (lookups b l) (lookups b m)

  pub ones_lookup : (b k c : ℕ) (l : List Entry) → ones S (lookups b (lookup k c ∷ l)) ≡ S.plus (one_of S c b) (ones S (lookups b l))
  ones_lookup b k c l = go (eqb b c)
    where
      go : (x : Bool) → ones S (cond x (suc (lookups b l)) (lookups b l)) ≡ S.plus (cond x S.one S.zero) (ones S (lookups b l))
      go true = refl
      go false = sym (Z.plus_zero (ones S (lookups b l)))
