-- Sets by their members, and the grade one of sets.
use Rattle.std.proofs.Common.{◌≡◌, ℕ, zero, suc, ◌<◌, ◌≤◌, min, true, ltb, sym, ap, ◌∙◌, subst, inl, inr, arith}
use Rattle.std.proofs.lemmas.Bool.{ltb-true, ltb-false, lt-ltb, le-ltb, or_left, or_right, cases_eq, cases_Bool, cond_both, cond-true, cond-false, both_ways}
use Rattle.scales.specs.Laws.{ones, ExactlyOne}
use Rattle.scales.specs.Masks.{bit}
use Rattle.scales.specs.Set.{◌∈◌, ByMembers, set_ops, set_zero, set_one, set_ceiling, highest, bounded}
use Rattle.scales.specs.declared.scale.Ceiling.TheVariants.{Count, Unbounded}
use Rattle.scales.specs.declared.set.Set.{Set}
use Rattle.scales.specs.SetLaws.{ext, has_lt, has_some, zero_of, one_of, zero_has, one_has, plus_of, plus_has, times_of, times_has, repeated_zero, repeated_suc, repeated_one_has, ones_repeated, below_sub, sub_below, join_of, bit_of_or, highest_ge}

-- a mask with a member has its highest one
highest_in : (m n x : ℕ) → x < n → bit m x ≡ true → bit m (highest m n) ≡ true
unfolding highest
highest_in m zero x h p = absurd (omega arith)
highest_in m (suc n) x h p =
    cond_both (bit m n) n (highest m n) (λ y. bit m y ≡ true) (λ e. e)
    (λ e. elim (cases_eq x n) [ inl q ↦ absurd (both_ways (bit m n) e (subst (λ (y : ℕ). bit m y ≡ true) q p)) | inr d ↦ highest_in m n x (omega arith) p ])

abbrev top : Set → ℕ
top a = highest a.mask 16

top_in : (a : Set) → top a ∈ a
top_in a = let s = has_some a in highest_in a.mask 16 s.0 (has_lt a s.0 s.1) s.1

top_ge : (a : Set) (x : ℕ) → x ∈ a → x ≤ top a
top_ge a x h = highest_ge a.mask 16 x (has_lt a x h) h

-- what a bounded count says of the number
count_of : (m n : ℕ) → bounded m ≡ Count n → (m ≡ n) × (m < 15)
count_of m n e =
    elim (cases_Bool (ltb m 15)) [
      | inl t ↦ (let q : Count m ≡ Count n = sym (cond-true (ltb m 15) (Count m) Unbounded t) ∙ e in (cc, ltb-true m 15 t))
      | inr f ↦ (let q : Unbounded ≡ Count n = sym (cond-false (ltb m 15) (Count m) Unbounded f) ∙ e in absurd (cc))
    ]

unbounded_of : (m : ℕ) → bounded m ≡ Unbounded → 15 ≤ m
unbounded_of m e =
    elim (cases_Bool (ltb m 15)) [
      | inl t ↦ (let q : Count m ≡ Unbounded = sym (cond-true (ltb m 15) (Count m) Unbounded t) ∙ e in absurd (cc))
      | inr f ↦ ltb-false m 15 f
    ]

at : (a : Set) (x y : ℕ) → x ≡ y → x ∈ a → y ∈ a
at a x y e h = subst (λ (z : ℕ). z ∈ a) e h

count_from : (a : Set) (n : ℕ) → n ∈ a → n < 15 → ((x : ℕ) → x ∈ a → x ≤ n) → set_ceiling a ≡ Count n
count_from a n h l f =
    let e : top a ≡ n = omega (arith, top_ge a n h, f (top a) (top_in a)) in
    ap bounded e ∙ cond-true (ltb n 15) (Count n) Unbounded (lt-ltb n 15 l)

unbounded_from : (a : Set) → 15 ∈ a → set_ceiling a ≡ Unbounded
unbounded_from a h = cond-false (ltb (top a) 15) (Count (top a)) Unbounded (le-ltb (top a) 15 (top_ge a 15 h))

pub by_members : ByMembers
by_members = record {
  nonempty = has_some;
  small = λ a x h. omega (arith, has_lt a x h);
  same = λ a b f. ext a b (λ x. (f x).0) (λ x. (f x).1);
  in_zero = λ x. (zero_of x, λ e. at set_zero 0 x (sym e) zero_has);
  in_one = λ x. (one_of x, λ e. at set_one 1 x (sym e) one_has);
  in_plus = λ a b x. (plus_of a b x, λ r. plus_has a b r.0 r.1 x r.2 r.3 r.4);
  in_times = λ a b x. (times_of a b x, λ r. times_has a b r.0 x r.1 r.2);
  no_time = repeated_zero;
  once_more = repeated_suc;
  in_leq = λ a b. (below_sub a b, sub_below a b);
  in_join = λ a b x. (join_of a b x, λ r. bit_of_or a.mask b.mask x ∙ elim r [ inl p ↦ or_left (bit a.mask x) (bit b.mask x) p | inr q ↦ or_right (bit a.mask x) (bit b.mask x) q ]);
  at_count = λ a n. (
    λ e. let r = count_of (top a) n e in (at a (top a) n r.0 (top_in a), omega (arith, r.0, r.1), λ x h. omega (arith, r.0, top_ge a x h)),
    λ r. count_from a n r.0 r.1 r.2,
  );
  at_unbounded = λ a. (
    λ e. at a (top a) 15 (omega (arith, unbounded_of (top a) e, has_lt a (top a) (top_in a))) (top_in a),
    unbounded_from a,
  );
}

pub set_exact : ExactlyOne set_ops
set_exact k h =
    let p : min k 15 ∈ set_one = below_sub (ones set_ops k) set_one h (min k 15) (subst (λ (s : Set). min k 15 ∈ s) (sym (ones_repeated k)) (repeated_one_has k)) in
    omega (arith, one_of (min k 15) p)
