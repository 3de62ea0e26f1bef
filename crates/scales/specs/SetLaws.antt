-- The laws of sets, by their members.
use Rattle.std.specs.Prelude.{◌≡◌, ℕ, zero, suc, ◌+◌, ◌/◌, ◌%◌, ◌^◌, ◌<◌, ◌≤◌, min, max, Bool, true, false, ◌&&◌, ◌||◌, eqb, ◌⊎◌, ◌==◌, ◌≢◌, nat_lt, refl}
use Rattle.std.proofs.Common.{sym, ap, ap₂, ◌∙◌, subst, inl, inr, zero-add, suc-add, arith}
use mathlib.Core.HLevel.{is_prop→PathP}
use Rattle.std.proofs.Math.Bridge.{le_prop}
use Rattle.std.specs.Int.Bits.{bit_and, bit_or, and_step, or_step, and_lt}
use Rattle.std.proofs.lemmas.Bool.{eq-eqb, eqb-true, ltb-true, and_parts, and_from, or_cases, or_left, or_right, cases_lt, cases_eq, cond_both, both_ways}
use Rattle.scales.specs.Laws.{Laws, Within, ones}
use Rattle.scales.specs.Masks.{bit, repeated, bit_lt, some_bit, sum_of, sum_has, product_of, product_has}
use Rattle.scales.specs.Set.{set_ops, set_zero, set_one, set_plus, set_repeated, set_times, set_leq, set_join, set_ceiling, highest}
use Rattle.scales.specs.declared.scale.Ceiling.TheVariants.{Count, Unbounded}
use Rattle.scales.specs.declared.set.Set.{Set}

-- ---- masks are equal where their members are

parity : (a b : ℕ) → a < 2 → b < 2 → (a == 1) ≡ (b == 1) → a ≡ b
parity a b p q e = grind arith

pub bit_ext : (n m k : ℕ) → m < 2 ^ n → k < 2 ^ n → ((x : ℕ) → x < n → bit m x ≡ bit k x) → m ≡ k
unfolding bit
bit_ext zero m k hm hk e = omega arith
bit_ext (suc n) m k hm hk e =
    let low : m % 2 ≡ k % 2 = parity (m % 2) (k % 2) (omega arith) (omega arith) (e 0 (omega arith)) in
    let rest : m / 2 ≡ k / 2 = bit_ext n (m / 2) (k / 2) (omega arith) (omega arith) (λ x h. e (suc x) (omega arith)) in
    omega arith

pub bool_same : (a b : Bool) → (a ≡ true → b ≡ true) → (b ≡ true → a ≡ true) → a ≡ b
bool_same true b f g = sym (f refl)
bool_same false true f g = g refl
bool_same false false f g = refl

abbrev pub Has : Set → ℕ → Type 0
Has a x = bit a.mask x ≡ true

pub set_same : (a b : Set) → a.mask ≡ b.mask → a ≡ b
set_same a b p = λ i. record {
  mask = p i;
  some = is_prop→PathP (λ k. 0 < p k) (λ k. le_prop) a.some b.some i;
  fits = is_prop→PathP (λ k. p k < 65536) (λ k. le_prop) a.fits b.fits i;
}

pub ext : (a b : Set) → ((x : ℕ) → Has a x → Has b x) → ((x : ℕ) → Has b x → Has a x) → a ≡ b
ext a b f g = set_same a b (bit_ext 16 a.mask b.mask a.fits b.fits (λ x h. bool_same (bit a.mask x) (bit b.mask x) (f x) (g x)))

pub has_lt : (a : Set) (x : ℕ) → Has a x → x < 16
has_lt a x h = bit_lt 16 a.mask x a.fits h

pub has_some : (a : Set) → (x : ℕ) × Has a x
has_some a = some_bit 16 a.mask a.fits a.some

-- ---- members of each operation

pub plus_of : (a b : Set) (x : ℕ) → Has (set_plus a b) x → (p : ℕ) × (q : ℕ) × Has a p × Has b q × (x ≡ min (p + q) 15)
plus_of a b x h = sum_of a.mask b.mask x h

pub plus_has : (a b : Set) (p q x : ℕ) → Has a p → Has b q → x ≡ min (p + q) 15 → Has (set_plus a b) x
plus_has a b p q x hp hq e = subst (λ (y : ℕ). Has (set_plus a b) y) (sym e) (sum_has a.mask b.mask p q a.fits b.fits hp hq)

pub times_of : (a b : Set) (x : ℕ) → Has (set_times a b) x → (n : ℕ) × Has a n × Has (set_repeated b n) x
times_of a b x h = product_of a.mask b.mask x h

pub times_has : (a b : Set) (n x : ℕ) → Has a n → Has (set_repeated b n) x → Has (set_times a b) x
times_has a b n x h k = product_has a.mask b.mask n x a.fits h k

pub zero_has : Has set_zero 0
unfolding bit
zero_has = refl

pub one_has : Has set_one 1
unfolding bit
one_has = refl

pub empty_of : (x : ℕ) → bit 0 x ≢ true
unfolding bit
empty_of zero h = grind arith
empty_of (suc x) h = empty_of x h

pub zero_of : (x : ℕ) → Has set_zero x → x ≡ 0
unfolding bit
zero_of zero h = refl
zero_of (suc x) h = absurd (empty_of x h)

pub one_of : (x : ℕ) → Has set_one x → x ≡ 1
unfolding bit
one_of zero h = grind arith
one_of (suc x) h = ap suc (zero_of x h)

-- ---- sums

plus_swap : (a b : Set) (x : ℕ) → Has (set_plus a b) x → Has (set_plus b a) x
plus_swap a b x h = let r = plus_of a b x h in plus_has b a r.1 r.0 x r.3 r.2 (omega (arith, r.4))

plus_comm : (a b : Set) → set_plus a b ≡ set_plus b a
plus_comm a b = ext (set_plus a b) (set_plus b a) (plus_swap a b) (plus_swap b a)

plus_assoc : (a b c : Set) → set_plus (set_plus a b) c ≡ set_plus a (set_plus b c)
plus_assoc a b c =
    ext (set_plus (set_plus a b) c) (set_plus a (set_plus b c))
    (λ x h. let r = plus_of (set_plus a b) c x h in let s = plus_of a b r.0 r.2 in
    plus_has a (set_plus b c) s.0 (min (s.1 + r.1) 15) x s.2 (plus_has b c s.1 r.1 (min (s.1 + r.1) 15) s.3 r.3 refl) (omega (arith, r.4, s.4)))
    (λ x h. let r = plus_of a (set_plus b c) x h in let s = plus_of b c r.1 r.3 in
    plus_has (set_plus a b) c (min (r.0 + s.0) 15) s.1 x (plus_has a b r.0 s.0 (min (r.0 + s.0) 15) r.2 s.2 refl) s.3 (omega (arith, r.4, s.4)))

plus_zero : (a : Set) → set_plus set_zero a ≡ a
plus_zero a =
    ext (set_plus set_zero a) a
    (λ x h. let r = plus_of set_zero a x h in subst (λ (y : ℕ). Has a y) (omega (arith, r.4, zero_of r.0 r.2, has_lt a r.1 r.3)) r.3)
    (λ x h. plus_has set_zero a 0 x x zero_has h (omega (arith, has_lt a x h)))

plus_mid : (a b c d : Set) → set_plus (set_plus a b) (set_plus c d) ≡ set_plus (set_plus a c) (set_plus b d)
plus_mid a b c d =
    plus_assoc a b (set_plus c d)
    ∙ ap (set_plus a) (sym (plus_assoc b c d) ∙ ap (λ x. set_plus x d) (plus_comm b c) ∙ plus_assoc c b d)
    ∙ sym (plus_assoc a c (set_plus b d))

-- ---- a set summed n times

pub repeated_zero : (k : Set) → set_repeated k 0 ≡ set_zero
unfolding repeated
repeated_zero k = set_same (set_repeated k 0) set_zero refl

pub repeated_suc : (k : Set) (n : ℕ) → set_repeated k (suc n) ≡ set_plus k (set_repeated k n)
unfolding repeated
repeated_suc k n = set_same (set_repeated k (suc n)) (set_plus k (set_repeated k n)) refl

repeated_of : (k : Set) (n x : ℕ) → Has (set_repeated k (suc n)) x → (p : ℕ) × (q : ℕ) × Has k p × Has (set_repeated k n) q × (x ≡ min (p + q) 15)
unfolding repeated
repeated_of k n x h = plus_of k (set_repeated k n) x h

repeated_has : (k : Set) (n p q x : ℕ) → Has k p → Has (set_repeated k n) q → x ≡ min (p + q) 15 → Has (set_repeated k (suc n)) x
unfolding repeated
repeated_has k n p q x hp hq e = plus_has k (set_repeated k n) p q x hp hq e

-- a small sum of many has a 0 in it, which can be left out
drop_zero : (k : Set) (n x : ℕ) → Has (set_repeated k (suc n)) x → x < suc n → x < 15 → Has k 0 × Has (set_repeated k n) x
drop_zero k zero x h l l' =
    let r = repeated_of k 0 x h in
    (subst (λ (y : ℕ). Has k y) (omega (arith, r.4)) r.2, subst (λ (y : ℕ). Has (set_repeated k 0) y) (omega (arith, r.4)) r.3)
drop_zero k (suc n) x h l l' =
    let r = repeated_of k (suc n) x h in
    elim (cases_eq r.0 0) [
      | inl z ↦ (subst (λ (y : ℕ). Has k y) z r.2, subst (λ (y : ℕ). Has (set_repeated k (suc n)) y) (omega (arith, r.4)) r.3)
      | inr d ↦ (let s = drop_zero k n r.1 r.3 (omega (arith, r.4)) (omega (arith, r.4)) in (s.0, repeated_has k n r.0 r.1 x r.2 s.1 r.4))
    ]

-- so past 15 times a set stays as it is
repeated_down : (k : Set) (x : ℕ) → Has (set_repeated k 16) x → Has (set_repeated k 15) x
repeated_down k x h =
    let r = repeated_of k 15 x h in
    elim (cases_lt x 15) [
      | inl l ↦ (drop_zero k 15 x h (omega arith) l).1
      | inr g ↦ elim (cases_lt r.1 15) [
        | inl l ↦ repeated_has k 14 r.0 r.1 x r.2 (drop_zero k 14 r.1 r.3 (omega arith) l).1 r.4
        | inr f ↦ subst (λ (y : ℕ). Has (set_repeated k 15) y) (omega (arith, r.4, has_lt (set_repeated k 15) r.1 r.3)) r.3
      ]
    ]

repeated_up : (k : Set) (x : ℕ) → Has (set_repeated k 15) x → Has (set_repeated k 16) x
repeated_up k x h =
    elim (cases_lt x 15) [
      | inl l ↦ repeated_has k 15 0 x x (drop_zero k 14 x h (omega arith) l).0 h (omega arith)
      | inr g ↦ (let e = has_some k in repeated_has k 15 e.0 x x e.1 h (omega (arith, has_lt (set_repeated k 15) x h)))
    ]

repeated_16 : (k : Set) → set_repeated k 16 ≡ set_repeated k 15
repeated_16 k = ext (set_repeated k 16) (set_repeated k 15) (repeated_down k) (repeated_up k)

repeated_min : (k : Set) (n : ℕ) → set_repeated k (min n 15) ≡ set_repeated k n
repeated_min k zero = refl
repeated_min k (suc n) =
    elim (cases_lt n 15) [
      | inl l ↦ (let e : min (suc n) 15 ≡ suc n = omega arith in ap (set_repeated k) e)
      | inr g ↦ (let e : min (suc n) 15 ≡ 15 = omega arith in let d : 15 ≡ min n 15 = omega arith in
          ap (set_repeated k) e ∙ sym (repeated_16 k) ∙ repeated_suc k 15 ∙ ap (set_plus k) (ap (set_repeated k) d ∙ repeated_min k n) ∙ sym (repeated_suc k n))
    ]

repeated_add : (k : Set) (n m : ℕ) → set_repeated k (n + m) ≡ set_plus (set_repeated k n) (set_repeated k m)
repeated_add k zero m = ap (set_repeated k) (zero-add m) ∙ sym (plus_zero (set_repeated k m)) ∙ ap (λ x. set_plus x (set_repeated k m)) (sym (repeated_zero k))
repeated_add k (suc n) m =
    ap (set_repeated k) (suc-add n m) ∙ repeated_suc k (n + m) ∙ ap (set_plus k) (repeated_add k n m)
    ∙ sym (plus_assoc k (set_repeated k n) (set_repeated k m)) ∙ ap (λ x. set_plus x (set_repeated k m)) (sym (repeated_suc k n))

repeated_empty : (n : ℕ) → set_repeated set_zero n ≡ set_zero
repeated_empty zero = repeated_zero set_zero
repeated_empty (suc n) = repeated_suc set_zero n ∙ plus_zero (set_repeated set_zero n) ∙ repeated_empty n

repeated_1 : (k : Set) → set_repeated k 1 ≡ k
repeated_1 k = repeated_suc k 0 ∙ ap (set_plus k) (repeated_zero k) ∙ plus_comm k set_zero ∙ plus_zero k

repeated_plus : (b c : Set) (n : ℕ) → set_repeated (set_plus b c) n ≡ set_plus (set_repeated b n) (set_repeated c n)
repeated_plus b c zero = repeated_zero (set_plus b c) ∙ sym (plus_zero set_zero) ∙ sym (ap₂ set_plus (repeated_zero b) (repeated_zero c))
repeated_plus b c (suc n) =
    repeated_suc (set_plus b c) n ∙ ap (set_plus (set_plus b c)) (repeated_plus b c n) ∙ plus_mid b c (set_repeated b n) (set_repeated c n)
    ∙ sym (ap₂ set_plus (repeated_suc b n) (repeated_suc c n))

repeated_one_of : (n x : ℕ) → Has (set_repeated set_one n) x → x ≡ min n 15
repeated_one_of zero x h = zero_of x (subst (λ (s : Set). Has s x) (repeated_zero set_one) h)
repeated_one_of (suc n) x h = let r = repeated_of set_one n x h in omega (arith, r.4, one_of r.0 r.2, repeated_one_of n r.1 r.3)

pub repeated_one_has : (n : ℕ) → Has (set_repeated set_one n) (min n 15)
repeated_one_has zero = subst (λ (s : Set). Has s 0) (sym (repeated_zero set_one)) zero_has
repeated_one_has (suc n) = repeated_has set_one n 1 (min n 15) (min (suc n) 15) one_has (repeated_one_has n) (omega arith)

-- ---- products

at : (a b : Set) (x : ℕ) → a ≡ b → Has a x → Has b x
at a b x e h = subst (λ (s : Set). Has s x) e h

zero_times : (b : Set) → set_times set_zero b ≡ set_zero
zero_times b =
    ext (set_times set_zero b) set_zero
    (λ x h. let r = times_of set_zero b x h in at (set_repeated b r.0) set_zero x (ap (set_repeated b) (zero_of r.0 r.1) ∙ repeated_zero b) r.2)
    (λ x h. times_has set_zero b 0 x zero_has (at set_zero (set_repeated b 0) x (sym (repeated_zero b)) h))

times_zero : (a : Set) → set_times a set_zero ≡ set_zero
times_zero a =
    ext (set_times a set_zero) set_zero
    (λ x h. let r = times_of a set_zero x h in at (set_repeated set_zero r.0) set_zero x (repeated_empty r.0) r.2)
    (λ x h. let e = has_some a in times_has a set_zero e.0 x e.1 (at set_zero (set_repeated set_zero e.0) x (sym (repeated_empty e.0)) h))

one_times : (b : Set) → set_times set_one b ≡ b
one_times b =
    ext (set_times set_one b) b
    (λ x h. let r = times_of set_one b x h in at (set_repeated b r.0) b x (ap (set_repeated b) (one_of r.0 r.1) ∙ repeated_1 b) r.2)
    (λ x h. times_has set_one b 1 x one_has (at b (set_repeated b 1) x (sym (repeated_1 b)) h))

times_one : (a : Set) → set_times a set_one ≡ a
times_one a =
    ext (set_times a set_one) a
    (λ x h. let r = times_of a set_one x h in subst (λ (y : ℕ). Has a y) (omega (arith, repeated_one_of r.0 x r.2, has_lt a r.0 r.1)) r.1)
    (λ x h. times_has a set_one x x h (subst (λ (y : ℕ). Has (set_repeated set_one x) y) (omega (arith, has_lt a x h)) (repeated_one_has x)))

repeated_sum : (c : Set) (n m : ℕ) → set_repeated c (min (n + m) 15) ≡ set_plus (set_repeated c n) (set_repeated c m)
repeated_sum c n m = repeated_min c (n + m) ∙ repeated_add c n m

plus_times : (a b c : Set) → set_times (set_plus a b) c ≡ set_plus (set_times a c) (set_times b c)
plus_times a b c =
    ext (set_times (set_plus a b) c) (set_plus (set_times a c) (set_times b c))
    (λ x h. let r = times_of (set_plus a b) c x h in let s = plus_of a b r.0 r.1 in
    let t = plus_of (set_repeated c s.0) (set_repeated c s.1) x (at (set_repeated c r.0) (set_plus (set_repeated c s.0) (set_repeated c s.1)) x (ap (set_repeated c) s.4 ∙ repeated_sum c s.0 s.1) r.2) in
    plus_has (set_times a c) (set_times b c) t.0 t.1 x (times_has a c s.0 t.0 s.2 t.2) (times_has b c s.1 t.1 s.3 t.3) t.4)
    (λ x h. let t = plus_of (set_times a c) (set_times b c) x h in let r = times_of a c t.0 t.2 in let s = times_of b c t.1 t.3 in
    times_has (set_plus a b) c (min (r.0 + s.0) 15) x (plus_has a b r.0 s.0 (min (r.0 + s.0) 15) r.1 s.1 refl)
    (at (set_plus (set_repeated c r.0) (set_repeated c s.0)) (set_repeated c (min (r.0 + s.0) 15)) x (sym (repeated_sum c r.0 s.0)) (plus_has (set_repeated c r.0) (set_repeated c s.0) t.0 t.1 x r.2 s.2 t.4)))

repeated_times : (b c : Set) (n : ℕ) → set_repeated (set_times b c) n ≡ set_times (set_repeated b n) c
repeated_times b c zero = repeated_zero (set_times b c) ∙ sym (ap (λ s. set_times s c) (repeated_zero b) ∙ zero_times c)
repeated_times b c (suc n) =
    repeated_suc (set_times b c) n ∙ ap (set_plus (set_times b c)) (repeated_times b c n) ∙ sym (plus_times b (set_repeated b n) c)
    ∙ ap (λ s. set_times s c) (sym (repeated_suc b n))

times_assoc : (a b c : Set) → set_times (set_times a b) c ≡ set_times a (set_times b c)
times_assoc a b c =
    ext (set_times (set_times a b) c) (set_times a (set_times b c))
    (λ x h. let r = times_of (set_times a b) c x h in let s = times_of a b r.0 r.1 in
    times_has a (set_times b c) s.0 x s.1
    (at (set_times (set_repeated b s.0) c) (set_repeated (set_times b c) s.0) x (sym (repeated_times b c s.0)) (times_has (set_repeated b s.0) c r.0 x s.2 r.2)))
    (λ x h. let r = times_of a (set_times b c) x h in
    let s = times_of (set_repeated b r.0) c x (at (set_repeated (set_times b c) r.0) (set_times (set_repeated b r.0) c) x (repeated_times b c r.0) r.2) in
    times_has (set_times a b) c s.0 x (times_has a b r.0 s.0 r.1 s.1) s.2)

-- ---- inclusion

min_one : (u v : ℕ) → u < 2 → v < 2 → (min u v == 1) ≡ (u == 1 && v == 1)
min_one zero zero p q = refl
min_one zero (suc zero) p q = refl
min_one zero (suc (suc v)) p q = absurd (omega arith)
min_one (suc zero) zero p q = refl
min_one (suc zero) (suc zero) p q = refl
min_one (suc zero) (suc (suc v)) p q = absurd (omega arith)
min_one (suc (suc u)) v p q = absurd (omega arith)

max_one : (u v : ℕ) → u < 2 → v < 2 → (max u v == 1) ≡ (u == 1 || v == 1)
max_one zero zero p q = refl
max_one zero (suc zero) p q = refl
max_one zero (suc (suc v)) p q = absurd (omega arith)
max_one (suc zero) zero p q = refl
max_one (suc zero) (suc zero) p q = refl
max_one (suc zero) (suc (suc v)) p q = absurd (omega arith)
max_one (suc (suc u)) v p q = absurd (omega arith)

pub bit_of_and : (m k x : ℕ) → bit (bit_and m k) x ≡ (bit m x && bit k x)
unfolding bit
bit_of_and m k zero =
    let e : bit_and m k % 2 ≡ min (m % 2) (k % 2) = omega (arith, and_step m k) in
    ap (λ n. eqb n 1) e ∙ min_one (m % 2) (k % 2) (omega arith) (omega arith)
bit_of_and m k (suc x) =
    let e : bit_and m k / 2 ≡ bit_and (m / 2) (k / 2) = omega (arith, and_step m k) in
    ap (λ n. bit n x) e ∙ bit_of_and (m / 2) (k / 2) x

pub bit_of_or : (m k x : ℕ) → bit (bit_or m k) x ≡ (bit m x || bit k x)
unfolding bit
bit_of_or m k zero =
    let e : bit_or m k % 2 ≡ max (m % 2) (k % 2) = omega (arith, or_step m k) in
    ap (λ n. eqb n 1) e ∙ max_one (m % 2) (k % 2) (omega arith) (omega arith)
bit_of_or m k (suc x) =
    let e : bit_or m k / 2 ≡ bit_or (m / 2) (k / 2) = omega (arith, or_step m k) in
    ap (λ n. bit n x) e ∙ bit_of_or (m / 2) (k / 2) x

pub below_sub : (a b : Set) → set_leq a b ≡ true → (x : ℕ) → Has a x → Has b x
below_sub a b h x p =
    let e : bit_and a.mask b.mask ≡ a.mask = eqb-true (bit_and a.mask b.mask) a.mask h in
    (and_parts (bit a.mask x) (bit b.mask x) (sym (bit_of_and a.mask b.mask x) ∙ ap (λ n. bit n x) e ∙ p)).1

pub sub_below : (a b : Set) → ((x : ℕ) → Has a x → Has b x) → set_leq a b ≡ true
sub_below a b f =
    eq-eqb (bit_and a.mask b.mask) a.mask
    (bit_ext 16 (bit_and a.mask b.mask) a.mask (and_lt 16 a.mask b.mask a.fits b.fits) a.fits
    (λ x h. bool_same (bit (bit_and a.mask b.mask) x) (bit a.mask x)
    (λ t. (and_parts (bit a.mask x) (bit b.mask x) (sym (bit_of_and a.mask b.mask x) ∙ t)).0)
    (λ t. bit_of_and a.mask b.mask x ∙ and_from (bit a.mask x) (bit b.mask x) t (f x t))))

pub join_of : (a b : Set) (x : ℕ) → Has (set_join a b) x → Has a x ⊎ Has b x
join_of a b x h = or_cases (bit a.mask x) (bit b.mask x) (sym (bit_of_or a.mask b.mask x) ∙ h)

join_least : (a b c : Set) → set_leq a c ≡ true → set_leq b c ≡ true → set_leq (set_join a b) c ≡ true
join_least a b c h k = sub_below (set_join a b) c (λ x p. elim (join_of a b x p) [ inl q ↦ below_sub a c h x q | inr q ↦ below_sub b c k x q ])

repeated_mono : (a b : Set) → ((x : ℕ) → Has a x → Has b x) → (n x : ℕ) → Has (set_repeated a n) x → Has (set_repeated b n) x
repeated_mono a b f zero x h = at set_zero (set_repeated b 0) x (sym (repeated_zero b)) (at (set_repeated a 0) set_zero x (repeated_zero a) h)
repeated_mono a b f (suc n) x h = let r = repeated_of a n x h in repeated_has b n r.0 r.1 x (f r.0 r.2) (repeated_mono a b f n r.1 r.3) r.4

times_plus : (a b c : Set) (x : ℕ) → Has (set_times a (set_plus b c)) x → Has (set_plus (set_times a b) (set_times a c)) x
times_plus a b c x h =
    let r = times_of a (set_plus b c) x h in
    let t = plus_of (set_repeated b r.0) (set_repeated c r.0) x (at (set_repeated (set_plus b c) r.0) (set_plus (set_repeated b r.0) (set_repeated c r.0)) x (repeated_plus b c r.0) r.2) in
    plus_has (set_times a b) (set_times a c) t.0 t.1 x (times_has a b r.0 t.0 r.1 t.2) (times_has a c r.0 t.1 r.1 t.3) t.4

-- ---- the ceiling

pub highest_ge : (m n x : ℕ) → x < n → bit m x ≡ true → x ≤ highest m n
unfolding highest
highest_ge m zero x h p = absurd (omega arith)
highest_ge m (suc n) x h p =
    cond_both (bit m n) n (highest m n) (λ y. x ≤ y) (λ e. omega arith)
    (λ e. elim (cases_eq x n) [ inl q ↦ absurd (both_ways (bit m n) e (subst (λ (y : ℕ). bit m y ≡ true) q p)) | inr d ↦ highest_ge m n x (omega arith) p ])

pub ones_repeated : (k : ℕ) → ones set_ops k ≡ set_repeated set_one k
ones_repeated zero = sym (repeated_zero set_one)
ones_repeated (suc k) = ap (set_plus set_one) (ones_repeated k) ∙ sym (repeated_suc set_one k)

ones_within : (a : Set) (k : ℕ) → set_leq (ones set_ops k) a ≡ true → Within k (set_ceiling a)
ones_within a k h =
    let p : Has a (min k 15) = below_sub (ones set_ops k) a h (min k 15) (at (set_repeated set_one k) (ones set_ops k) (min k 15) (sym (ones_repeated k)) (repeated_one_has k)) in
    let q : min k 15 ≤ highest a.mask 16 = highest_ge a.mask 16 (min k 15) (omega arith) p in
    cond_both (nat_lt (highest a.mask 16) 15) (Count (highest a.mask 16)) Unbounded (λ c. Within k c) (λ e. omega (arith, ltb-true (highest a.mask 16) 15 e)) (λ e. tt)

pub set_laws : Laws set_ops
set_laws = record {
  plus_comm = plus_comm;
  plus_assoc = plus_assoc;
  plus_zero = plus_zero;
  times_assoc = times_assoc;
  one_times = one_times;
  times_one = times_one;
  zero_times = zero_times;
  times_zero = times_zero;
  plus_times = plus_times;
  times_plus = λ a b c. sub_below (set_times a (set_plus b c)) (set_plus (set_times a b) (set_times a c)) (times_plus a b c);
  leq_refl = λ a. sub_below a a (λ x h. h);
  leq_trans = λ a b c h k. sub_below a c (λ x p. below_sub b c k x (below_sub a b h x p));
  leq_anti = λ a b h k. ext a b (below_sub a b h) (below_sub b a k);
  plus_mono = λ a b c h. sub_below (set_plus a c) (set_plus b c) (λ x p. let r = plus_of a c x p in plus_has b c r.0 r.1 x (below_sub a b h r.0 r.2) r.3 r.4);
  times_mono_l = λ a b c h. sub_below (set_times a c) (set_times b c) (λ x p. let r = times_of a c x p in times_has b c r.0 x (below_sub a b h r.0 r.1) r.2);
  times_mono_r = λ a b c h. sub_below (set_times c a) (set_times c b) (λ x p. let r = times_of c a x p in times_has c b r.0 x r.1 (repeated_mono a b (below_sub a b h) r.0 x r.2));
  join_l = λ a b. sub_below a (set_join a b) (λ x p. bit_of_or a.mask b.mask x ∙ or_left (bit a.mask x) (bit b.mask x) p);
  join_r = λ a b. sub_below b (set_join a b) (λ x p. bit_of_or a.mask b.mask x ∙ or_right (bit a.mask x) (bit b.mask x) p);
  join_least = join_least;
  ones_within = ones_within;
}
