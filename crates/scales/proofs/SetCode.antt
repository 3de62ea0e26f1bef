-- What the code on masks does, by members.
use Rattle.std.proofs.Common.{◌≡◌, ◌&&◌, ℕ, zero, suc, ◌+◌, ◌-◌, ◌*◌, ◌/◌, ◌%◌, ◌^◌, ◌<◌, ◌≤◌, min, true, false, eqb, List, length, get_or, sym, refl, ap, ◌∙◌, subst, inl, inr, add-one, one-add, arith}
use lib.Bits.{bit_and, bit_or, or_lt, and_lt, and_mask}
use lib.Pow.{pow-lt, pow_mono}
use Rattle.std.proofs.lemmas.Nat.{shr-shr, and_le_r}
use Rattle.std.proofs.lemmas.Bool.{eq-eqb, eqb-true, and_parts, and_from, or_cases, or_left, or_right, cases_lt, cases_eq, cases_Bool, cond_both, both_ways, cond-true}
use Rattle.scales.specs.Masks.{bit, any, gather, bit_pos, some_bit, sum, repeated, is_product, product, after, is_after, union_after, union_lt, union_of, union_has, bit_lt, sum_lt, sum_of, sum_has}
use Rattle.scales.specs.Set.{member, AreMembers, Holds as IsSet, highest}
use Rattle.scales.specs.declared.set.Set.{Set}
use Rattle.scales.specs.SetLaws.{bit_ext, bit_of_and, bit_of_or, bool_same, zero_of, one_of, empty_of}

-- `m >> n & 1`
pub bit_shr : (n m : ℕ) → bit m n ≡ eqb (m / 2 ^ n % 2) 1
unfolding bit
bit_shr zero m = let e : m / 1 ≡ m = omega arith in sym (ap (λ k. eqb (k % 2) 1) e)
bit_shr (suc n) m = bit_shr n (m / 2) ∙ ap (λ k. eqb (k % 2) 1) (shr-shr m 1 n ∙ ap (λ j. m / 2 ^ j) (one-add n))

pub bit_test : (n m : ℕ) → eqb (bit_and (m / 2 ^ n) 1) 1 ≡ bit m n
bit_test n m = ap (λ k. eqb k 1) (and_mask (m / 2 ^ n) 1) ∙ sym (bit_shr n m)

-- the members of 2 ^ k and of 2 ^ k - 1
ones_has : (k x : ℕ) → x < k → bit (2 ^ k - 1) x ≡ true
unfolding bit
ones_has zero x h = absurd (omega arith)
ones_has (suc k) zero h = eq-eqb ((2 ^ suc k - 1) % 2) 1 (omega (arith, pos k))
  where
    pos : (k : ℕ) → 0 < 2 ^ k
    pos zero = omega arith
    pos (suc k) = omega (arith, pos k)
ones_has (suc k) (suc x) h = ap (λ m. bit m x) (let e : (2 ^ suc k - 1) / 2 ≡ 2 ^ k - 1 = omega arith in e) ∙ ones_has k x (omega arith)

-- `m << 1`
double_of : (m x : ℕ) → bit (m * 2) x ≡ true → (y : ℕ) × (x ≡ suc y) × (bit m y ≡ true)
unfolding bit
double_of m zero h = absurd (let e = eqb-true (m * 2 % 2) 1 h in omega arith)
double_of m (suc x) h = (x, refl, subst (λ (k : ℕ). bit k x ≡ true) (omega arith) h)

double_has : (m x : ℕ) → bit m x ≡ true → bit (m * 2) (suc x) ≡ true
unfolding bit
double_has m x h = subst (λ (k : ℕ). bit k x ≡ true) (omega arith) h

pow_of : (k x : ℕ) → bit (2 ^ k) x ≡ true → x ≡ k
unfolding bit
pow_of zero x h = zero_of x h
pow_of (suc k) zero h = absurd (let e = eqb-true (2 ^ suc k % 2) 1 h in omega arith)
pow_of (suc k) (suc x) h = ap suc (pow_of k x (subst (λ (m : ℕ). bit m x ≡ true) (let e : 2 ^ suc k / 2 ≡ 2 ^ k = omega arith in e) h))

move : (m x y : ℕ) → x ≡ y → bit m x ≡ true → bit m y ≡ true
move m x y e h = subst (λ (z : ℕ). bit m z ≡ true) e h

two_has : bit 2 1 ≡ true
unfolding bit
two_has = refl

top_has : bit 32768 15 ≡ true
unfolding bit
top_has = refl

abbrev pub stepped : ℕ → ℕ
stepped m = bit_or (bit_and m 32767 * 2) (bit_and m 32768)

step_of : (m x : ℕ) → m < 65536 → bit (stepped m) x ≡ true → bit (sum 2 m) x ≡ true
step_of m x h p =
    elim (or_cases (bit (bit_and m 32767 * 2) x) (bit (bit_and m 32768) x) (sym (bit_of_or (bit_and m 32767 * 2) (bit_and m 32768) x) ∙ p)) [
      | inl q ↦ (let d = double_of (bit_and m 32767) x q in
          let u = and_parts (bit m d.0) (bit 32767 d.0) (sym (bit_of_and m 32767 d.0) ∙ d.2) in
          let l = bit_lt 15 32767 d.0 (omega arith) u.1 in
          move (sum 2 m) (min (1 + d.0) 15) x (omega (arith, d.1)) (sum_has 2 m 1 d.0 (omega arith) h two_has u.0))
      | inr q ↦ (let u = and_parts (bit m x) (bit 32768 x) (sym (bit_of_and m 32768 x) ∙ q) in
          move (sum 2 m) (min (1 + x) 15) x (omega (arith, pow_of 15 x u.1)) (sum_has 2 m 1 x (omega arith) h two_has u.0))
    ]

step_has : (m x : ℕ) → m < 65536 → bit (sum 2 m) x ≡ true → bit (stepped m) x ≡ true
step_has m x h p =
    let r = sum_of 2 m x p in
    let one : r.0 ≡ 1 = one_of r.0 r.2 in
    let l : r.1 < 16 = bit_lt 16 m r.1 h r.3 in
    bit_of_or (bit_and m 32767 * 2) (bit_and m 32768) x
    ∙ elim (cases_lt r.1 15) [
      | inl s ↦ or_left (bit (bit_and m 32767 * 2) x) (bit (bit_and m 32768) x)
          (move (bit_and m 32767 * 2) (suc r.1) x (omega (arith, r.4))
          (double_has (bit_and m 32767) r.1 (bit_of_and m 32767 r.1 ∙ and_from (bit m r.1) (bit 32767 r.1) r.3 (ones_has 15 r.1 s))))
      | inr g ↦ or_right (bit (bit_and m 32767 * 2) x) (bit (bit_and m 32768) x)
          (let e : x ≡ 15 = omega (arith, r.4) in let d : r.1 ≡ 15 = omega arith in
          bit_of_and m 32768 x ∙ and_from (bit m x) (bit 32768 x) (move m r.1 x (d ∙ sym e) r.3) (move 32768 15 x (sym e) top_has))
    ]

pub stepped_is : (m : ℕ) → m < 65536 → bit_or (bit_and m 32767 * 2 % 65536) (bit_and m 32768) ≡ sum 2 m
stepped_is m h =
    let a : bit_and m 32767 < 32768 = omega (arith, and_le_r m 32767) in
    let e : bit_and m 32767 * 2 % 65536 ≡ bit_and m 32767 * 2 = omega arith in
    ap (λ k. bit_or k (bit_and m 32768)) e
    ∙ bit_ext 16 (stepped m) (sum 2 m) (or_lt 16 (bit_and m 32767 * 2) (bit_and m 32768) (omega arith) (and_lt 16 m 32768 h (omega arith))) (sum_lt 2 m)
    (λ x l. bool_same (bit (stepped m) x) (bit (sum 2 m) x) (step_of m x h) (step_has m x h))

-- a loop that takes the members of m one by one, and joins to `all` the set that S gives for each
pub record Gathered (m : ℕ) (S : ℕ → ℕ) (n all : ℕ) : Type 0 where
  pub fits : all < 65536
  pub of : (x : ℕ) → bit all x ≡ true → (a : ℕ) × (a < n) × (bit m a ≡ true) × (bit (S a) x ≡ true)
  pub has : (a x : ℕ) → a < n → bit m a ≡ true → bit (S a) x ≡ true → bit all x ≡ true

pub gathered_none : (m : ℕ) (S : ℕ → ℕ) → Gathered m S 0 0
gathered_none m S = record { fits = omega arith; of = λ x h. absurd (empty_of x h); has = λ a x h. absurd (omega arith) }

pub gathered_skip : (m : ℕ) (S : ℕ → ℕ) (n all : ℕ) → Gathered m S n all → bit m n ≡ false → Gathered m S (n + 1) all
gathered_skip m S n all g e = record {
  fits = g.fits;
  of = λ x h. let r = g.of x h in (r.0, omega (arith, r.1), r.2, r.3);
  has = λ a x h p r. elim (cases_eq a n) [ inl q ↦ absurd (both_ways (bit m n) e (subst (λ (y : ℕ). bit m y ≡ true) q p)) | inr d ↦ g.has a x (omega arith) p r ];
}

pub gathered_take : (m : ℕ) (S : ℕ → ℕ) (n all p : ℕ) → Gathered m S n all → bit m n ≡ true → p < 65536 → p ≡ S n → Gathered m S (n + 1) (bit_or all p)
gathered_take m S n all p g e fits same = record {
  fits = or_lt 16 all p g.fits fits;
  of = λ x h. elim (or_cases (bit all x) (bit p x) (sym (bit_of_or all p x) ∙ h)) [
    | inl q ↦ (let r = g.of x q in (r.0, omega (arith, r.1), r.2, r.3))
    | inr q ↦ (n, omega arith, e, subst (λ (y : ℕ). bit y x ≡ true) same q)
  ];
  has = λ a x h t r. bit_of_or all p x ∙ elim (cases_eq a n) [
    | inl q ↦ or_right (bit all x) (bit p x) (subst (λ (y : ℕ). bit y x ≡ true) (ap S q ∙ sym same) r)
    | inr d ↦ or_left (bit all x) (bit p x) (g.has a x (omega arith) t r)
  ];
}

pub after_none : (next : ℕ → ℕ) (k : ℕ) → k ≡ after next k 0
unfolding after
after_none next k = refl

pub after_more : (next : ℕ → ℕ) (k n p q : ℕ) → p ≡ after next k n → q ≡ next p → q ≡ after next k (n + 1)
unfolding after
after_more next k n p q e d = d ∙ ap next e ∙ ap (after next k) (sym (add-one n))

pub gathered_all : (next : ℕ → ℕ) (m k all : ℕ) → Gathered m (after next k) 16 all → all ≡ union_after next m k
gathered_all next m k all g =
    bit_ext 16 all (union_after next m k) g.fits (union_lt next m k)
    (λ x l. bool_same (bit all x) (bit (union_after next m k) x)
    (λ p. let r = g.of x p in union_has next m k r.0 x r.1 l r.2 r.3)
    (λ p. let r = union_of next m k x l p in g.has r.0 x r.1 r.2 r.3))

-- a sum is a union of raised sets
pub record Raised (b n p : ℕ) : Type 0 where
  pub fits : p < 65536
  pub of : (x : ℕ) → bit p x ≡ true → (y : ℕ) × (bit b y ≡ true) × (x ≡ min (n + y) 15)
  pub has : (y : ℕ) → bit b y ≡ true → bit p (min (n + y) 15) ≡ true

raised : (b n : ℕ) → b < 65536 → Raised b n (after (sum 2) b n)
unfolding after
raised b zero h = record {
  fits = h;
  of = λ x p. (x, p, omega (arith, bit_lt 16 b x h p));
  has = λ y p. move b y (min (0 + y) 15) (omega (arith, bit_lt 16 b y h p)) p;
}
raised b (suc n) h =
    let p = after (sum 2) b n in
    let r = raised b n h in
    record {
      fits = sum_lt 2 p;
      of = λ x q. let s = sum_of 2 p x q in let t = r.of s.1 s.3 in (t.0, t.1, omega (arith, s.4, t.2, one_of s.0 s.2));
      has = λ y q. move (sum 2 p) (min (1 + min (n + y) 15) 15) (min (suc n + y) 15) (omega arith) (sum_has 2 p 1 (min (n + y) 15) (omega arith) r.fits two_has (r.has y q));
    }

pub sum_is_union : (m b : ℕ) → m < 65536 → b < 65536 → union_after (sum 2) m b ≡ sum m b
sum_is_union m b hm hb =
    bit_ext 16 (union_after (sum 2) m b) (sum m b) (union_lt (sum 2) m b) (sum_lt m b)
    (λ x l. bool_same (bit (union_after (sum 2) m b) x) (bit (sum m b) x)
    (λ p. let r = union_of (sum 2) m b x l p in let t = (raised b r.0 hb).of x r.3 in
    move (sum m b) (min (r.0 + t.0) 15) x (sym t.2) (sum_has m b r.0 t.0 hm hb r.2 t.1))
    (λ p. let r = sum_of m b x p in
    union_has (sum 2) m b r.0 x (bit_lt 16 m r.0 hm r.2) l r.2 (move (after (sum 2) b r.0) (min (r.0 + r.1) 15) x (sym r.4) ((raised b r.0 hb).has r.1 r.3))))

-- a product is a union of repeated sums
repeated_after : (b n : ℕ) → after (sum b) 1 n ≡ repeated b n
unfolding after repeated
repeated_after b zero = refl
repeated_after b (suc n) = ap (sum b) (repeated_after b n)

pub product_is_union : (m b : ℕ) → union_after (sum b) m 1 ≡ product m b
unfolding union_after is_after product is_product
product_is_union m b = λ i. gather 16 (λ x. any 16 (λ n. bit m n && bit (repeated_after b n i) x))

-- ---- the highest member

top_bit : (j m : ℕ) → 2 ^ j ≤ m → m < 2 ^ suc j → bit m j ≡ true
unfolding bit
top_bit zero m l h = eq-eqb (m % 2) 1 (omega arith)
top_bit (suc j) m l h = top_bit j (m / 2) (omega arith) (omega arith)

highest_at : (m n j : ℕ) → j < n → bit m j ≡ true → m < 2 ^ suc j → highest m n ≡ j
unfolding highest
highest_at m zero j l p h = absurd (omega arith)
highest_at m (suc n) j l p h =
    elim (cases_eq j n) [
      | inl q ↦ cond-true (bit m n) n (highest m n) (subst (λ (y : ℕ). bit m y ≡ true) q p) ∙ sym q
      | inr d ↦ cond_both (bit m n) n (highest m n) (λ y. y ≡ j) (λ e. absurd (let b = bit_lt (suc j) m n h e in omega arith)) (λ e. highest_at m n j (omega arith) p h)
    ]

-- 2 ^ j is the highest power in the mask m
pub highest_is : (m j : ℕ) → m < 65536 → 2 ^ j ≤ m → m < 2 * 2 ^ j → highest m 16 ≡ j
highest_is m j w l h = highest_at m 16 j below (top_bit j m l (omega arith)) (omega arith)
  where
    below : j < 16
    below = elim (cases_lt j 16) [ inl b ↦ b | inr c ↦ absurd (let e : 2 ^ 16 ≤ 2 ^ j = pow_mono c in omega arith) ]

-- ---- members

pub none_above : (a : Set) (n : ℕ) → 15 < n → member a n ≡ false
none_above a n h = elim (cases_Bool (member a n)) [ inl t ↦ absurd (let l = bit_lt 16 a.mask n a.fits t in omega arith) | inr f ↦ f ]

-- a mask made from the first i numbers of a list, each at most 15
pub record Marked (xs : List ℕ) (i m : ℕ) : Type 0 where
  pub fits : m < 65536
  pub small : (k : ℕ) → k < i → get_or xs k 0 ≤ 15
  pub only : (x : ℕ) → bit m x ≡ true → (k : ℕ) × (k < i) × (get_or xs k 0 ≡ x)
  pub each : (k : ℕ) → k < i → bit m (get_or xs k 0) ≡ true

pub marked_none : (xs : List ℕ) → Marked xs 0 0
marked_none xs = record { fits = omega arith; small = λ k h. absurd (omega arith); only = λ x h. absurd (empty_of x h); each = λ k h. absurd (omega arith) }

pow_has : (k : ℕ) → bit (2 ^ k) k ≡ true
unfolding bit
pow_has zero = refl
pow_has (suc k) = subst (λ (m : ℕ). bit m k ≡ true) (let e : 2 ^ k ≡ 2 ^ suc k / 2 = omega arith in e) (pow_has k)

fits_one : (x : ℕ) → x ≤ 15 → 2 ^ x < 65536
fits_one x h = pow-lt {i = x} {j = 16} (omega arith)

-- `1 << x`
pub one_shl : (x : ℕ) → x ≤ 15 → 2 ^ x ≡ 1 * 2 ^ x % 65536
one_shl x h = let l = fits_one x h in omega arith

pub marked_more : (xs : List ℕ) (i m x : ℕ) → Marked xs i m → get_or xs i 0 ≡ x → x ≤ 15 → Marked xs (i + 1) (bit_or m (2 ^ x))
marked_more xs i m x g e h = record {
  fits = or_lt 16 m (2 ^ x) g.fits (fits_one x h);
  small = λ k l. elim (cases_eq k i) [ inl q ↦ omega (arith, ap (λ j. get_or xs j 0) q) | inr d ↦ g.small k (omega arith) ];
  only = λ y b. elim (or_cases (bit m y) (bit (2 ^ x) y) (sym (bit_of_or m (2 ^ x) y) ∙ b)) [
    | inl p ↦ (let r = g.only y p in (r.0, omega (arith, r.1), r.2))
    | inr p ↦ (i, omega arith, e ∙ sym (pow_of x y p))
  ];
  each = λ k l. bit_of_or m (2 ^ x) (get_or xs k 0) ∙ elim (cases_eq k i) [
    | inl q ↦ or_right (bit m (get_or xs k 0)) (bit (2 ^ x) (get_or xs k 0)) (move (2 ^ x) x (get_or xs k 0) (sym (ap (λ j. get_or xs j 0) q ∙ e)) (pow_has x))
    | inr d ↦ or_left (bit m (get_or xs k 0)) (bit (2 ^ x) (get_or xs k 0)) (g.each k (omega arith))
  ];
}

pub marked_set : (xs : List ℕ) (i : ℕ) (a : Set) → i ≡ length xs → Marked xs i a.mask → AreMembers xs × IsSet a xs
marked_set xs i a e g =
    let s = some_bit 16 a.mask a.fits a.some in
    let r = g.only s.0 s.1 in (
      record { some = omega (arith, r.1); small = λ k h. g.small k (omega arith) },
      record { only = λ x h. let t = g.only x h in (t.0, omega (arith, t.1), t.2); each = λ k h. g.each k (omega arith) },
    )

pub marked_nothing : (xs : List ℕ) (i m : ℕ) → i ≡ length xs → m ≤ 0 → Marked xs i m → AreMembers xs → ⊥
marked_nothing xs i m e z g s = let p = bit_pos m (get_or xs 0 0) (g.each 0 (omega (arith, s.some))) in omega arith
