-- Sets of the numbers 0 to 15 as masks of 16 bits: what is a member, and sums and multiples of sets, 15 standing
-- for all above. The lemmas are those that a set needs to be one: none of these is empty or too wide.
use Rattle.std.specs.Prelude.{◌≡◌, ℕ, zero, suc, ◌+◌, ◌*◌, ◌/◌, ◌%◌, ◌^◌, ◌<◌, ◌≤◌, min, Bool, true, false, cond, ◌&&◌, ◌||◌, ◌==◌, refl}
use Rattle.std.proofs.Common.{sym, ap, ◌∙◌, subst, inl, inr, arith}
use Rattle.std.proofs.lemmas.Bool.{eq-eqb, ne_eqb, eqb-true, and_parts, and_from, or_cases, or_left, or_right, both_ways, cases_eq}

-- whether x is a member
unfoldable pub bit : ℕ → ℕ → Bool
bit m zero = m % 2 == 1
bit m (suc x) = bit (m / 2) x

-- the mask of the numbers below n that pass a test
unfoldable pub gather : ℕ → (ℕ → Bool) → ℕ
gather zero p = 0
gather (suc n) p = cond (p 0) 1 0 + 2 * gather n (λ x. p (suc x))

-- whether some number below n passes a test
unfoldable pub any : ℕ → (ℕ → Bool) → Bool
any zero p = false
any (suc n) p = p n || any n p

-- whether x is the sum of a member of each, 15 where that is more
unfoldable pub is_sum : ℕ → ℕ → ℕ → Bool
is_sum m k x = any 16 (λ a. bit m a && any 16 (λ b. bit k b && min (a + b) 15 == x))

unfoldable pub sum : ℕ → ℕ → ℕ
sum m k = gather 16 (is_sum m k)

-- the set summed n times
unfoldable pub repeated : ℕ → ℕ → ℕ
repeated k zero = 1
repeated k (suc n) = sum k (repeated k n)

-- whether x is a member of k summed n times, for a member n of m
unfoldable pub is_product : ℕ → ℕ → ℕ → Bool
is_product m k x = any 16 (λ n. bit m n && bit (repeated k n) x)

unfoldable pub product : ℕ → ℕ → ℕ
product m k = gather 16 (is_product m k)

-- the set after n steps
unfoldable pub after : (ℕ → ℕ) → ℕ → ℕ → ℕ
after next k zero = k
after next k (suc n) = next (after next k n)

-- whether x is a member of k after n steps, for a member n of m
unfoldable pub is_after : (ℕ → ℕ) → ℕ → ℕ → ℕ → Bool
is_after next m k x = any 16 (λ n. bit m n && bit (after next k n) x)

unfoldable pub union_after : (ℕ → ℕ) → ℕ → ℕ → ℕ
union_after next m k = gather 16 (is_after next m k)

-- ---- members

low_bit : (b : Bool) (g : ℕ) → ((cond b 1 0 + 2 * g) % 2 == 1) ≡ b
low_bit true g = eq-eqb ((1 + 2 * g) % 2) 1 (omega arith)
low_bit false g = ne_eqb ((0 + 2 * g) % 2) 1 (omega arith)

half : (b : Bool) (g : ℕ) → (cond b 1 0 + 2 * g) / 2 ≡ g
half true g = omega arith
half false g = omega arith

cond_le : (b : Bool) → cond b 1 0 ≤ 1
cond_le true = omega arith
cond_le false = omega arith

pub bit_gather : (n : ℕ) (p : ℕ → Bool) (x : ℕ) → x < n → bit (gather n p) x ≡ p x
unfolding bit gather
bit_gather zero p x h = absurd (omega arith)
bit_gather (suc n) p zero h = low_bit (p 0) (gather n (λ x. p (suc x)))
bit_gather (suc n) p (suc x) h = ap (λ m. bit m x) (half (p 0) (gather n (λ x. p (suc x)))) ∙ bit_gather n (λ x. p (suc x)) x (omega arith)

pub gather_lt : (n : ℕ) (p : ℕ → Bool) → gather n p < 2 ^ n
unfolding gather
gather_lt zero p = omega arith
gather_lt (suc n) p = omega (arith, gather_lt n (λ x. p (suc x)), cond_le (p 0))

zero_bit : (x : ℕ) → bit 0 x ≡ false
unfolding bit
zero_bit zero = refl
zero_bit (suc x) = zero_bit x

pub bit_lt : (n m x : ℕ) → m < 2 ^ n → bit m x ≡ true → x < n
unfolding bit
bit_lt zero m x h b = absurd (both_ways (bit m x) (ap (λ k. bit k x) (let e : m ≡ 0 = omega arith in e) ∙ zero_bit x) b)
bit_lt (suc n) m zero h b = omega arith
bit_lt (suc n) m (suc x) h b = omega (arith, bit_lt n (m / 2) x (omega arith) b)

pub bit_pos : (m x : ℕ) → bit m x ≡ true → 0 < m
bit_pos zero x b = absurd (both_ways (bit 0 x) (zero_bit x) b)
bit_pos (suc m) x b = omega arith

pub some_bit : (n m : ℕ) → m < 2 ^ n → 0 < m → (x : ℕ) × (bit m x ≡ true)
unfolding bit
some_bit zero m h p = absurd (omega arith)
some_bit (suc n) m h p =
    elim (cases_eq (m % 2) 1) [
      | inl e ↦ (0, eq-eqb (m % 2) 1 e)
      | inr d ↦ (let r : (x : ℕ) × (bit (m / 2) x ≡ true) = some_bit n (m / 2) (omega arith) (omega arith) in (suc r.0, r.1))
    ]

any_some : (n : ℕ) (p : ℕ → Bool) → any n p ≡ true → (k : ℕ) × (k < n) × (p k ≡ true)
unfolding any
any_some zero p h = absurd (both_ways false refl h)
any_some (suc n) p h =
    elim (or_cases (p n) (any n p) h) [
      | inl e ↦ (n, omega arith, e)
      | inr d ↦ (let r : (k : ℕ) × (k < n) × (p k ≡ true) = any_some n p d in (r.0, omega (arith, r.1), r.2))
    ]

any_from : (n : ℕ) (p : ℕ → Bool) (k : ℕ) → k < n → p k ≡ true → any n p ≡ true
unfolding any
any_from zero p k h e = absurd (omega arith)
any_from (suc n) p k h e =
    elim (cases_eq k n) [
      | inl q ↦ or_left (p n) (any n p) (subst (λ (j : ℕ). p j ≡ true) q e)
      | inr d ↦ or_right (p n) (any n p) (any_from n p k (omega arith) e)
    ]

pub sum_lt : (m k : ℕ) → sum m k < 65536
unfolding sum
sum_lt m k = gather_lt 16 (is_sum m k)

pub product_lt : (m k : ℕ) → product m k < 65536
unfolding product
product_lt m k = gather_lt 16 (is_product m k)

-- a member of a sum is a sum of members, and the other way round
pub sum_of : (m k x : ℕ) → bit (sum m k) x ≡ true → (a : ℕ) × (b : ℕ) × (bit m a ≡ true) × (bit k b ≡ true) × (x ≡ min (a + b) 15)
unfolding sum is_sum
sum_of m k x h =
    let s : is_sum m k x ≡ true = sym (bit_gather 16 (is_sum m k) x (bit_lt 16 (sum m k) x (sum_lt m k) h)) ∙ h in
    let r = any_some 16 (λ a. bit m a && any 16 (λ b. bit k b && min (a + b) 15 == x)) s in
    let u = and_parts (bit m r.0) (any 16 (λ b. bit k b && min (r.0 + b) 15 == x)) r.2 in
    let t = any_some 16 (λ b. bit k b && min (r.0 + b) 15 == x) u.1 in
    let v = and_parts (bit k t.0) (min (r.0 + t.0) 15 == x) t.2 in
    (r.0, t.0, u.0, v.0, sym (eqb-true (min (r.0 + t.0) 15) x v.1))

pub sum_has : (m k a b : ℕ) → m < 65536 → k < 65536 → bit m a ≡ true → bit k b ≡ true → bit (sum m k) (min (a + b) 15) ≡ true
unfolding sum is_sum
sum_has m k a b hm hk p q =
    let x = min (a + b) 15 in
    bit_gather 16 (is_sum m k) x (omega arith)
    ∙ any_from 16 (λ a. bit m a && any 16 (λ b. bit k b && min (a + b) 15 == x)) a (bit_lt 16 m a hm p)
    (and_from (bit m a) (any 16 (λ b. bit k b && min (a + b) 15 == x)) p
    (any_from 16 (λ b. bit k b && min (a + b) 15 == x) b (bit_lt 16 k b hk q)
    (and_from (bit k b) (min (a + b) 15 == x) q (eq-eqb x x refl))))

pub product_of : (m k x : ℕ) → bit (product m k) x ≡ true → (n : ℕ) × (bit m n ≡ true) × (bit (repeated k n) x ≡ true)
unfolding product is_product
product_of m k x h =
    let s : is_product m k x ≡ true = sym (bit_gather 16 (is_product m k) x (bit_lt 16 (product m k) x (product_lt m k) h)) ∙ h in
    let r = any_some 16 (λ n. bit m n && bit (repeated k n) x) s in
    let u = and_parts (bit m r.0) (bit (repeated k r.0) x) r.2 in
    (r.0, u.0, u.1)

pub repeated_lt : (k n : ℕ) → repeated k n < 65536
unfolding repeated
repeated_lt k zero = omega arith
repeated_lt k (suc n) = sum_lt k (repeated k n)

pub product_has : (m k n x : ℕ) → m < 65536 → bit m n ≡ true → bit (repeated k n) x ≡ true → bit (product m k) x ≡ true
unfolding product is_product
product_has m k n x hm p q =
    bit_gather 16 (is_product m k) x (bit_lt 16 (repeated k n) x (repeated_lt k n) q)
    ∙ any_from 16 (λ n. bit m n && bit (repeated k n) x) n (bit_lt 16 m n hm p) (and_from (bit m n) (bit (repeated k n) x) p q)

pub union_lt : (next : ℕ → ℕ) (m k : ℕ) → union_after next m k < 65536
unfolding union_after
union_lt next m k = gather_lt 16 (is_after next m k)

pub union_of : (next : ℕ → ℕ) (m k x : ℕ) → x < 16 → bit (union_after next m k) x ≡ true → (n : ℕ) × (n < 16) × (bit m n ≡ true) × (bit (after next k n) x ≡ true)
unfolding union_after is_after
union_of next m k x l h =
    let r = any_some 16 (λ n. bit m n && bit (after next k n) x) (sym (bit_gather 16 (is_after next m k) x l) ∙ h) in
    let u = and_parts (bit m r.0) (bit (after next k r.0) x) r.2 in
    (r.0, r.1, u.0, u.1)

pub union_has : (next : ℕ → ℕ) (m k n x : ℕ) → n < 16 → x < 16 → bit m n ≡ true → bit (after next k n) x ≡ true → bit (union_after next m k) x ≡ true
unfolding union_after is_after
union_has next m k n x h l p q =
    bit_gather 16 (is_after next m k) x l
    ∙ any_from 16 (λ n. bit m n && bit (after next k n) x) n h (and_from (bit m n) (bit (after next k n) x) p q)

-- none of these is empty
pub sum_pos : (m k : ℕ) → m < 65536 → k < 65536 → 0 < m → 0 < k → 0 < sum m k
sum_pos m k hm hk pm pk =
    let a = some_bit 16 m hm pm in
    let b = some_bit 16 k hk pk in
    bit_pos (sum m k) (min (a.0 + b.0) 15) (sum_has m k a.0 b.0 hm hk a.1 b.1)

pub repeated_pos : (k n : ℕ) → k < 65536 → 0 < k → 0 < repeated k n
unfolding repeated
repeated_pos k zero hk pk = omega arith
repeated_pos k (suc n) hk pk = sum_pos k (repeated k n) hk (repeated_lt k n) pk (repeated_pos k n hk pk)

pub product_pos : (m k : ℕ) → m < 65536 → k < 65536 → 0 < m → 0 < k → 0 < product m k
product_pos m k hm hk pm pk =
    let a = some_bit 16 m hm pm in
    let b = some_bit 16 (repeated k a.0) (repeated_lt k a.0) (repeated_pos k a.0 hk pk) in
    bit_pos (product m k) b.0 (product_has m k a.0 b.0 hm a.1 b.1)
