-- Nonempty sets of the numbers 0 to 15 of uses, where 15 stands for 15 or more.
use Rattle.std.specs.Prelude.{◌≡◌, ℕ, zero, suc, ◌+◌, ◌<◌, ◌≤◌, min, Bool, true, cond, ◌⊎◌, List, length, ◌==◌, bit_and, bit_or, nat_lt, slice_index, slice_index_or}
use Rattle.std.proofs.Common.{arith}
use Rattle.std.specs.Int.Bits.{or_add_and}
use Rattle.std.proofs.lemmas.Nat.{and_le_r, or_lt}
use Rattle.scales.specs.Masks.{bit, sum, repeated, product, sum_lt, sum_pos, repeated_lt, repeated_pos, product_lt, product_pos}
use Rattle.scales.specs.Laws.{Ops}
use Rattle.scales.specs.declared.scale.Ceiling.{Ceiling}
use Rattle.scales.specs.declared.scale.Ceiling.TheVariants.{Count, Unbounded}
use Rattle.scales.specs.declared.set.Set.{Set}

-- whether x is a member
abbrev pub member : Set → ℕ → Bool
member a x = bit a.mask x

infixl 20 ◌∈◌
abbrev pub ◌∈◌ : ℕ → Set → Type 0
x ∈ a = member a x ≡ true

-- ---- the operations

abbrev pub set_zero : Set
set_zero = record { mask = 1; some = omega arith; fits = omega arith }

abbrev pub set_one : Set
set_one = record { mask = 2; some = omega arith; fits = omega arith }

abbrev pub set_plus : Set → Set → Set
set_plus a b = record { mask = sum a.mask b.mask; some = sum_pos a.mask b.mask a.fits b.fits a.some b.some; fits = sum_lt a.mask b.mask }

-- a set summed n times
abbrev pub set_repeated : Set → ℕ → Set
set_repeated a n = record { mask = repeated a.mask n; some = repeated_pos a.mask n a.fits a.some; fits = repeated_lt a.mask n }

abbrev pub set_times : Set → Set → Set
set_times a b = record { mask = product a.mask b.mask; some = product_pos a.mask b.mask a.fits b.fits a.some b.some; fits = product_lt a.mask b.mask }

abbrev pub set_leq : Set → Set → Bool
set_leq a b = bit_and a.mask b.mask == a.mask

abbrev pub set_join : Set → Set → Set
set_join a b = record { mask = bit_or a.mask b.mask; some = omega (arith, a.some, or_add_and a.mask b.mask, and_le_r a.mask b.mask); fits = or_lt 16 a.mask b.mask a.fits b.fits }

-- the highest member below n
unfoldable pub highest : ℕ → ℕ → ℕ
highest m zero = 0
highest m (suc n) = cond (bit m n) n (highest m n)

-- a count below 15, or no bound
abbrev pub bounded : ℕ → Ceiling
bounded n = cond (nat_lt n 15) (Count n) Unbounded

abbrev pub set_ceiling : Set → Ceiling
set_ceiling a = bounded (highest a.mask 16)

abbrev pub set_ops : Ops Set
set_ops = record { zero = set_zero; one = set_one; plus = set_plus; times = set_times; leq = set_leq; join = set_join; ceiling = set_ceiling }

-- ---- the same by members: what has to be known of sets, and no mask

-- exactly if
infixl 10 ◌⇔◌
abbrev pub ◌⇔◌ : Type 0 → Type 0 → Type 0
P ⇔ Q = (P → Q) × (Q → P)

pub record ByMembers : Type 0 where
  -- a set is its members: at least one, each up to 15
  pub nonempty : (a : Set) → (x : ℕ) × (x ∈ a)
  pub small : (a : Set) (x : ℕ) → x ∈ a → x ≤ 15
  pub same : (a b : Set) → ((x : ℕ) → (x ∈ a) ⇔ (x ∈ b)) → a ≡ b
  pub in_zero : (x : ℕ) → (x ∈ set_zero) ⇔ (x ≡ 0)
  pub in_one : (x : ℕ) → (x ∈ set_one) ⇔ (x ≡ 1)
  -- every sum of a member of each, 15 where it is more
  pub in_plus : (a b : Set) (x : ℕ) → (x ∈ set_plus a b) ⇔ ((p : ℕ) × (q : ℕ) × (p ∈ a) × (q ∈ b) × (x ≡ min (p + q) 15))
  -- the union, over the members n of a, of b summed n times
  pub in_times : (a b : Set) (x : ℕ) → (x ∈ set_times a b) ⇔ ((n : ℕ) × (n ∈ a) × (x ∈ set_repeated b n))
  pub no_time : (b : Set) → set_repeated b 0 ≡ set_zero
  pub once_more : (b : Set) (n : ℕ) → set_repeated b (suc n) ≡ set_plus b (set_repeated b n)
  -- inclusion and union
  pub in_leq : (a b : Set) → (set_leq a b ≡ true) ⇔ ((x : ℕ) → x ∈ a → x ∈ b)
  pub in_join : (a b : Set) (x : ℕ) → (x ∈ set_join a b) ⇔ ((x ∈ a) ⊎ (x ∈ b))
  -- the highest member, or no bound if that is 15
  pub at_count : (a : Set) (n : ℕ) → (set_ceiling a ≡ Count n) ⇔ ((n ∈ a) × (n < 15) × ((x : ℕ) → x ∈ a → x ≤ n))
  pub at_unbounded : (a : Set) → (set_ceiling a ≡ Unbounded) ⇔ (15 ∈ a)

-- ---- sets from a list of members

-- the list holds at least one number, and none above 15
pub record AreMembers (xs : List ℕ) : Type 0 where
  pub some : 0 < length xs
  pub small : (k : ℕ) → k < length xs → slice_index xs k ≤ 15

-- the members of a are the numbers of the list
pub record Holds (a : Set) (xs : List ℕ) : Type 0 where
  pub only : (x : ℕ) → x ∈ a → (k : ℕ) × (k < length xs) × (slice_index xs k ≡ x)
  pub each : (k : ℕ) → k < length xs → slice_index_or xs k 0 ∈ a
