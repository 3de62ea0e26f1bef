-- What a scale of use is: grades with a sum, a scaling, an order, a join and a ceiling, and the laws that tie them.
use Rattle.std.specs.Prelude.{◌≡◌, ℕ, zero, suc, ◌≤◌, Bool, true}
use Rattle.scales.specs.declared.scale.Ceiling.{Ceiling}
use Rattle.scales.specs.declared.scale.Ceiling.TheVariants.{Count, Unbounded}

-- the operations of a scale whose grades are the values of S
pub record Ops (S : Type 0) : Type 0 where
  -- no use, and exactly one use
  pub zero : S
  pub one : S
  -- uses of one part and uses of another
  pub plus : S → S → S
  -- `times a b`: what is used b each time, used a times
  pub times : S → S → S
  -- whether the first grade lies at or below the second
  pub leq : S → S → Bool
  -- the least grade at or above both
  pub join : S → S → S
  -- the most uses that a grade allows
  pub ceiling : S → Ceiling

-- the sum of k ones
abbrev pub ones : {S : Type 0} → Ops S → ℕ → S
ones o zero = o.zero
ones o (suc k) = o.plus o.one (ones o k)

-- k is at most the ceiling
abbrev pub Within : ℕ → Ceiling → Type 0
Within k (Count n) = k ≤ n
Within k Unbounded = Unit {0}

-- the laws of a scale, for all its grades
pub record Laws {S : Type 0} (o : Ops S) : Type 0 where
  -- sum: commutative, associative, with unit zero
  pub plus_comm : (a b : S) → o.plus a b ≡ o.plus b a
  pub plus_assoc : (a b c : S) → o.plus (o.plus a b) c ≡ o.plus a (o.plus b c)
  pub plus_zero : (a : S) → o.plus o.zero a ≡ a
  -- scaling: associative, with unit one on both sides, and zero if a side is zero
  pub times_assoc : (a b c : S) → o.times (o.times a b) c ≡ o.times a (o.times b c)
  pub one_times : (a : S) → o.times o.one a ≡ a
  pub times_one : (a : S) → o.times a o.one ≡ a
  pub zero_times : (a : S) → o.times o.zero a ≡ o.zero
  pub times_zero : (a : S) → o.times a o.zero ≡ o.zero
  -- scaling goes over a sum on the left; over one on the right it gives at most the sum of the two
  pub plus_times : (a b c : S) → o.times (o.plus a b) c ≡ o.plus (o.times a c) (o.times b c)
  pub times_plus : (a b c : S) → o.leq (o.times a (o.plus b c)) (o.plus (o.times a b) (o.times a c)) ≡ true
  -- the order: reflexive, transitive, antisymmetric, kept by sum (whose other argument follows, since
  -- sum is commutative) and by scaling in each argument
  pub leq_refl : (a : S) → o.leq a a ≡ true
  pub leq_trans : (a b c : S) → o.leq a b ≡ true → o.leq b c ≡ true → o.leq a c ≡ true
  pub leq_anti : (a b : S) → o.leq a b ≡ true → o.leq b a ≡ true → a ≡ b
  pub plus_mono : (a b c : S) → o.leq a b ≡ true → o.leq (o.plus a c) (o.plus b c) ≡ true
  pub times_mono_l : (a b c : S) → o.leq a b ≡ true → o.leq (o.times a c) (o.times b c) ≡ true
  pub times_mono_r : (a b c : S) → o.leq a b ≡ true → o.leq (o.times c a) (o.times c b) ≡ true
  -- join: at or above both, and least so
  pub join_l : (a b : S) → o.leq a (o.join a b) ≡ true
  pub join_r : (a b : S) → o.leq b (o.join a b) ≡ true
  pub join_least : (a b c : S) → o.leq a c ≡ true → o.leq b c ≡ true → o.leq (o.join a b) c ≡ true
  -- k uses that a grade allows are within its ceiling
  pub ones_within : (a : S) (k : ℕ) → o.leq (ones o k) a ≡ true → Within k (o.ceiling a)

-- a scale with its laws, as one value: a theorem over every lawful scale takes one of these
pub record LawfulScale : Type 1 where
  pub Carrier : Type 0
  pub ops : Ops Carrier
  pub laws : Laws ops

abbrev pub scale_of : {S : Type 0} {o : Ops S} → Laws o → LawfulScale
scale_of {S} {o} laws = record { Carrier = S; ops = o; laws = laws }

-- a grade of one allows exactly one use, not fewer
abbrev pub ExactlyOne : {S : Type 0} → Ops S → Type 0
ExactlyOne o = (k : ℕ) → o.leq (ones o k) o.one ≡ true → k ≡ 1
