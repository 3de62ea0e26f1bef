-- The laws of none, one, many: each by its cases.
use Rattle.std.specs.Prelude.{◌≡◌, ℕ, zero, suc, true, refl}
use Rattle.std.proofs.Common.{arith}
use Rattle.scales.specs.Laws.{Laws, Within, ones, ExactlyOne}
use Rattle.scales.specs.Tally.{tally_ops, tally_leq, tally_ceiling}
use Rattle.scales.specs.declared.tally.Tally.{Tally}
use Rattle.scales.specs.declared.tally.Tally.TheVariants.{Zero, One, Many}

abbrev tally_ones : ℕ → Tally
tally_ones = ones tally_ops

two_ones : (k : ℕ) → tally_ones (suc (suc k)) ≡ Many
two_ones zero = refl
two_ones (suc k) = rw (two_ones k)

ones_within : (a : Tally) (k : ℕ) → tally_leq (tally_ones k) a ≡ true → Within k (tally_ceiling a)
ones_within Zero zero h = omega arith
ones_within Zero (suc zero) h = grind arith
ones_within Zero (suc (suc k)) h = let e = two_ones k in grind arith
ones_within One zero h = omega arith
ones_within One (suc zero) h = omega arith
ones_within One (suc (suc k)) h = let e = two_ones k in grind arith
ones_within Many k h = tt

pub tally_laws : Laws tally_ops
tally_laws = record {
  plus_comm = λ a b. grind arith;
  plus_assoc = λ a b c. grind arith;
  plus_zero = λ a. refl;
  times_assoc = λ a b c. grind arith;
  one_times = λ a. refl;
  times_one = λ a. grind arith;
  zero_times = λ a. refl;
  times_zero = λ a. grind arith;
  plus_times = λ a b c. grind arith;
  times_plus = λ a b c. grind arith;
  leq_refl = λ a. grind arith;
  leq_trans = λ a b c h k. grind arith;
  leq_anti = λ a b h k. grind arith;
  plus_mono = λ a b c h. grind arith;
  times_mono_l = λ a b c h. grind arith;
  times_mono_r = λ a b c h. grind arith;
  join_l = λ a b. grind arith;
  join_r = λ a b. grind arith;
  join_least = λ a b c h k. grind arith;
  ones_within = ones_within;
}

pub tally_exact : ExactlyOne tally_ops
tally_exact zero h = grind arith
tally_exact (suc zero) h = refl
tally_exact (suc (suc k)) h = let e = two_ones k in grind arith
