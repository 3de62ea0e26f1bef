-- Numbers that stop at K.
use Rattle.std.specs.Prelude.{◌≡◌, ℕ, zero, suc, ◌*◌, min}
use Rattle.std.proofs.Common.{ap, ◌∙◌, inl, inr, mul_comm, mul-le-mul_right, mul-zero, arith}
use Rattle.std.proofs.lemmas.Bool.{cases_lt}

-- a factor may be capped first
pub sat_mul_l : (K a b : ℕ) → min (min a K * b) K ≡ min (a * b) K
sat_mul_l K a zero = rw (mul-zero a, mul-zero (min a K))
sat_mul_l K a (suc b) =
    elim (cases_lt K a) [
      | inl h ↦ (let e : min a K ≡ K = omega arith in rw e (omega (arith, mul-le-mul_right b h)))
      | inr h ↦ (let e : min a K ≡ a = omega arith in rw e)
    ]

pub sat_mul_r : (K a b : ℕ) → min (a * min b K) K ≡ min (a * b) K
sat_mul_r K a b = ap (λ n. min n K) (mul_comm a (min b K)) ∙ sat_mul_l K b a ∙ ap (λ n. min n K) (mul_comm b a)
