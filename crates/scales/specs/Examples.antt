-- Sums and scalings worked out, as one statement over the definitions of spans and sets.
use Rattle.std.specs.Prelude.{◌≡◌, ℕ, ◌≤◌, [], ◌∷◌}
use Rattle.std.proofs.Common.{arith}
use Rattle.scales.specs.Ends.{greatest}
use Rattle.scales.specs.Span.{span_plus, span_times}
use Rattle.scales.specs.Set.{Holds, set_one, set_plus, set_times}
use Rattle.scales.specs.declared.scale.Ceiling.{Ceiling}
use Rattle.scales.specs.declared.scale.Ceiling.TheVariants.{Count, Unbounded}
use Rattle.scales.specs.declared.span.Span.{Span}
use Rattle.scales.specs.declared.set.Set.{Set}

-- the span low..high
abbrev pub from_to : (low high : ℕ) → low ≤ high → high ≤ greatest → Span
from_to low high h k = record { low = low; high = Count high; fits = omega arith; order = h; proper = k }

-- the span s is low..high
abbrev pub IsSpan : Span → ℕ → Ceiling → Type 0
IsSpan s low high = (s.low ≡ low) × (s.high ≡ high)

-- {1,2}, {2} and {0,3}; {1} is the grade one
abbrev pub one_or_two : Set
one_or_two = record { mask = 6; some = omega arith; fits = omega arith }

abbrev pub just_two : Set
just_two = record { mask = 4; some = omega arith; fits = omega arith }

abbrev pub none_or_three : Set
none_or_three = record { mask = 9; some = omega arith; fits = omega arith }

pub record Examples : Type 0 where
  -- 1..2 · 2..3 = 2..6
  pub span_scaled : IsSpan (span_times (from_to 1 2 (omega arith) (omega arith)) (from_to 2 3 (omega arith) (omega arith))) 2 (Count 6)
  -- 5000..6000 + 4000..5000 = 9000..inf
  pub span_summed : IsSpan (span_plus (from_to 5000 6000 (omega arith) (omega arith)) (from_to 4000 5000 (omega arith) (omega arith))) 9000 Unbounded
  -- the sets named above are what their names say
  pub set_1 : Holds set_one (1 ∷ [])
  pub set_1_2 : Holds one_or_two (1 ∷ 2 ∷ [])
  pub set_2 : Holds just_two (2 ∷ [])
  pub set_0_3 : Holds none_or_three (0 ∷ 3 ∷ [])
  -- {1,2} · ({1} + {1}) = {2,4}, but {1,2} + {1,2} = {2,3,4}
  pub set_scaled : Holds (set_times one_or_two (set_plus set_one set_one)) (2 ∷ 4 ∷ [])
  pub set_summed : Holds (set_plus one_or_two one_or_two) (2 ∷ 3 ∷ 4 ∷ [])
  -- {2} · {0,3} = {0,3,6}
  pub set_twice : Holds (set_times just_two none_or_three) (0 ∷ 3 ∷ 6 ∷ [])
