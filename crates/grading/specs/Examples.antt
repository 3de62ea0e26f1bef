-- Least grades worked out, as one statement. Assumes nothing.
use Rattle.std.specs.Prelude.{◌≡◌, ℕ, List, [], ◌∷◌, Ok}
use Rattle.scales.specs.Examples.{IsSpan}
use Rattle.scales.specs.Set.{Holds, set_ops}
use Rattle.scales.specs.Span.{span_ops}
use Rattle.scales.specs.Tally.{tally_ops}
use Rattle.scales.specs.declared.scale.Ceiling.TheVariants.{Count}
use Rattle.scales.specs.declared.set.Set.{Set}
use Rattle.scales.specs.declared.span.Span.{Span}
use Rattle.scales.specs.declared.tally.Tally.TheVariants.{Zero, One, Many}
use Rattle.plan.specs.declared.Type.{«Type» as Shape}
use Rattle.plan.specs.declared.Type.TheVariants.{Pair as PairType, Either as EitherType}
use Rattle.plan.specs.Trees.{Term, t_number, t_name, t_let, t_take, t_pair, t_split, t_left, t_case, t_call, t_add, t_less, t_none, t_more, Leg, Plan, the_type}
use Rattle.typer.specs.Typing.{number_type}
use Rattle.typer.specs.Accepted.{typed}
use Rattle.grading.specs.Least.{least, ceilings}

-- a leg from a number to a number
abbrev pub of_number : ℕ → Term → Leg
of_number first body = record { params = number_type ∷ []; result = number_type; first = first; body = body }

-- a plan with these entries in its table of types
abbrev pub plan_with : List Shape → List Leg → Plan
plan_with entries legs = record { entries = entries; legs = legs }

abbrev pub plan_of : List Leg → Plan
plan_of legs = plan_with [] legs

abbrev pub call_of : ℕ → Term → Term
call_of i a = t_call i (t_more a t_none)

-- main(store) = let x = store in x + x
abbrev pub plan_a : Plan
plan_a = plan_of (of_number 0 (t_let 1 (t_name 0) (t_add (t_name 1) (t_name 1))) ∷ [])

-- twice(p) = p + p, main(store) = twice(twice(store))
abbrev pub plan_twice : Plan
plan_twice = plan_of (of_number 0 (t_add (t_name 0) (t_name 0)) ∷ of_number 1 (call_of 0 (call_of 0 (t_name 0))) ∷ [])

-- main(store) = let x = store in 7
abbrev pub plan_let : Plan
plan_let = plan_of (of_number 0 (t_let 1 (t_name 0) (t_number 7)) ∷ [])

-- main(store) = take x = store in 7
abbrev pub plan_take : Plan
plan_take = plan_of (of_number 0 (t_take 1 (t_name 0) (t_number 7)) ∷ [])

-- main(store) = case store < 5 of left u: store, right v: 7
abbrev pub plan_join : Plan
plan_join = plan_of (of_number 0 (t_case 1 (t_less (t_name 0) (t_number 5)) (t_name 0) (t_number 7)) ∷ [])

-- main(store) = case left(store) of left u: u + u, right v: v
abbrev pub plan_case : Plan
plan_case = plan_with (EitherType number_type number_type ∷ []) (of_number 0 (t_case 1 (t_left (the_type 3) (t_name 0)) (t_add (t_name 1) (t_name 1)) (t_name 1)) ∷ [])

-- main(store) = split (store, 5) as a, b in a + (b + b)
abbrev pub plan_split : Plan
plan_split = plan_with (PairType number_type number_type ∷ []) (of_number 0 (t_split 1 (t_pair (t_name 0) (t_number 5)) (t_add (t_name 1) (t_add (t_name 2) (t_name 2)))) ∷ [])

-- the spans are those with these ends
abbrev pub AreSpans : List Span → List (ℕ × ℕ) → Type 0
AreSpans [] [] = Unit {0}
AreSpans [] (e ∷ es) = ⊥
AreSpans (s ∷ ss) [] = ⊥
AreSpans (s ∷ ss) (e ∷ es) = IsSpan s e.0 (Count e.1) × AreSpans ss es

-- the sets are those with these members
abbrev pub AreSets : List Set → List (List ℕ) → Type 0
AreSets [] [] = Unit {0}
AreSets [] (m ∷ ms) = ⊥
AreSets (s ∷ ss) [] = ⊥
AreSets (s ∷ ss) (m ∷ ms) = Holds s m × AreSets ss ms

pub record Examples : Type 0 where
  -- the plans are accepted, from these bytes
  pub reads_a : typed (0x04 ∷ 0x01 ∷ 0x01 ∷ 0x01 ∷ 0x01 ∷ 0x00 ∷ 0x05 ∷ 0x03 ∷ 0x02 ∷ 0x0b ∷ 0x12 ∷ 0x01 ∷ 0x12 ∷ 0x01 ∷ []) ≡ Ok plan_a
  pub reads_twice : typed (0x04 ∷ 0x02 ∷ 0x01 ∷ 0x01 ∷ 0x01 ∷ 0x00 ∷ 0x03 ∷ 0x0b ∷ 0x02 ∷ 0x02 ∷ 0x01 ∷ 0x01 ∷ 0x01 ∷ 0x00 ∷ 0x03 ∷ 0x0a ∷ 0x0a ∷ 0x02 ∷ []) ≡ Ok plan_twice
  pub reads_let : typed (0x04 ∷ 0x01 ∷ 0x01 ∷ 0x01 ∷ 0x01 ∷ 0x00 ∷ 0x03 ∷ 0x03 ∷ 0x02 ∷ 0x21 ∷ 0x00 ∷ 0x00 ∷ 0x00 ∷ 0x07 ∷ []) ≡ Ok plan_let
  pub reads_take : typed (0x04 ∷ 0x01 ∷ 0x01 ∷ 0x01 ∷ 0x01 ∷ 0x00 ∷ 0x03 ∷ 0x04 ∷ 0x02 ∷ 0x21 ∷ 0x00 ∷ 0x00 ∷ 0x00 ∷ 0x07 ∷ []) ≡ Ok plan_take
  pub reads_join : typed (0x04 ∷ 0x01 ∷ 0x01 ∷ 0x01 ∷ 0x01 ∷ 0x00 ∷ 0x06 ∷ 0x09 ∷ 0x0c ∷ 0x02 ∷ 0x21 ∷ 0x00 ∷ 0x00 ∷ 0x00 ∷ 0x05 ∷ 0x02 ∷ 0x21 ∷ 0x00 ∷ 0x00 ∷ 0x00 ∷ 0x07 ∷ []) ≡ Ok plan_join
  pub reads_case : typed (0x06 ∷ 0x01 ∷ 0x02 ∷ 0x01 ∷ 0x01 ∷ 0x01 ∷ 0x01 ∷ 0x01 ∷ 0x01 ∷ 0x00 ∷ 0x07 ∷ 0x09 ∷ 0x17 ∷ 0x03 ∷ 0x02 ∷ 0x0b ∷ 0x12 ∷ 0x01 ∷ 0x12 ∷ 0x01 ∷ 0x12 ∷ 0x01 ∷ []) ≡ Ok plan_case
  pub reads_split : typed (0x06 ∷ 0x01 ∷ 0x01 ∷ 0x01 ∷ 0x01 ∷ 0x01 ∷ 0x01 ∷ 0x01 ∷ 0x01 ∷ 0x00 ∷ 0x09 ∷ 0x06 ∷ 0x05 ∷ 0x02 ∷ 0x21 ∷ 0x00 ∷ 0x00 ∷ 0x00 ∷ 0x05 ∷ 0x0b ∷ 0x12 ∷ 0x01 ∷ 0x0b ∷ 0x12 ∷ 0x02 ∷ 0x12 ∷ 0x02 ∷ []) ≡ Ok plan_split
  -- plan A: the store and x have many, 2..2 and {2}
  pub tally_a : least tally_ops plan_a ≡ Many ∷ Many ∷ []
  pub span_a : AreSpans (least span_ops plan_a) ((2, 2) ∷ (2, 2) ∷ [])
  pub set_a : AreSets (least set_ops plan_a) ((2 ∷ []) ∷ (2 ∷ []) ∷ [])
  -- twice's parameter has 2..2, and the store that goes through it twice 4..4
  pub span_twice : AreSpans (least span_ops plan_twice) ((2, 2) ∷ (4, 4) ∷ [])
  pub ceilings_twice : ceilings span_ops plan_twice ≡ Count 4 ∷ Count 0 ∷ Count 0 ∷ Count 0 ∷ Count 0 ∷ Count 0 ∷ Count 0 ∷ Count 0 ∷ []
  -- a let whose name is not used does not use what it binds; a take does, once
  pub tally_let : least tally_ops plan_let ≡ Zero ∷ Zero ∷ []
  pub tally_take : least tally_ops plan_take ≡ One ∷ Zero ∷ []
  -- branches are joined: one use, and one or none more
  pub tally_join : least tally_ops plan_join ≡ Many ∷ Zero ∷ Zero ∷ []
  pub span_join : AreSpans (least span_ops plan_join) ((1, 2) ∷ (0, 0) ∷ (0, 0) ∷ [])
  -- a case binds its first binder on the left; a split its first one to the first part
  pub span_case : AreSpans (least span_ops plan_case) ((1, 1) ∷ (2, 2) ∷ (1, 1) ∷ [])
  pub span_split : AreSpans (least span_ops plan_split) ((1, 1) ∷ (1, 1) ∷ (2, 2) ∷ [])
