-- Which plans have types, and the first fault of one that has not. Assumes nothing.
use Rattle.std.specs.Prelude.{◌≡◌, ℕ, suc, ◌+◌, ◌≤◌, Bool, true, false, cond, ◌&&◌, List, [], ◌∷◌, ◌++◌, map, length, Some, None, Ok, Err, Option, Result, ◌==◌, nat_le}
use Rattle.std.specs.List.{slice_get}
use Rattle.plan.specs.declared.TypeId.{TypeId}
use Rattle.plan.specs.declared.Type.{«Type» as Shape}
use Rattle.plan.specs.declared.Type.TheVariants.{Unit as UnitType, Number as NumberType, Pair as PairType, Either as EitherType}
use Rattle.plan.specs.declared.faults.TypeFault.{TypeFault}
use Rattle.plan.specs.declared.faults.TypeFault.TheVariants.{Name as BadName, «Type» as BadType, Scope as BadScope}
use Rattle.plan.specs.Trees.{Term, t_unit, t_number, t_name, t_let, t_take, t_pair, t_split, t_left, t_right, t_case, t_call, t_add, t_less, Terms, t_none, t_more, Leg, Plan, flat, the_type}
use Rattle.plan.specs.Limits.{max_levels}
use Rattle.plan.specs.Written.{built_in, same_type}

-- A scope has the types of its levels, the innermost first: a head's level is its tail's length.
abbrev pub found : List TypeId → ℕ → Option TypeId
found [] l = None
found (y ∷ Γ) l = cond (l == length Γ) (Some y) (found Γ l)

-- The number of a type in the table.
abbrev pub one_more : Option ℕ → Option ℕ
one_more None = None
one_more (Some n) = Some (suc n)

abbrev pub place_of : Shape → List Shape → Option ℕ
place_of y [] = None
place_of y (x ∷ xs) = cond (same_type x y) (Some 0) (one_more (place_of y xs))

abbrev pub as_type : Option ℕ → Option TypeId
as_type None = None
as_type (Some n) = Some (the_type n)

abbrev pub number_of : Shape → List Shape → Option TypeId
number_of y ts = as_type (place_of y ts)

pub record Sig : Type 0 where
  pub params : List TypeId
  pub result : TypeId

-- The types of a plan, and what its legs take and give.
pub record World : Type 0 where
  pub types : List Shape
  pub sigs : List Sig

abbrev pub unit_type : TypeId
unit_type = the_type 0

abbrev pub number_type : TypeId
number_type = the_type 1

-- either(unit, unit), what a comparison gives
abbrev pub truth_type : TypeId
truth_type = the_type 2

-- `Typed w Γ t y`: in the scope Γ the expression t has the type y.
abbrev mutual
  pub Typed : World → List TypeId → Term → TypeId → Type 0
  Typed w Γ t_unit y = y ≡ unit_type
  Typed w Γ (t_number n) y = y ≡ number_type
  Typed w Γ (t_name l) y = found Γ l ≡ Some y
  Typed w Γ (t_let k a b) y = (u : TypeId) × Typed w Γ a u × (1 + length Γ ≤ max_levels) × Typed w (u ∷ Γ) b y
  Typed w Γ (t_take k a b) y = (u : TypeId) × Typed w Γ a u × (1 + length Γ ≤ max_levels) × Typed w (u ∷ Γ) b y
  Typed w Γ (t_pair a b) y = (u v : TypeId) × Typed w Γ a u × Typed w Γ b v × (number_of (PairType u v) w.types ≡ Some y)
  Typed w Γ (t_split k a b) y =
      (x u v : TypeId) × Typed w Γ a x × (slice_get w.types x.index ≡ Some (PairType u v)) × (2 + length Γ ≤ max_levels) × Typed w (v ∷ u ∷ Γ) b y
  Typed w Γ (t_left x a) y = (u v : TypeId) × Typed w Γ a u × (slice_get w.types x.index ≡ Some (EitherType u v)) × (x ≡ y)
  Typed w Γ (t_right x a) y = (u v : TypeId) × Typed w Γ a v × (slice_get w.types x.index ≡ Some (EitherType u v)) × (x ≡ y)
  Typed w Γ (t_case k a b c) y =
      (x u v : TypeId) × Typed w Γ a x × (slice_get w.types x.index ≡ Some (EitherType u v)) × (1 + length Γ ≤ max_levels) × Typed w (u ∷ Γ) b y × Typed w (v ∷ Γ) c y
  Typed w Γ (t_call l us) y = (g : Sig) × (ys : List TypeId) × AllTyped w Γ us ys × (slice_get w.sigs l ≡ Some g) × (ys ≡ g.params) × (y ≡ g.result)
  Typed w Γ (t_add a b) y = Typed w Γ a number_type × Typed w Γ b number_type × (y ≡ number_type)
  Typed w Γ (t_less a b) y = Typed w Γ a number_type × Typed w Γ b number_type × (y ≡ truth_type)

  pub AllTyped : World → List TypeId → Terms → List TypeId → Type 0
  AllTyped w Γ t_none ys = ys ≡ []
  AllTyped w Γ (t_more a us) ys = (u : TypeId) × (us' : List TypeId) × Typed w Γ a u × AllTyped w Γ us us' × (ys ≡ u ∷ us')

abbrev pub Reached : Type 0 → Type 0
Reached X = Result X TypeFault

abbrev pub then_type : {X Y : Type 0} → Reached X → (X → Reached Y) → Reached Y
then_type (Ok x) f = f x
then_type (Err e) f = Err e

abbrev pub size : Term → ℕ
size t = length (flat t)

-- a fact that is there, or a fault of the type at the node
abbrev pub there_at : {X : Type 0} → ℕ → Option X → Reached X
there_at i None = Err (BadType i)
there_at i (Some x) = Ok x

abbrev pub named_at : ℕ → Option TypeId → Reached TypeId
named_at i None = Err (BadName i)
named_at i (Some y) = Ok y

abbrev pub if_room : {X : Type 0} → ℕ → ℕ → List TypeId → Reached X → Reached X
if_room i more Γ r = cond (nat_le (more + length Γ) max_levels) r (Err (BadScope i))

abbrev pub same_id : TypeId → TypeId → Bool
same_id x y = x.index == y.index

abbrev pub if_same : {X : Type 0} → ℕ → TypeId → TypeId → Reached X → Reached X
if_same i x y r = cond (same_id x y) r (Err (BadType i))

abbrev pub pair_parts : Option Shape → Option (TypeId × TypeId)
pair_parts None = None
pair_parts (Some UnitType) = None
pair_parts (Some NumberType) = None
pair_parts (Some (PairType u v)) = Some (u, v)
pair_parts (Some (EitherType u v)) = None

abbrev pub either_parts : Option Shape → Option (TypeId × TypeId)
either_parts None = None
either_parts (Some UnitType) = None
either_parts (Some NumberType) = None
either_parts (Some (PairType u v)) = None
either_parts (Some (EitherType u v)) = Some (u, v)

abbrev pub same_list : List TypeId → List TypeId → Bool
same_list [] [] = true
same_list [] (y ∷ ys) = false
same_list (x ∷ xs) [] = false
same_list (x ∷ xs) (y ∷ ys) = same_id x y && same_list xs ys

abbrev pub call_result : ℕ → List TypeId → Sig → Reached TypeId
call_result i ys g = cond (same_list ys g.params) (Ok g.result) (Err (BadType i))

-- The type of the expression whose node has the number i.
abbrev mutual
  pub check : World → List TypeId → ℕ → Term → Reached TypeId
  check w Γ i t_unit = Ok unit_type
  check w Γ i (t_number n) = Ok number_type
  check w Γ i (t_name l) = named_at i (found Γ l)
  check w Γ i (t_let k a b) = then_type (check w Γ (suc i) a) (λ u. if_room i 1 Γ (check w (u ∷ Γ) (suc i + size a) b))
  check w Γ i (t_take k a b) = then_type (check w Γ (suc i) a) (λ u. if_room i 1 Γ (check w (u ∷ Γ) (suc i + size a) b))
  check w Γ i (t_pair a b) =
      then_type (check w Γ (suc i) a) (λ u. then_type (check w Γ (suc i + size a) b) (λ v. there_at i (number_of (PairType u v) w.types)))
  check w Γ i (t_split k a b) =
      then_type (check w Γ (suc i) a) (λ x.
      then_type (there_at i (pair_parts (slice_get w.types x.index))) (λ p. if_room i 2 Γ (check w (p.1 ∷ p.0 ∷ Γ) (suc i + size a) b)))
  check w Γ i (t_left x a) = then_type (check w Γ (suc i) a) (λ u. then_type (there_at i (either_parts (slice_get w.types x.index))) (λ p. if_same i u p.0 (Ok x)))
  check w Γ i (t_right x a) = then_type (check w Γ (suc i) a) (λ u. then_type (there_at i (either_parts (slice_get w.types x.index))) (λ p. if_same i u p.1 (Ok x)))
  check w Γ i (t_case k a b c) =
      then_type (check w Γ (suc i) a) (λ x.
      then_type (there_at i (either_parts (slice_get w.types x.index))) (λ p.
      if_room i 1 Γ (then_type (check w (p.0 ∷ Γ) (suc i + size a) b) (λ u.
      then_type (check w (p.1 ∷ Γ) (suc i + size a + size b) c) (λ v. if_same i u v (Ok u))))))
  check w Γ i (t_call l us) = then_type (check_all w Γ (suc i) us) (λ ys. then_type (there_at i (slice_get w.sigs l)) (λ g. call_result i ys g))
  check w Γ i (t_add a b) =
      then_type (check w Γ (suc i) a) (λ u. then_type (check w Γ (suc i + size a) b) (λ v. if_same i u number_type (if_same i v number_type (Ok number_type))))
  check w Γ i (t_less a b) =
      then_type (check w Γ (suc i) a) (λ u. then_type (check w Γ (suc i + size a) b) (λ v. if_same i u number_type (if_same i v number_type (Ok truth_type))))

  pub check_all : World → List TypeId → ℕ → Terms → Reached (List TypeId)
  check_all w Γ i t_none = Ok []
  check_all w Γ i (t_more a us) = then_type (check w Γ i a) (λ u. then_type (check_all w Γ (i + size a) us) (λ ys. Ok (u ∷ ys)))

-- A leg's parameters in scope, the last one innermost.
abbrev pub scope_on : List TypeId → List TypeId → List TypeId
scope_on Γ [] = Γ
scope_on Γ (p ∷ ps) = scope_on (p ∷ Γ) ps

abbrev pub sig_of : Leg → Sig
sig_of g = record { params = g.params; result = g.result }

abbrev pub world_of : Plan → World
world_of p = record { types = built_in ++ p.entries; sigs = map sig_of p.legs }

abbrev pub LegTyped : World → Leg → Type 0
LegTyped w g = Typed w (scope_on [] g.params) g.body g.result

abbrev pub numbers : List TypeId → Bool
numbers [] = true
numbers (p ∷ ps) = same_id p number_type && numbers ps

abbrev pub numbers_only : Leg → Bool
numbers_only g = numbers g.params && same_id g.result number_type

-- Every leg has its result's type, and the last one deals in numbers.
abbrev pub LegsTyped : World → List Leg → Type 0
LegsTyped w [] = ⊥
LegsTyped w (g ∷ []) = (numbers_only g ≡ true) × LegTyped w g
LegsTyped w (g ∷ h ∷ gs) = LegTyped w g × LegsTyped w (h ∷ gs)

abbrev pub PlanTyped : Plan → Type 0
PlanTyped p = LegsTyped (world_of p) p.legs

abbrev pub check_leg : World → ℕ → Leg → Reached (Unit {0})
check_leg w i g = then_type (check w (scope_on [] g.params) i g.body) (λ y. if_same i y g.result (Ok tt))

abbrev pub check_legs : World → ℕ → List Leg → Reached (Unit {0})
check_legs w i [] = Err (BadType i)
check_legs w i (g ∷ []) = cond (numbers_only g) (check_leg w i g) (Err (BadType i))
check_legs w i (g ∷ h ∷ gs) = then_type (check_leg w i g) (λ u. check_legs w (i + size g.body) (h ∷ gs))

abbrev pub check_plan : Plan → Reached (Unit {0})
check_plan p = check_legs (world_of p) 0 p.legs

-- Accepted exactly if it has types.
pub record TypingLaw : Type 0 where
  pub accepted : (p : Plan) → check_plan p ≡ Ok tt → PlanTyped p
  pub typed : (p : Plan) → PlanTyped p → check_plan p ≡ Ok tt
