-- The least grades of a plan, for any scale. Assumes nothing.
use Rattle.std.specs.Prelude.{ℕ, zero, suc, ◌+◌, List, [], ◌∷◌, ◌++◌, map, slice_index_or}
use Rattle.scales.specs.Laws.{Ops}
use Rattle.scales.specs.declared.scale.Ceiling.{Ceiling}
use Rattle.scales.specs.declared.scale.Ceiling.TheVariants.{Count}
use Rattle.plan.specs.Limits.{max_params}
use Rattle.plan.specs.Trees.{Term, t_unit, t_number, t_name, t_let, t_take, t_pair, t_split, t_left, t_right, t_case, t_call, t_add, t_less, Terms, t_none, t_more, Leg, Plan, flat}
use Rattle.plan.specs.Written.{binders_in}
use Rattle.grading.specs.Grading.{at, no_leg, arity, one_of, last_first}

-- `need o Γ t n l`: the least grade of the level l in the expression t, with n levels in scope. Γ has the least grades of each lower leg's parameters, the last leg's first.
-- A binder's least grade is that which its body has at its level.
abbrev mutual
  pub need : {G : Type 0} → Ops G → List (ℕ → G) → Term → ℕ → ℕ → G
  need o Γ t_unit n l = o.zero
  need o Γ (t_number v) n l = o.zero
  need o Γ (t_name j) n l = one_of o j l
  need o Γ (t_let k a b) n l = o.plus (o.times (need o Γ b (suc n) n) (need o Γ a n l)) (need o Γ b (suc n) l)
  need o Γ (t_take k a b) n l = o.plus (need o Γ a n l) (need o Γ b (suc n) l)
  need o Γ (t_pair a b) n l = o.plus (need o Γ a n l) (need o Γ b n l)
  need o Γ (t_split k a b) n l = o.plus (need o Γ a n l) (need o Γ b (suc (suc n)) l)
  need o Γ (t_left y a) n l = need o Γ a n l
  need o Γ (t_right y a) n l = need o Γ a n l
  need o Γ (t_case k a b c) n l = o.plus (need o Γ a n l) (o.join (need o Γ b (suc n) l) (need o Γ c (suc n) l))
  need o Γ (t_call i ts) n l = needs o Γ ts (at (λ j. o.zero) Γ i) 0 n l
  need o Γ (t_add a b) n l = o.plus (need o Γ a n l) (need o Γ b n l)
  need o Γ (t_less a b) n l = o.plus (need o Γ a n l) (need o Γ b n l)

  -- the arguments for the parameters from the j-th on, which have the grades r
  pub needs : {G : Type 0} → Ops G → List (ℕ → G) → Terms → (ℕ → G) → ℕ → ℕ → ℕ → G
  needs o Γ t_none r j n l = o.zero
  needs o Γ (t_more a ts) r j n l = o.plus (o.times (r j) (need o Γ a n l)) (needs o Γ ts r (suc j) n l)

-- the least grades of a leg's parameters, over those of the lower legs
abbrev pub param_needs : {G : Type 0} → Ops G → List (ℕ → G) → Leg → ℕ → G
param_needs o Γ g = need o Γ g.body (arity g)

-- those of all legs, from the last to the first
abbrev pub leg_needs : {G : Type 0} → Ops G → List Leg → List (ℕ → G)
leg_needs o [] = []
leg_needs o (g ∷ legs) = param_needs o (leg_needs o legs) g ∷ leg_needs o legs

-- The least grades of the binders inside an expression, in prefix order: a node's own before those of its kids.
abbrev mutual
  pub inner : {G : Type 0} → Ops G → List (ℕ → G) → Term → ℕ → List G
  inner o Γ t_unit n = []
  inner o Γ (t_number v) n = []
  inner o Γ (t_name j) n = []
  inner o Γ (t_let k a b) n = need o Γ b (suc n) n ∷ (inner o Γ a n ++ inner o Γ b (suc n))
  inner o Γ (t_take k a b) n = need o Γ b (suc n) n ∷ (inner o Γ a n ++ inner o Γ b (suc n))
  inner o Γ (t_pair a b) n = inner o Γ a n ++ inner o Γ b n
  inner o Γ (t_split k a b) n =
      need o Γ b (suc (suc n)) n ∷ need o Γ b (suc (suc n)) (suc n) ∷ (inner o Γ a n ++ inner o Γ b (suc (suc n)))
  inner o Γ (t_left y a) n = inner o Γ a n
  inner o Γ (t_right y a) n = inner o Γ a n
  inner o Γ (t_case k a b c) n =
      need o Γ b (suc n) n ∷ need o Γ c (suc n) n ∷ (inner o Γ a n ++ (inner o Γ b (suc n) ++ inner o Γ c (suc n)))
  inner o Γ (t_call i ts) n = inner_of_each o Γ ts n
  inner o Γ (t_add a b) n = inner o Γ a n ++ inner o Γ b n
  inner o Γ (t_less a b) n = inner o Γ a n ++ inner o Γ b n

  pub inner_of_each : {G : Type 0} → Ops G → List (ℕ → G) → Terms → ℕ → List G
  inner_of_each o Γ t_none n = []
  inner_of_each o Γ (t_more a ts) n = inner o Γ a n ++ inner_of_each o Γ ts n

-- the grades of the first n levels, as a list
abbrev pub from_0 : {G : Type 0} → ℕ → (ℕ → G) → List G
from_0 zero γ = []
from_0 (suc n) γ = γ 0 ∷ from_0 n (λ l. γ (suc l))

-- A leg's parameters first, then the binders inside its body.
abbrev pub leg_grades : {G : Type 0} → Ops G → List (ℕ → G) → Leg → List G
leg_grades o Γ g = from_0 (arity g) (param_needs o Γ g) ++ inner o Γ g.body (arity g)

abbrev pub legs_grades : {G : Type 0} → Ops G → List Leg → List G
legs_grades o [] = []
legs_grades o (g ∷ legs) = legs_grades o legs ++ leg_grades o (leg_needs o legs) g

-- The least grades of a plan: one for each binder, by the binders' numbers.
abbrev pub least : {G : Type 0} → Ops G → Plan → List G
least o p = legs_grades o (last_first p)

-- The grading that they make: the k-th for the binder k.
abbrev pub least_grading : {G : Type 0} → Ops G → Plan → ℕ → G
least_grading o p k = slice_index_or (least o p) k o.zero

-- How many binders the legs have: the parameters of each and those of its nodes.
abbrev pub legs_binders : List Leg → ℕ
legs_binders [] = 0
legs_binders (g ∷ legs) = binders_in (legs_binders legs + arity g) (flat g.body)

abbrev pub binder_count : Plan → ℕ
binder_count p = legs_binders (last_first p)

-- the main leg, which is the last one
abbrev pub first_of : List Leg → Leg
first_of [] = no_leg
first_of (g ∷ legs) = g

abbrev pub main_leg : Plan → Leg
main_leg p = first_of (last_first p)

-- The least grades of main's parameters, which are the stores.
abbrev pub first_grades : {G : Type 0} → Ops G → List Leg → List G
first_grades o [] = []
first_grades o (g ∷ legs) = from_0 (arity g) (param_needs o (leg_needs o legs) g)

abbrev pub store_grades : {G : Type 0} → Ops G → Plan → List G
store_grades o p = first_grades o (last_first p)

-- n ceilings: those given, and 0 for a store beyond them
abbrev pub filled : ℕ → List Ceiling → List Ceiling
filled zero cs = []
filled (suc n) [] = Count 0 ∷ filled n []
filled (suc n) (c ∷ cs) = c ∷ filled n cs

-- What each of the eight stores may be asked for at most.
abbrev pub ceilings : {G : Type 0} → Ops G → Plan → List Ceiling
ceilings o p = filled max_params (map o.ceiling (store_grades o p))
