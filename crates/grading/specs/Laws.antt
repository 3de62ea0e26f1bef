-- The laws of the least grades, for any scale. Assumes nothing.
use Rattle.std.specs.Prelude.{◌≡◌, ℕ, ◌+◌, ◌<◌, ◌≤◌, List, [], ◌∷◌, length, slice_index_or}
use Rattle.scales.specs.Laws.{Ops}
use Rattle.scales.specs.declared.scale.Ceiling.TheVariants.{Count}
use Rattle.plan.specs.Limits.{max_params}
use Rattle.plan.specs.Trees.{Term, Leg, Plan}
use Rattle.plan.specs.Written.{WellLaid}
use Rattle.typer.specs.Typing.{PlanTyped}
use Rattle.grading.specs.Grading.{last_first, arity, Leq, Above, Graded, LegsAllowed, Allowed}
use Rattle.grading.specs.Least.{need, leg_needs, least, least_grading, binder_count, main_leg, store_grades, ceilings}
use Rattle.grading.specs.Nodes.{EveryNode}

-- The plans that the reader and the typer accept.
abbrev pub Accepted : Plan → Type 0
Accepted p = WellLaid p × PlanTyped p

-- If the binders have the grades R, then each node of the legs, from the last to the first, may have its least context.
abbrev pub ContextsAllowed : {G : Type 0} → Ops G → (ℕ → G) → List Leg → Type 0
ContextsAllowed o R [] = Unit {0}
ContextsAllowed o R (g ∷ legs) = EveryNode (λ t n. Graded o R legs n t (need o (leg_needs o legs) t n)) g.body (arity g) × ContextsAllowed o R legs

-- R gives main's parameters their least grades.
abbrev pub StoresLeast : {G : Type 0} → Ops G → (ℕ → G) → Plan → Type 0
StoresLeast o R p = (i : ℕ) → i < arity (main_leg p) → R ((main_leg p).first + i) ≡ slice_index_or (store_grades o p) i o.zero

pub record LeastAllowed {G : Type 0} (o : Ops G) : Type 0 where
  -- the least grading of an accepted plan is allowed
  pub allowed : (p : Plan) → Accepted p → Allowed o (least_grading o p) p
  -- with the least context at every node
  pub at_nodes : (p : Plan) → Accepted p → ContextsAllowed o (least_grading o p) (last_first p)
  -- it has a grade for each binder
  pub counted : (p : Plan) → length (least o p) ≡ binder_count p
  -- so some allowed grading has the least grades at main's parameters
  pub at_stores : (p : Plan) → Accepted p → (R : ℕ → G) × Allowed o R p × StoresLeast o R p

pub record LeastLeast {G : Type 0} (o : Ops G) : Type 0 where
  -- an allowed grading lies at or above the least one at every binder
  pub at_binders : (p : Plan) → Accepted p → (R : ℕ → G) → Allowed o R p → (k : ℕ) → k < length (least o p) → Leq o (least_grading o p k) (R k)
  -- and at every node: over legs that it allows, in a plan those behind the node's leg, each context that a node may have lies at or above its least one
  pub at_nodes : (R : ℕ → G) (legs : List Leg) → LegsAllowed o R legs → (n : ℕ) (t : Term) (γ : ℕ → G) → Graded o R legs n t γ → Above o n (need o (leg_needs o legs) t n) γ

-- The eight ceilings are those of main's parameters, and 0 for the stores beyond them.
pub record CeilingsOf {G : Type 0} (o : Ops G) : Type 0 where
  pub eight : (p : Plan) → length (ceilings o p) ≡ max_params
  pub of_stores : (p : Plan) → Accepted p → (i : ℕ) → i < arity (main_leg p) → slice_index_or (ceilings o p) i (Count 0) ≡ o.ceiling (slice_index_or (store_grades o p) i o.zero)
  pub beyond : (p : Plan) (i : ℕ) → arity (main_leg p) ≤ i → slice_index_or (ceilings o p) i (Count 0) ≡ Count 0
