-- The plan that the tables of a read plan stand for. Assumes nothing.
use Rattle.std.specs.Prelude.{◌≡◌, List, [], ◌∷◌, ◌++◌, drop, vec_items}
use Rattle.plan.specs.declared.Plan.{Plan as FlatPlan}
use Rattle.plan.specs.declared.Leg.{Leg as FlatLeg}
use Rattle.plan.specs.declared.Row.{Row}
use Rattle.plan.specs.declared.TypeId.{TypeId}
use Rattle.plan.specs.declared.Type.{«Type» as Shape}
use Rattle.plan.specs.Trees.{Leg, Plan}
use Rattle.plan.specs.Written.{built_in, WellLaid}
use Rattle.plan.specs.Table.{term_at, Spells, InOrder}

abbrev pub params_of : FlatLeg → List TypeId
params_of g = g.params.items

-- The leg that a row of the table stands for.
abbrev pub leg_in : List Row → FlatLeg → Leg
leg_in ns g = record { params = params_of g; result = g.result; first = g.binder.index; body = term_at ns g.first }

abbrev pub legs_in : List Row → List FlatLeg → List Leg
legs_in ns [] = []
legs_in ns (g ∷ gs) = leg_in ns g ∷ legs_in ns gs

-- The plan that the three tables stand for.
abbrev pub plan_in : List Shape → List FlatLeg → List Row → Plan
plan_in ts gs ns = record { entries = drop 3 ts; legs = legs_in ns gs }

abbrev pub tree : FlatPlan → Plan
tree p = plan_in (vec_items p.types) (vec_items p.legs) (vec_items p.nodes)

-- What holds of the tables of a read plan.
pub record Sound (p : FlatPlan) : Type 0 where
  pub laid : WellLaid (tree p)
  pub built : vec_items p.types ≡ built_in ++ drop 3 (vec_items p.types)
  pub spells : Spells (vec_items p.nodes)
  pub in_order : InOrder 0 (vec_items p.nodes) (vec_items p.legs)
