-- A typed plan and the machine that flies it. Assumes nothing.
use Rattle.std.specs.Prelude.{◌-◌, List, length, vec_items, slice_index_or}
use Rattle.plan.specs.declared.Row.{Row}
use Rattle.plan.specs.declared.Leg.{Leg}
use Rattle.typer.specs.declared.TypedPlan.{TypedPlan}
use Rattle.plan.specs.Plans.{tree, Sound}
use Rattle.typer.specs.Typing.{PlanTyped}
use Rattle.flight.specs.declared.machine.Machine.{Machine}
use Rattle.flight.specs.Nodes.{no_leg}
use Rattle.flight.specs.Tables.{tables}
use Rattle.flight.specs.Sound.{Ready}
use Rattle.flight.specs.Spelled.{Main}

abbrev pub rows_of : TypedPlan → List Row
rows_of q = vec_items q.plan.nodes

abbrev pub legs_of : TypedPlan → List Leg
legs_of q = vec_items q.plan.legs

-- the last leg
abbrev pub main_in : TypedPlan → Leg
main_in q = slice_index_or (legs_of q) (length (legs_of q) - 1) no_leg

-- The plan was read and has types.
abbrev pub Flyable : TypedPlan → Type 0
Flyable q = Sound q.plan × PlanTyped (tree q.plan)

-- The machine can go on with this plan.
abbrev pub CanGoOn : TypedPlan → Machine → Type 0
CanGoOn q m = Ready (rows_of q) (legs_of q) (tables m) m.control

-- The plan can be begun.
abbrev pub CanBegin : TypedPlan → Type 0
CanBegin q = Main (rows_of q) (legs_of q) (main_in q)
