-- Which bytes are a plan with types, and what a typed plan keeps. Assumes nothing.
use Rattle.std.specs.Prelude.{◌≡◌, ℕ, List, Ok, Err, vec_items, Result}
use Rattle.plan.specs.declared.faults.ReadFault.{ReadFault}
use Rattle.plan.specs.declared.faults.PlanFault.{PlanFault}
use Rattle.plan.specs.declared.faults.PlanFault.TheVariants.{Read, Typing, Memory}
use Rattle.plan.specs.Trees.{Plan}
use Rattle.plan.specs.Written.{written, WellLaid}
use Rattle.reader.specs.Reading.{read}
use Rattle.plan.specs.Plans.{tree, Sound}
use Rattle.typer.specs.declared.TypedPlan.{TypedPlan}
use Rattle.typer.specs.Typing.{Reached, check_plan, PlanTyped}
use Rattle.typer.specs.Levels.{plan_levels}

abbrev pub with_types : Plan → Reached (Unit {0}) → Result Plan PlanFault
with_types p (Ok u) = Ok p
with_types p (Err e) = Err (Typing e)

abbrev pub then_types : Result Plan ReadFault → Result Plan PlanFault
then_types (Ok p) = with_types p (check_plan p)
then_types (Err e) = Err (Read e)

-- The plan that bytes hold, or the reader's first fault, or else the typer's.
abbrev pub typed : List ℕ → Result Plan PlanFault
typed bs = then_types (read bs)

-- Bytes are accepted as the plan p exactly if p is well laid, has types and is written so.
pub record AcceptedExactly (bs : List ℕ) (p : Plan) : Type 0 where
  pub accepted : typed bs ≡ Ok p → WellLaid p × PlanTyped p × (written p ≡ bs)
  pub spelled : WellLaid p → PlanTyped p → written p ≡ bs → typed bs ≡ Ok p

-- The answer is the definition's; the tables stand for the plan's trees. Want of memory says nothing about the bytes.
abbrev pub TypedAnswer : List ℕ → Result TypedPlan PlanFault → Type 0
TypedAnswer bs (Ok q) = (typed bs ≡ Ok (tree q.plan)) × Sound q.plan × (vec_items q.levels ≡ plan_levels (tree q.plan))
TypedAnswer bs (Err (Read e)) = typed bs ≡ Err (Read e)
TypedAnswer bs (Err (Typing e)) = typed bs ≡ Err (Typing e)
TypedAnswer bs (Err Memory) = Unit {0}
