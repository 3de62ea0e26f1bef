-- What is answered of the stores, which are main's parameters. Assumes nothing.
use Rattle.std.specs.Prelude.{◌≡◌, ℕ, ◌-◌, ◌≤◌, List, length, slice_index_or, slice_range, Ok, Err, Result}
use Rattle.std.specs.declared.ops.Range.{Range}
use Rattle.scales.specs.Laws.{Ops}
use Rattle.scales.specs.declared.scale.Ceiling.{Ceiling}
use Rattle.plan.specs.declared.Leg.{Leg as FlatLeg}
use Rattle.plan.specs.Trees.{Plan}
use Rattle.typer.specs.Walk.{no_leg}
use Rattle.typer.specs.Accepted.{typed}
use Rattle.grading.specs.Least.{binder_count, store_grades, ceilings}
use Rattle.grader.specs.declared.faults.GradeFault.{GradeFault}
use Rattle.grader.specs.declared.grades.Graded.{Graded}
use Rattle.grader.specs.Grades.{GradesAnswer}

-- the last leg of a table
abbrev pub main_of : List FlatLeg → FlatLeg
main_of gs = slice_index_or gs (length gs - 1) no_leg

-- The grades of main's parameters stand in these places of the answers.
pub record StoresAt {G : Type 0} (o : Ops G) (p : Plan) (places : Range ℕ) (answers : List G) : Type 0 where
  pub order : places.start ≤ places.end
  pub within : places.end ≤ length answers
  pub are : slice_range answers places.start places.end ≡ store_grades o p

-- The bytes give a plan with types, whose grades are written as by `grades`, with this said of it; a refusal is that of `grades`.
abbrev pub GradedAnd : {G A : Type 0} → Ops G → (Plan → A → Type 0) → List ℕ → List G → List G → List G → List G → Result A GradeFault → Type 0
GradedAnd o P bs work work' answers answers' (Ok a) = (p : Plan) × (typed bs ≡ Ok p) × P p a × GradesAnswer o bs work work' answers answers' (Ok (binder_count p))
GradedAnd o P bs work work' answers answers' (Err e) = GradesAnswer o bs work work' answers answers' (Err e)

abbrev pub GradedAnswer : {G : Type 0} → Ops G → List ℕ → List G → List G → List G → List G → Result Graded GradeFault → Type 0
GradedAnswer o bs work work' answers answers' = GradedAnd o (λ p g. (g.count ≡ binder_count p) × StoresAt o p g.stores answers') bs work work' answers answers'

abbrev pub StoresAnswer : {G : Type 0} → Ops G → List ℕ → List G → List G → List G → List G → Result (Range ℕ) GradeFault → Type 0
StoresAnswer o bs work work' answers answers' = GradedAnd o (λ p places. StoresAt o p places answers') bs work work' answers answers'

abbrev pub CeilingsAnswer : {G : Type 0} → Ops G → List ℕ → List G → List G → List G → List G → Result (List Ceiling) GradeFault → Type 0
CeilingsAnswer o bs work work' answers answers' = GradedAnd o (λ p cs. cs ≡ ceilings o p) bs work work' answers answers'
