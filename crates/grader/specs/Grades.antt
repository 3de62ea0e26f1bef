-- What the call `grades` answers, and what it leaves. Assumes nothing.
use Rattle.std.specs.Prelude.{◌≡◌, ℕ, cond, List, length, Ok, Err, Result, nat_le}
use Rattle.scales.specs.Laws.{Ops}
use Rattle.plan.specs.declared.faults.PlanFault.{PlanFault}
use Rattle.plan.specs.declared.faults.PlanFault.TheVariants.{Read, Typing, Memory}
use Rattle.plan.specs.Trees.{Plan}
use Rattle.typer.specs.Accepted.{typed}
use Rattle.grading.specs.Least.{least, binder_count}
use Rattle.grader.specs.declared.faults.GradeFault.{GradeFault}
use Rattle.grader.specs.declared.faults.GradeFault.TheVariants.{Short, Plan as OfPlan}
use Rattle.grader.specs.Walk.{put}

-- the least places of a work list
abbrev pub work_places : ℕ
work_places = 4500

-- One grade for each binder, if the answers have so many places.
abbrev pub if_room : {G : Type 0} → Ops G → ℕ → Plan → Result (List G) GradeFault
if_room o places p = cond (nat_le (binder_count p) places) (Ok (least o p)) (Err Short)

abbrev pub if_plan : {G : Type 0} → Ops G → ℕ → Result Plan PlanFault → Result (List G) GradeFault
if_plan o places (Ok p) = if_room o places p
if_plan o places (Err e) = Err (OfPlan e)

-- The grades of a plan's binders by these bytes, with so many places of work and of answers; or the refusal: the work list, the reader, the typer, the answers.
abbrev pub graded : {G : Type 0} → Ops G → ℕ → ℕ → List ℕ → Result (List G) GradeFault
graded o work places bs = cond (nat_le work_places work) (if_plan o places (typed bs)) (Err Short)

-- A refusal leaves both lists as they were.
abbrev pub Unchanged : {G : Type 0} → List G → List G → List G → List G → Type 0
Unchanged work work' answers answers' = (work' ≡ work) × (answers' ≡ answers)

-- The grades are in the first places of the answers, and the later places are as they were. What the work list holds is left open on purpose; its length stays.
-- Want of memory says nothing about the bytes.
abbrev pub GradesAnswer : {G : Type 0} → Ops G → List ℕ → List G → List G → List G → List G → Result ℕ GradeFault → Type 0
GradesAnswer {G} o bs work work' answers answers' (Ok n) =
    (gs : List G) × (graded o (length work) (length answers) bs ≡ Ok gs) × (n ≡ length gs) × (answers' ≡ put 0 gs answers) × (length work' ≡ length work)
GradesAnswer o bs work work' answers answers' (Err Short) = (graded o (length work) (length answers) bs ≡ Err Short) × Unchanged work work' answers answers'
GradesAnswer o bs work work' answers answers' (Err (OfPlan (Read e))) = (graded o (length work) (length answers) bs ≡ Err (OfPlan (Read e))) × Unchanged work work' answers answers'
GradesAnswer o bs work work' answers answers' (Err (OfPlan (Typing e))) = (graded o (length work) (length answers) bs ≡ Err (OfPlan (Typing e))) × Unchanged work work' answers answers'
GradesAnswer o bs work work' answers answers' (Err (OfPlan Memory)) = Unchanged work work' answers answers'
