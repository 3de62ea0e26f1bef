-- The number, the layer and the place of each fault of grading. Assumes nothing.
use Rattle.refusal.specs.declared.Layer.TheVariants.{Board}
use Rattle.refusal.specs.declared.Refusal.{Refusal}
use Rattle.plan.specs.Faults.{refused as plan_refused}
use Rattle.grader.specs.declared.faults.GradeFault.{GradeFault}
use Rattle.grader.specs.declared.faults.GradeFault.TheVariants.{Short, Plan}

abbrev pub refused : GradeFault → Refusal
refused Short = record { number = 15; layer = Board; place = 0 }
refused (Plan e) = plan_refused e
