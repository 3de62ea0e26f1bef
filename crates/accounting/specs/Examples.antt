-- Gradings and flights of three plans, held against each other. Assumes nothing.
use Rattle.std.specs.Prelude.{◌≡◌, ℕ, List, [], ◌∷◌}
use Rattle.scales.specs.Span.{span_ops}
use Rattle.scales.specs.Tally.{tally_ops}
use Rattle.scales.specs.declared.scale.Ceiling.{Ceiling}
use Rattle.scales.specs.declared.scale.Ceiling.TheVariants.{Count}
use Rattle.scales.specs.declared.tally.Tally.{Tally}
use Rattle.scales.specs.declared.tally.Tally.TheVariants.{One}
use Rattle.plan.specs.Limits.{max_params}
use Rattle.plan.specs.Trees.{t_number, t_name, t_case, t_less, Plan}
use Rattle.typer.specs.Typing.{number_type}
use Rattle.evaluation.specs.Examples.{leg, plan, double, double_taken}
use Rattle.grading.specs.Grading.{Allowed}
use Rattle.grading.specs.Least.{filled, ceilings}
use Rattle.accounting.specs.Accounting.{Guards}

-- main(store) = case 1 < 2 of left u: store, right v: store
abbrev pub either_way : Plan
either_way = plan (leg (number_type ∷ []) 0 (t_case 1 (t_less (t_number 1) (t_number 2)) (t_name 0) (t_name 0)) ∷ [])

-- n readings of store 0, and none of the seven others
abbrev pub only : ℕ → List Ceiling
only n = filled max_params (Count n ∷ [])

-- By tally some allowed grading gives main's store, the binder 0, the grade one.
abbrev pub Once : Plan → Type 0
Once p = (R : ℕ → Tally) × Allowed tally_ops R p × (R 0 ≡ One)

pub record Examples : Type 0 where
  -- let x = store in x + x: its store has never the grade one
  pub let_needs : ceilings span_ops double ≡ only 2
  pub let_once : ¬ Once double
  -- take x = store in x + x: one reading suffices
  pub take_needs : ceilings span_ops double_taken ≡ only 1
  pub take_one : Guards double_taken (only 1)
  pub take_none : ¬ Guards double_taken (only 0)
  pub take_once : Once double_taken
  -- each branch of a case draws, and one of them is flown
  pub case_needs : ceilings span_ops either_way ≡ only 1
  pub case_one : Guards either_way (only 1)
  pub case_none : ¬ Guards either_way (only 0)
  pub case_once : Once either_way
