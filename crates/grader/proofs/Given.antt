-- What the tables of an accepted plan give to the call. Assumes nothing.
use Rattle.std.proofs.Common.{◌≡◌, ℕ, ◌≤◌, cond, List, [], length, Ok, Err, vec_items, sym, ap, ◌∙◌, subst, ap₂, le-leb}
use Rattle.scales.specs.Laws.{Ops}
use Rattle.plan.specs.declared.Plan.{Plan as FlatPlan}
use Rattle.plan.specs.declared.Leg.{Leg as FlatLeg}
use Rattle.plan.specs.declared.Row.{Row}
use Rattle.plan.specs.Trees.{Plan}
use Rattle.plan.specs.Table.{Spells, InOrder}
use Rattle.plan.specs.Plans.{tree, Sound, legs_in}
use Rattle.typer.specs.Accepted.{typed, AcceptedExactly}
use Rattle.grading.specs.Grading.{turned}
use Rattle.grading.specs.Least.{least, binder_count}
use Rattle.grading.proofs.Standing.{legs_counted}
use Rattle.grader.specs.declared.faults.GradeFault.TheVariants.{Short}
use Rattle.grader.specs.Walk.{LegsReady}
use Rattle.grader.specs.Grades.{work_places, if_plan, graded}
use Rattle.grader.proofs.Ready.{legs_ready}

-- What holds of the tables of an accepted plan.
pub record TablesReady (p : FlatPlan) (ns : List Row) (gs : List FlatLeg) : Type 0 where
  pub spells : Spells ns
  pub order : InOrder 0 ns gs
  pub ready : LegsReady ns gs
  pub same : turned [] (legs_in ns gs) ≡ turned [] (tree p).legs

pub tables_ready : {bs : List ℕ} (p : FlatPlan) → typed bs ≡ Ok (tree p) → Sound p → ((q : Plan) → AcceptedExactly bs q) → {ns : List Row} {gs : List FlatLeg}
    → ns ≡ vec_items p.nodes → gs ≡ vec_items p.legs → TablesReady p ns gs
tables_ready p is s exactly {ns} {gs} en eg =
    let both : (P : List Row → List FlatLeg → Type 0) → P (vec_items p.nodes) (vec_items p.legs) → P ns gs = λ P h. subst (λ l. P l gs) (sym en) (subst (P (vec_items p.nodes)) (sym eg) h) in
    record {
      spells = subst Spells (sym en) s.spells;
      order = both (InOrder 0) s.in_order;
      ready = both LegsReady (legs_ready p s ((exactly (tree p)).accepted is).1);
      same = ap₂ (λ x y. turned [] (legs_in x y)) en eg;
    }

-- with room for all, the answer is the least grades
pub granted : {G : Type 0} (o : Ops G) (work places : ℕ) (bs : List ℕ) (p : Plan) → typed bs ≡ Ok p → work_places ≤ work → binder_count p ≤ places → graded o work places bs ≡ Ok (least o p)
granted o work places bs p e long room =
    ap (λ b. cond b (if_plan o places (typed bs)) (Err Short)) (le-leb work_places work long) ∙ ap (if_plan o places) e ∙ ap (λ b. cond b (Ok (least o p)) (Err Short)) (le-leb (binder_count p) places room)

pub least_long : {G : Type 0} (o : Ops G) (p : Plan) → length (least o p) ≡ binder_count p
least_long o p = legs_counted o (turned [] p.legs)
