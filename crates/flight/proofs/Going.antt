-- From the machine's own words to those of the flight. Assumes nothing.
use Rattle.std.proofs.Common.{◌≡◌, ℕ, ◌+◌, ◌≤◌, List, length, sym, refl, ap, ◌∙◌, arith}
use Rattle.plan.specs.Trees as plan
use Rattle.plan.specs.Plans.{tree, params_of}
use Rattle.evaluation.specs.Laws.{stores_in, stores_of}
use Rattle.typer.specs.declared.TypedPlan.{TypedPlan}
use Rattle.evaluation.specs.Flight as byname
use Rattle.flight.specs.declared.machine.Ending.TheVariants.{Long, Deep, Full, Empty}
use Rattle.flight.specs.declared.machine.Control.{Control}
use Rattle.flight.specs.declared.machine.Control.TheVariants.{Eval, Return, Draw, Over}
use Rattle.flight.specs.Tables.{Tables}
use Rattle.flight.specs.Fly.{Aloft, shown, told, Flies}
use Rattle.flight.specs.Spelled.{runner, flown, Begun}
use Rattle.flight.specs.Held.{rows_of, legs_of, main_in, Flyable}
use Rattle.flight.specs.Flights.{outcome_of}
use Rattle.flight.proofs.Fly.{rest_shows}
use Rattle.flight.proofs.Spelled.{runs}
use Rattle.flight.proofs.Flyable.{plan_spelled, plan_back}

pub told_same : (y : ℕ → List ℕ) (t : Tables) (c : Control) → told t c ≡ outcome_of (shown y t c)
told_same y t (Eval a) = refl
told_same y t (Return v) = refl
told_same y t (Draw k i) = refl
told_same y t (Over Long) = refl
told_same y t (Over Deep) = refl
told_same y t (Over Full) = refl
told_same y t (Over Empty) = refl

module _ (q : TypedPlan) (F : Flyable q) where
  -- the flight of the plan is that of its last leg
  flown_is : (y : ℕ → List ℕ) (n : ℕ) → flown (rows_of q) (legs_of q) (main_in q) y n ≡ byname.flight n (tree q.plan) y
  flown_is y n = ap (λ (ls : List plan.Leg). byname.fly_legs (byname.house n) ls y) (sym (plan_back q.plan F.0 F.1))

  abbrev Flown : (ℕ → byname.Out) → ℕ → (ℕ → List ℕ) → Tables → Control → Type 0
  Flown o n y t c = Aloft (rows_of q) (runner (rows_of q) (legs_of q)) o n y t c

  pub begins : (t : Tables) (c : Control) → Begun (rows_of q) (legs_of q) (main_in q) t c → (y : ℕ → List ℕ)
      → Flown (λ k. byname.flight k (tree q.plan) y) 0 y t c × (shown y t c ≡ byname.flight 0 (tree q.plan) y)
  begins t c B y =
      let A = B y in
      let m = λ (n : ℕ) (le : 0 ≤ n). A.means n le ∙ flown_is y n in (
        record { rest = A.rest; most = A.most; means = m },
        sym (rest_shows (rows_of q) (legs_of q) 0 y t c (runner (rows_of q) (legs_of q)) 0 y t c A.rest) ∙ m 0 (omega arith),
      )

  pub goes_on : (t t' : Tables) (c c' : Control) (y y' : ℕ → List ℕ) (n : ℕ) → Flies (rows_of q) (legs_of q) n y t c y' t' c'
      → (p : plan.Plan) (y₀ : ℕ → List ℕ) (N : ℕ) → Flown (λ k. byname.flight k p y₀) N y t c
      → Flown (λ k. byname.flight k p y₀) (N + n) y' t' c' × (shown y' t' c' ≡ byname.flight (N + n) p y₀)
  goes_on t t' c c' y y' n h p y₀ N A =
      h (runner (rows_of q) (legs_of q)) (λ k. byname.flight k p y₀) N (runs (rows_of q) (legs_of q) (plan_spelled q.plan F.0 F.1)) A

-- A plan's stores are main's parameters.
pub stores_are : (q : TypedPlan) → Flyable q → stores_of (tree q.plan) ≡ length (params_of (main_in q))
stores_are q F = ap stores_in (plan_back q.plan F.0 F.1)
