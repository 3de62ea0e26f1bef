-- What a flight is to its callers, in the words of evaluation by name. Assumes nothing.
use Rattle.std.specs.Prelude.{◌≡◌, ℕ, ◌<◌, Bool, true, false, cond, List, map, length, Ok, Err, vec_items, Result, nat_lt, slice_index}
use Rattle.plan.specs.declared.faults.PlanFault.{PlanFault}
use Rattle.plan.specs.declared.faults.PlanFault.TheVariants.{Read, Typing, Memory}
use Rattle.plan.specs.Trees.{Plan}
use Rattle.plan.specs.Plans.{tree, params_of}
use Rattle.typer.specs.Accepted.{typed}
use Rattle.evaluation.specs.Flight as byname
use Rattle.evaluation.specs.Flight.{Readings, Out, ended, value, in_air, long, deep, full, empty, flight, as_number}
use Rattle.evaluation.specs.Laws.{store_lookups}
use Rattle.flight.specs.declared.machine.Ending.TheVariants.{Long, Deep, Full, Empty}
use Rattle.flight.specs.declared.machine.Outcome.{Outcome}
use Rattle.flight.specs.declared.machine.Outcome.TheVariants.{InAir, Ended, Done}
use Rattle.flight.specs.declared.flight.Flight.{Flight}
use Rattle.flight.specs.Tables.{tables}
use Rattle.flight.specs.Means.{entry_of}
use Rattle.flight.specs.Fly.{Aloft, shown}
use Rattle.flight.specs.Spelled.{runner}
use Rattle.flight.specs.Held.{rows_of, legs_of, main_in, Flyable}

-- the plan that it flies
abbrev pub plan_of : Flight → Plan
plan_of m = tree m.plan.plan

-- Its log, its ending or value and its evaluations begun, with these readings left.
abbrev pub out_of : Flight → Readings → Out
out_of m left = shown left (tables m.machine) m.machine.control

abbrev pub log_of : Flight → List byname.Entry
log_of m = map entry_of (vec_items m.machine.log)

-- The flight m has flown the plan p for n evaluations since the bay read `first`, and the bay has `left` to come:
-- it holds what evaluation by name gives for n, and so it will for every greater number.
pub record Flies (m : Flight) (p : Plan) (first : Readings) (n : ℕ) (left : Readings) : Type 0 where
  pub flyable : Flyable m.plan
  pub plan : plan_of m ≡ p
  pub out : out_of m left ≡ flight n p first
  pub aloft : Aloft (rows_of m.plan) (runner (rows_of m.plan) (legs_of m.plan)) (λ k. flight k p first) n left (tables m.machine) m.machine.control

-- what a caller is told of an ending or a value
abbrev pub outcome_of : Out → Outcome
outcome_of (ended in_air s) = InAir
outcome_of (ended long s) = Ended Long
outcome_of (ended deep s) = Ended Deep
outcome_of (ended full s) = Ended Full
outcome_of (ended empty s) = Ended Empty
outcome_of (value v s) = Done (as_number v)

abbrev pub is_over : Out → Bool
is_over (ended in_air s) = false
is_over (ended long s) = true
is_over (ended deep s) = true
is_over (ended full s) = true
is_over (ended empty s) = true
is_over (value v s) = true

-- How often store k was looked up. The stores are main's parameters, and have the first bindings.
abbrev pub lookups_of : Flight → ℕ → ℕ
lookups_of m k = store_lookups (length (params_of (main_in m.plan))) k (log_of m)

-- The first s places, as far as there are so many, have what f says; the others are as before.
abbrev pub Written : (ℕ → ℕ) → List ℕ → List ℕ → ℕ → Type 0
Written f before after s = (length after ≡ length before) × ((k : ℕ) → k < length before → slice_index after k ≡ cond (nat_lt k s) (f k) (slice_index before k))

-- The plan of the bytes before its first evaluation, or the reader's first fault, or else the typer's. Want of memory says nothing about the bytes.
abbrev pub LoadAnswer : List ℕ → Result Flight PlanFault → Type 0
LoadAnswer bs (Ok m) = (typed bs ≡ Ok (plan_of m)) × ((y : Readings) → Flies m (plan_of m) y 0 y)
LoadAnswer bs (Err (Read e)) = typed bs ≡ Err (Read e)
LoadAnswer bs (Err (Typing e)) = typed bs ≡ Err (Typing e)
LoadAnswer bs (Err Memory) = Unit {0}
