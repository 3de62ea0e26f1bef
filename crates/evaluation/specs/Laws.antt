-- The laws of flights. Assumes nothing.
use Rattle.std.specs.Prelude.{◌≡◌, ℕ, ◌+◌, ◌<◌, ◌≤◌, Bool, true, false, cond, List, [], ◌∷◌, ◌++◌, reverse, length, drop, nat_lt}
use Rattle.std.proofs.Math.Option.{some, none}
use Rattle.plan.specs.Trees.{Leg, Plan}
use Rattle.plan.specs.Written.{WellLaid}
use Rattle.typer.specs.Typing.{PlanTyped}
use Rattle.evaluation.specs.Bounds.{max_begun, max_entries}
use Rattle.evaluation.specs.Flight.{Value, v_unit, v_number, v_pair, v_left, v_right, Entry, lookup, Ending, in_air, long, deep, full, empty, Readings, State, Out, ended, value, Need, a_number, a_pair, an_either, a_name, a_leg, Limits, free, fly, flight, state_at, lookups}

-- A plan's stores are the parameters of its last leg.
abbrev pub stores_in : List Leg → ℕ
stores_in [] = 0
stores_in (main ∷ below) = length main.params

abbrev pub stores_of : Plan → ℕ
stores_of p = stores_in (reverse p.legs)

-- A store that the plan lacks has no lookups.
abbrev pub store_lookups : ℕ → ℕ → List Entry → ℕ
store_lookups stores k l = cond (nat_lt k stores) (lookups k l) 0

abbrev pub Prefix : List Entry → List Entry → Type 0
Prefix l m = (rest : List Entry) × (m ≡ l ++ rest)

-- However a flight ends, what a store had is what is left and the logged lookups; and as many readings are gone from the front.
pub record StocksAddUp : Type 0 where
  pub counts : (n : ℕ) (p : Plan) (r : Readings) (k : ℕ)
      → length (r k) ≡ length ((state_at (flight n p r)).left k) + store_lookups (stores_of p) k (state_at (flight n p r)).log
  pub rest : (n : ℕ) (p : Plan) (r : Readings) (k : ℕ)
      → (state_at (flight n p r)).left k ≡ drop (store_lookups (stores_of p) k (state_at (flight n p r)).log) (r k)

abbrev pub StillInAir : Out → Type 0
StillInAir o = (s : State) × (o ≡ ended in_air s)

-- A greater budget goes on from where a smaller one ends.
pub record BudgetsAdd : Type 0 where
  pub goes_on : (n m : ℕ) (p : Plan) (r : Readings) → Prefix (state_at (flight n p r)).log (state_at (flight (n + m) p r)).log
  pub stays : (n m : ℕ) (p : Plan) (r : Readings) → ¬ StillInAir (flight n p r) → flight (n + m) p r ≡ flight n p r

-- Why a flight ended in this state. A state does not show the depth.
abbrev pub Reason : ℕ → ℕ → Out → Type 0
Reason n stores (ended in_air s) = s.begun ≡ n
Reason n stores (ended long s) = s.begun ≡ max_begun
Reason n stores (ended deep s) = Unit {0}
Reason n stores (ended full s) = length s.log ≡ max_entries
Reason n stores (ended empty s) = (i : ℕ) × (i < stores) × (s.left i ≡ [])
Reason n stores (value v s) = Unit {0}

-- The bounds are kept, and no ending comes before its bound is reached.
pub record BoundsKept : Type 0 where
  pub budget : (n : ℕ) (p : Plan) (r : Readings) → (state_at (flight n p r)).begun ≤ n
  pub begun : (n : ℕ) (p : Plan) (r : Readings) → (state_at (flight n p r)).begun ≤ max_begun
  pub entries : (n : ℕ) (p : Plan) (r : Readings) → stores_of p ≤ max_entries → length (state_at (flight n p r)).log ≤ max_entries
  pub reason : (n : ℕ) (p : Plan) (r : Readings) → stores_of p ≤ max_entries → Reason n (stores_of p) (flight n p r)

-- Without limits every flight gives a value, and a limited one goes the same way as far as it goes: where it finds a store empty, the lookup of that store comes next.
pub record UnlimitedExtends : Type 0 where
  pub gives : (p : Plan) (r : Readings) → (v : Value) × (s : State) × (fly free p r ≡ value v s)
  pub prefix : (n : ℕ) (p : Plan) (r : Readings) → Prefix (state_at (flight n p r)).log (state_at (fly free p r)).log
  pub same : (n : ℕ) (p : Plan) (r : Readings) (v : Value) (s : State) → flight n p r ≡ value v s → fly free p r ≡ value v s
  pub awaits : (n : ℕ) (p : Plan) (r : Readings) (s : State) → flight n p r ≡ ended empty s
      → (k i : ℕ) × (rest : List Entry) × ((state_at (fly free p r)).log ≡ s.log ++ (lookup k i ∷ rest)) × (i < stores_of p) × (s.left i ≡ [])

-- Whether there is what a step needs.
abbrev pub met : Need → Bool
met (a_number v_unit) = false
met (a_number (v_number n)) = true
met (a_number (v_pair v w)) = false
met (a_number (v_left v)) = false
met (a_number (v_right v)) = false
met (a_pair v_unit) = false
met (a_pair (v_number n)) = false
met (a_pair (v_pair v w)) = true
met (a_pair (v_left v)) = false
met (a_pair (v_right v)) = false
met (an_either v_unit) = false
met (an_either (v_number n)) = false
met (an_either (v_pair v w)) = false
met (an_either (v_left v)) = true
met (an_either (v_right v)) = true
met a_name = false
met a_leg = false

-- The same limits, but at the first need that is not met the flight ends with e; or it always goes on.
abbrev pub strict : Ending → Limits → Limits
strict e L = record { stops = L.stops; room = L.room; unmet = λ q. cond (met q) none (some e); dry = L.dry }

abbrev pub lenient : Limits → Limits
lenient L = record { stops = L.stops; room = L.room; unmet = λ q. none; dry = L.dry }

-- A typed plan meets no value of the wrong form, no name out of scope and no leg that is not there: to end the flight there, with whatever ending, changes nothing. And what it gives is a number.
pub record TypesKeepForm : Type 0 where
  pub never : (p : Plan) → WellLaid p → PlanTyped p → (L : Limits) (e : Ending) (r : Readings) → fly (strict e L) p r ≡ fly (lenient L) p r
  pub number : (p : Plan) → WellLaid p → PlanTyped p → (L : Limits) (r : Readings) (v : Value) (s : State) → fly (lenient L) p r ≡ value v s
      → (m : ℕ) × (v ≡ v_number m)
  pub done : (p : Plan) → WellLaid p → PlanTyped p → (n : ℕ) (r : Readings) (v : Value) (s : State) → flight n p r ≡ value v s → (m : ℕ) × (v ≡ v_number m)
