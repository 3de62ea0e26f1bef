-- What a flight is: evaluation by name of a plan, on the readings to come. Assumes nothing.
use Rattle.std.specs.Prelude.{ℕ, zero, suc, ◌+◌, min, cond, List, [], ◌∷◌, ◌++◌, reverse, length, ◌==◌, nat_le, nat_lt}
use Rattle.std.proofs.Math.Option.{Option, some, none}
use Rattle.plan.specs.Trees.{Term, t_unit, t_number, t_name, t_let, t_take, t_pair, t_split, t_left, t_right, t_case, t_call, t_add, t_less, Terms, t_none, t_more, Leg, Plan}
use Rattle.evaluation.specs.Bounds.{max_begun, max_depth, max_entries, max_number}

pub data Value : Type 0 where
  v_unit : Value
  v_number : ℕ → Value
  v_pair : Value → Value → Value
  v_left : Value → Value
  v_right : Value → Value

-- A log entry: a binding was made or looked up; its binder, then the binding's own number.
pub data Entry : Type 0 where
  made : ℕ → ℕ → Entry
  lookup : ℕ → ℕ → Entry

pub data Ending : Type 0 where
  in_air long deep full empty : Ending

-- The readings to come, a list for each store.
abbrev pub Readings : Type 0
Readings = ℕ → List ℕ

-- Evaluations begun, the log, the number of the next binding, the readings left.
pub record State : Type 0 where
  pub begun : ℕ
  pub log : List Entry
  pub next : ℕ
  pub left : Readings

-- How an evaluation ends: before its time, or with a value.
pub data Out : Type 0 where
  ended : Ending → State → Out
  value : Value → State → Out

-- An evaluation, from its depth and the state in which it begins.
abbrev pub Comp : Type 0
Comp = ℕ → State → Out

-- What a name at each level does, the innermost first: a head's level is its tail's length.
abbrev pub Scope : Type 0
Scope = List Comp

abbrev pub at : {A : Type 0} → A → List A → ℕ → A
at other [] l = other
at other (x ∷ xs) l = cond (l == length xs) x (at other xs l)

-- What a step needs: a value of a certain form; a name in scope and a leg, asked for only where there is none.
pub data Need : Type 0 where
  a_number a_pair an_either : Value → Need
  a_name a_leg : Need

-- Which ending there is before an evaluation (evaluations begun, depth), before an entry (length of the log) and at a need; and which number is read
-- off a store with no readings: none ends the flight there.
pub record Limits : Type 0 where
  pub stops : ℕ → ℕ → Option Ending
  pub room : ℕ → Option Ending
  pub unmet : Need → Option Ending
  pub dry : Option ℕ

abbrev pub bounded : ℕ → ℕ → ℕ → ℕ → Limits
bounded n evaluations depths entries = record {
  stops = λ begun depth. cond (nat_le n begun) (some in_air) (cond (nat_le evaluations begun) (some long) (cond (nat_lt depths depth) (some deep) none));
  room = λ length. cond (nat_le entries length) (some full) none;
  unmet = λ q. none;
  dry = none;
}

-- the limits of every flight, with a budget of n evaluations
abbrev pub house : ℕ → Limits
house n = bounded n max_begun max_depth max_entries

-- No limits: a store without readings reads 0.
abbrev pub free : Limits
free = record { stops = λ begun depth. none; room = λ length. none; unmet = λ q. none; dry = some 0 }

-- Every limit is looked at here.
abbrev pub gate : Option Ending → State → (State → Out) → Out
gate (some e) s k = ended e s
gate none s k = k s

abbrev pub need : Limits → Need → State → (State → Out) → Out
need L q s k = gate (L.unmet q) s k

abbrev pub and_then : Out → (Value → State → Out) → Out
and_then (ended e s) k = ended e s
and_then (value v s) k = k v s

-- one evaluation more
abbrev pub tick : State → State
tick s = record { begun = suc s.begun; log = s.log; next = s.next; left = s.left }

-- one entry more
abbrev pub note : Entry → State → State
note e s = record { begun = s.begun; log = s.log ++ (e ∷ []); next = s.next; left = s.left }

-- one binding more, of the binder k
abbrev pub bump : ℕ → State → State
bump k s = record { begun = s.begun; log = s.log ++ (made k s.next ∷ []); next = suc s.next; left = s.left }

-- the store i has these readings left
abbrev pub set_store : ℕ → List ℕ → State → State
set_store i ns s = record { begun = s.begun; log = s.log; next = s.next; left = λ j. cond (j == i) ns (s.left j) }

-- An evaluation begins: the limits are looked at, and it is counted.
abbrev pub begin : Limits → Comp → Comp
begin L f d s = gate (L.stops s.begun d) s (λ s. f d (tick s))

-- an evaluation that the one at hand needs
abbrev pub deeper : Limits → Comp → Comp
deeper L f d s = begin L f (suc d) s

-- a new binding of the binder k
abbrev pub make : Limits → ℕ → State → (ℕ → State → Out) → Out
make L k s f = gate (L.room (length s.log)) s (λ s. f s.next (bump k s))

-- What a name does that has the binding b of the binder k: it logs a lookup, and then runs what is bound.
abbrev pub bound : Limits → ℕ → ℕ → Comp → Comp
bound L k b run d s = gate (L.room (length s.log)) s (λ s. run (suc d) (note (lookup k b) s))

abbrev pub kept : Value → Comp
kept v d s = value v s

abbrev pub dry_draw : Option ℕ → ℕ → ℕ → State → Out
dry_draw none k i s = ended empty s
dry_draw (some n) k i s = value (v_number n) (note (lookup k i) s)

abbrev pub draw : Limits → List ℕ → ℕ → ℕ → State → Out
draw L [] k i s = dry_draw L.dry k i s
draw L (n ∷ ns) k i s = value (v_number n) (note (lookup k i) (set_store i ns s))

-- What a name does that has the store i, whose binder is k.
abbrev pub store : Limits → ℕ → ℕ → Comp
store L k i d s = gate (L.room (length s.log)) s (λ s. draw L (s.left i) k i s)

-- The parts of a value. One of another form, which no typed plan meets, has parts too.
abbrev pub as_number : Value → ℕ
as_number v_unit = 0
as_number (v_number n) = n
as_number (v_pair v w) = 0
as_number (v_left v) = 0
as_number (v_right v) = 0

abbrev pub first_of : Value → Value
first_of v_unit = v_unit
first_of (v_number n) = v_unit
first_of (v_pair v w) = v
first_of (v_left v) = v_unit
first_of (v_right v) = v_unit

abbrev pub second_of : Value → Value
second_of v_unit = v_unit
second_of (v_number n) = v_unit
second_of (v_pair v w) = w
second_of (v_left v) = v_unit
second_of (v_right v) = v_unit

abbrev pub either_of : Value → {A : Type 0} → (Value → A) → (Value → A) → A
either_of v_unit f g = f v_unit
either_of (v_number n) f g = f v_unit
either_of (v_pair v w) f g = f v_unit
either_of (v_left v) f g = f v
either_of (v_right v) f g = g v

abbrev pub sum_of : Value → Value → Value
sum_of v w = v_number (min (as_number v + as_number w) max_number)

abbrev pub less_of : Value → Value → Value
less_of v w = cond (nat_lt (as_number v) (as_number w)) (v_left v_unit) (v_right v_unit)

-- two evaluations, one after the other
abbrev pub both : Limits → Comp → Comp → (Value → Value → State → Out) → Comp
both L f g k d s = and_then (deeper L f d s) (λ v s. and_then (deeper L g d s) (λ w s. k v w s))

-- two numbers made into a value
abbrev pub numbers : Limits → (Value → Value → Value) → Value → Value → State → Out
numbers L op v w s = need L (a_number v) s (λ s. need L (a_number w) s (λ s. value (op v w) s))

-- what there is not
abbrev pub absent : Limits → Need → Comp
absent L q d s = need L q s (λ s. value v_unit s)

-- What a call of a leg does: its first parameter's binder, and its body in the scope of the arguments.
pub record Meaning : Type 0 where
  pub binder : ℕ
  pub does : Scope → Comp

abbrev pub no_meaning : Limits → Meaning
no_meaning L = record { binder = 0; does = λ ρ. absent L a_leg }

-- What an evaluation does once it has begun. M has what the lower legs mean, the last one first.
abbrev mutual
  pub inside : Limits → List Meaning → Term → Scope → Comp
  inside L M t_unit ρ d s = value v_unit s
  inside L M (t_number n) ρ d s = value (v_number n) s
  inside L M (t_name l) ρ d s = at (absent L a_name) ρ l d s
  inside L M (t_let k a e) ρ d s = make L k s (λ b s. deeper L (inside L M e (bound L k b (begin L (inside L M a ρ)) ∷ ρ)) d s)
  inside L M (t_take k a e) ρ d s =
      and_then (deeper L (inside L M a ρ) d s) (λ v s. make L k s (λ b s. deeper L (inside L M e (bound L k b (kept v) ∷ ρ)) d s))
  inside L M (t_pair a e) ρ d s = both L (inside L M a ρ) (inside L M e ρ) (λ v w s. value (v_pair v w) s) d s
  inside L M (t_split k a e) ρ d s =
      and_then (deeper L (inside L M a ρ) d s)
      (λ v s. need L (a_pair v) s (λ s. make L k s (λ b s. make L (suc k) s
      (λ c s. deeper L (inside L M e (bound L (suc k) c (kept (second_of v)) ∷ bound L k b (kept (first_of v)) ∷ ρ)) d s))))
  inside L M (t_left y a) ρ d s = and_then (deeper L (inside L M a ρ) d s) (λ v s. value (v_left v) s)
  inside L M (t_right y a) ρ d s = and_then (deeper L (inside L M a ρ) d s) (λ v s. value (v_right v) s)
  inside L M (t_case k a e f) ρ d s =
      and_then (deeper L (inside L M a ρ) d s)
      (λ v s. need L (an_either v) s (λ s. either_of v
      (λ v. make L k s (λ b s. deeper L (inside L M e (bound L k b (kept v) ∷ ρ)) d s))
      (λ v. make L (suc k) s (λ b s. deeper L (inside L M f (bound L (suc k) b (kept v) ∷ ρ)) d s))))
  inside L M (t_call i ts) ρ d s = bind_all L M ts (at (no_meaning L) M i).binder ρ [] (at (no_meaning L) M i).does (suc d) s
  inside L M (t_add a e) ρ d s = both L (inside L M a ρ) (inside L M e ρ) (numbers L sum_of) d s
  inside L M (t_less a e) ρ d s = both L (inside L M a ρ) (inside L M e ρ) (numbers L less_of) d s

  -- bindings of the arguments from the binder k on, in front of σ; then the body
  pub bind_all : Limits → List Meaning → Terms → ℕ → Scope → Scope → (Scope → Comp) → Comp
  bind_all L M t_none k ρ σ body d s = body σ d s
  bind_all L M (t_more a ts) k ρ σ body d s =
      make L k s (λ b s. bind_all L M ts (suc k) ρ (bound L k b (begin L (inside L M a ρ)) ∷ σ) body d s)

abbrev pub eval : Limits → List Meaning → Term → Scope → Comp
eval L M t ρ = begin L (inside L M t ρ)

-- the legs from the last to the first
abbrev pub meanings : Limits → List Leg → List Meaning
meanings L [] = []
meanings L (g ∷ gs) = record { binder = g.first; does = eval L (meanings L gs) g.body } ∷ meanings L gs

-- n stores from the binder f on are in scope, and their bindings stand in the log.
abbrev pub stores : Limits → ℕ → ℕ → Scope
stores L f zero = []
stores L f (suc n) = store L (f + n) n ∷ stores L f n

abbrev pub stores_log : ℕ → ℕ → List Entry
stores_log f zero = []
stores_log f (suc n) = stores_log f n ++ (made (f + n) n ∷ [])

abbrev pub start : ℕ → ℕ → Readings → State
start f n r = record { begun = 0; log = stores_log f n; next = n; left = r }

-- The flight of main over the legs below it, the last one first.
abbrev pub fly_main : Limits → Leg → List Leg → Readings → Out
fly_main L main below r =
    eval L (meanings L below) main.body (stores L main.first (length main.params)) 1 (start main.first (length main.params) r)

abbrev pub fly_legs : Limits → List Leg → Readings → Out
fly_legs L [] r = absent L a_leg 1 (start 0 0 r)
fly_legs L (main ∷ below) r = fly_main L main below r

-- The flight of a plan, whose last leg is main.
abbrev pub fly : Limits → Plan → Readings → Out
fly L p r = fly_legs L (reverse p.legs) r

-- The flight of a plan on these readings with n evaluations.
abbrev pub flight : ℕ → Plan → Readings → Out
flight n p r = fly (house n) p r

-- the state in which it ends
abbrev pub state_at : Out → State
state_at (ended e s) = s
state_at (value v s) = s

-- how often the log has a lookup of the binding b
abbrev pub lookups : ℕ → List Entry → ℕ
lookups b [] = 0
lookups b (made k c ∷ l) = lookups b l
lookups b (lookup k c ∷ l) = cond (b == c) (suc (lookups b l)) (lookups b l)
