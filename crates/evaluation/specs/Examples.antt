-- Flights worked out. Assumes nothing.
use Rattle.std.specs.Prelude.{◌≡◌, ℕ, zero, suc, cond, List, [], ◌∷◌, length, Ok, ◌==◌}
use Rattle.plan.specs.declared.TypeId.{TypeId}
use Rattle.plan.specs.Trees.{Term, t_unit, t_number, t_name, t_let, t_take, t_pair, t_split, t_case, t_call, t_add, t_less, t_none, t_more, Leg, Plan}
use Rattle.plan.specs.declared.Type.TheVariants.{Pair as PairType}
use Rattle.typer.specs.Typing.{number_type, check_plan}
use Rattle.evaluation.specs.Bounds.{max_begun, max_depth, max_entries, max_number}
use Rattle.evaluation.specs.Flight.{Value, v_number, Entry, made, lookup, Ending, in_air, long, deep, full, empty, Readings, State, Out, ended, value, bounded, house, fly, flight}
use Rattle.evaluation.specs.Laws.{strict}
use Rattle.reader.specs.Reading.{read}

-- What is seen of a flight: how it ended, evaluations begun, the log, and how many readings store 0 has left.
pub data How : Type 0 where
  over : Ending → How
  done : Value → How

pub record Seen : Type 0 where
  pub how : How
  pub begun : ℕ
  pub log : List Entry
  pub stock : ℕ

abbrev pub seen_in : How → State → Seen
seen_in h s = record { how = h; begun = s.begun; log = s.log; stock = length (s.left 0) }

abbrev pub seen : Out → Seen
seen (ended e s) = seen_in (over e) s
seen (value v s) = seen_in (done v) s

abbrev pub sees : How → ℕ → List Entry → ℕ → Seen
sees h n l k = record { how = h; begun = n; log = l; stock = k }

-- Store 0 counts down from c; no other store has readings.
abbrev pub countdown : ℕ → List ℕ
countdown zero = []
countdown (suc n) = n ∷ countdown n

abbrev pub counter : ℕ → Readings
counter c i = cond (i == 0) (countdown c) []

abbrev pub leg : List TypeId → ℕ → Term → Leg
leg params first body = record { params = params; result = number_type; first = first; body = body }

-- main, over legs that work on numbers too
abbrev pub plan : List Leg → Plan
plan legs = record { entries = []; legs = legs }

-- main(store) = let x = store in x + x, and the same with take
abbrev pub double : Plan
double = plan (leg (number_type ∷ []) 0 (t_let 1 (t_name 0) (t_add (t_name 1) (t_name 1))) ∷ [])

abbrev pub double_taken : Plan
double_taken = plan (leg (number_type ∷ []) 0 (t_take 1 (t_name 0) (t_add (t_name 1) (t_name 1))) ∷ [])

abbrev pub call_of : Term → Term
call_of a = t_call 0 (t_more a t_none)

-- twice(p) = p + p; main(store) = twice(.. twice(store) ..), with n calls
abbrev pub calls : ℕ → Term
calls zero = t_name 0
calls (suc n) = call_of (calls n)

abbrev pub doublings : ℕ → Plan
doublings n = plan (leg (number_type ∷ []) 0 (t_add (t_name 0) (t_name 0)) ∷ leg (number_type ∷ []) 1 (calls n) ∷ [])

-- n sums, each the first kid of the one before; same(p) = p, so that the innermost call reaches two deeper
abbrev pub sums : ℕ → Term
sums zero = call_of (t_number 7)
sums (suc n) = t_add (sums n) (t_number 0)

abbrev pub nested : ℕ → Plan
nested n = plan (leg (number_type ∷ []) 0 (t_name 0) ∷ leg [] 1 (sums n) ∷ [])

-- main = split (1, 2) in first + (first + second)
abbrev pub parts : Plan
parts = record { entries = PairType number_type number_type ∷ []; legs = leg [] 0 (t_split 0 (t_pair (t_number 1) (t_number 2)) (t_add (t_name 0) (t_add (t_name 0) (t_name 1)))) ∷ [] }

-- pick(p, q) = p + (p + q); main = pick(1, 2)
abbrev pub arguments : Plan
arguments =
    plan (leg (number_type ∷ number_type ∷ []) 0 (t_add (t_name 0) (t_add (t_name 0) (t_name 1))) ∷ leg [] 2 (t_call 0 (t_more (t_number 1) (t_more (t_number 2) t_none))) ∷ [])

-- main(a, b) = b
abbrev pub second_store : Plan
second_store = plan (leg (number_type ∷ number_type ∷ []) 0 (t_name 1) ∷ [])

-- main = case m < 2 of left: 3; right: 4
abbrev pub choice : ℕ → Plan
choice m = plan (leg [] 0 (t_case 0 (t_less (t_number m) (t_number 2)) (t_number 3) (t_number 4)) ∷ [])

abbrev pub greatest : Plan
greatest = plan (leg [] 0 (t_add (t_number max_number) (t_number 1)) ∷ [])

-- main's body alone, which may have no type
abbrev pub body : Term → Plan
body t = plan (leg [] 0 t ∷ [])

-- A flight that is to end EMPTY where it meets what no typed plan does.
abbrev pub checked : Plan → ℕ → How
checked p c = (seen (fly (strict empty (house max_begun)) p (counter c))).how

abbrev pub EndsThere : Term → Type 0
EndsThere t = checked (body t) 0 ≡ over empty

abbrev pub double_log : List Entry → List Entry
double_log l = made 0 0 ∷ made 1 1 ∷ lookup 1 1 ∷ lookup 0 0 ∷ lookup 1 1 ∷ l

pub record Examples : Type 0 where
  -- 4 + 3 in six evaluations
  pub gives : seen (flight 6 double (counter 5)) ≡ sees (done (v_number 7)) 6 (double_log (lookup 0 0 ∷ [])) 3
  pub in_the_air : seen (flight 5 double (counter 5)) ≡ sees (over in_air) 5 (double_log []) 4
  -- its depth is 4
  pub depth_four : seen (fly (bounded 6 max_begun 4 max_entries) double (counter 5)) ≡ sees (done (v_number 7)) 6 (double_log (lookup 0 0 ∷ [])) 3
  pub depth_three : seen (fly (bounded 6 max_begun 3 max_entries) double (counter 5)) ≡ sees (over deep) 3 (made 0 0 ∷ made 1 1 ∷ lookup 1 1 ∷ []) 5
  -- six entries, and before the sixth nothing is drawn
  pub six_entries : seen (fly (bounded 6 max_begun max_depth 6) double (counter 5)) ≡ sees (done (v_number 7)) 6 (double_log (lookup 0 0 ∷ [])) 3
  pub five_entries : seen (fly (bounded 6 max_begun max_depth 5) double (counter 5)) ≡ sees (over full) 6 (double_log []) 4
  -- the second draw finds nothing, and is not logged
  pub dry : seen (flight 6 double (counter 1)) ≡ sees (over empty) 6 (double_log []) 0
  -- which ending comes first
  pub air_first : seen (fly (bounded 0 0 0 max_entries) double (counter 5)) ≡ sees (over in_air) 0 (made 0 0 ∷ []) 5
  pub long_next : seen (fly (bounded 1 0 0 max_entries) double (counter 5)) ≡ sees (over long) 0 (made 0 0 ∷ []) 5
  pub deep_last : seen (fly (bounded 1 1 0 max_entries) double (counter 5)) ≡ sees (over deep) 0 (made 0 0 ∷ []) 5
  -- by take the store is drawn from once
  pub taken : seen (flight 6 double_taken (counter 5)) ≡ sees (done (v_number 8)) 5 (made 0 0 ∷ lookup 0 0 ∷ made 1 1 ∷ lookup 1 1 ∷ lookup 1 1 ∷ []) 4
  -- 3 + 2 + 1 + 0 in sixteen evaluations
  pub sixteen : (seen (flight 16 (doublings 2) (counter 4))).how ≡ done (v_number 6)
  pub fifteen : (seen (flight 15 (doublings 2) (counter 4))).how ≡ over in_air
  -- depth 128 flies, 129 does not
  pub at_depth : (seen (flight max_begun (nested 125) (counter 0))).how ≡ done (v_number 7)
  pub too_deep : (seen (flight max_begun (nested 126) (counter 0))).how ≡ over deep
  -- a split's bindings, and no room for its second one
  pub split : seen (flight 9 parts (counter 0)) ≡ sees (done (v_number 4)) 9 (made 0 0 ∷ made 1 1 ∷ lookup 0 0 ∷ lookup 0 0 ∷ lookup 1 1 ∷ []) 0
  pub half_split : seen (fly (bounded 6 max_begun max_depth 1) parts (counter 0)) ≡ sees (over full) 4 (made 0 0 ∷ []) 0
  -- a call's bindings, and no room for its second one
  pub call : seen (flight 9 arguments (counter 0)) ≡ sees (done (v_number 4)) 9 (made 0 0 ∷ made 1 1 ∷ lookup 0 0 ∷ lookup 0 0 ∷ lookup 1 1 ∷ []) 0
  pub half_call : seen (fly (bounded 9 max_begun max_depth 1) arguments (counter 0)) ≡ sees (over full) 1 (made 0 0 ∷ []) 0
  -- each store i reads i once
  pub stores : seen (flight 1 second_store (λ i. i ∷ [])) ≡ sees (done (v_number 1)) 1 (made 0 0 ∷ made 1 1 ∷ lookup 1 1 ∷ []) 1
  pub less : seen (flight 5 (choice 1) (counter 0)) ≡ sees (done (v_number 3)) 5 (made 0 0 ∷ []) 0
  pub not_less : seen (flight 5 (choice 2) (counter 0)) ≡ sees (done (v_number 4)) 5 (made 1 0 ∷ []) 0
  pub stops_there : (seen (flight 3 greatest (counter 0))).how ≡ done (v_number max_number)
  -- Without types a value of the wrong form may be met. It is taken for 0, unless the limits say otherwise.
  pub wrong_form : (seen (flight 3 (body (t_add t_unit (t_number 1))) (counter 0))).how ≡ done (v_number 1)
  pub wrong_ends : EndsThere (t_add t_unit (t_number 1)) × EndsThere (t_add (t_number 1) t_unit) × EndsThere (t_less t_unit (t_number 1)) × EndsThere (t_less (t_number 1) t_unit)
      × EndsThere (t_split 0 (t_number 1) (t_name 0)) × EndsThere (t_case 0 (t_number 1) (t_number 2) (t_number 3)) × EndsThere (t_name 0) × EndsThere (t_call 0 t_none)
  pub right_goes : (checked (doublings 2) 4 ≡ done (v_number 6)) × (checked parts 0 ≡ done (v_number 4)) × (checked (choice 1) 0 ≡ done (v_number 3))
  -- the first plan's bytes
  pub bytes : read (0x04 ∷ 0x01 ∷ 0x01 ∷ 0x01 ∷ 0x01 ∷ 0x00 ∷ 0x05 ∷ 0x03 ∷ 0x02 ∷ 0x0b ∷ 0x12 ∷ 0x01 ∷ 0x12 ∷ 0x01 ∷ []) ≡ Ok double
  -- The plans have types.
  pub typed : (check_plan double ≡ Ok tt) × (check_plan double_taken ≡ Ok tt) × (check_plan (doublings 2) ≡ Ok tt) × (check_plan (nested 126) ≡ Ok tt)
      × (check_plan parts ≡ Ok tt) × (check_plan arguments ≡ Ok tt) × (check_plan second_store ≡ Ok tt) × (check_plan (choice 1) ≡ Ok tt) × (check_plan greatest ≡ Ok tt)
