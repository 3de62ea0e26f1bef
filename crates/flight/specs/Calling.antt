-- The bindings of a call's arguments, one by one; and what waits. Assumes nothing.
use Rattle.std.specs.Prelude.{◌≡◌, ℕ, suc, ◌+◌, ◌-◌, ◌<◌, ◌≤◌, Option, List, [], ◌∷◌, reverse, length}
use Rattle.evaluation.specs.Flight as byname
use Rattle.plan.specs.Trees.{the_binder}
use Rattle.flight.specs.Nodes.{Runner, bind_kids, kind_at, after, both}
use Rattle.flight.specs.Tables.{Tables, size_at}
use Rattle.flight.specs.Means.{unwind, state_of, value_at, scope_at, resumed}
use Rattle.flight.specs.Sound.{Under, Args, Poised, Act, FirstOk}
use Rattle.plan.specs.declared.Node.{Node}
use Rattle.plan.specs.declared.Node.TheVariants.{Case}
use Rattle.plan.specs.declared.Row.{Row}
use Rattle.plan.specs.declared.Leg.{Leg}
use Rattle.flight.specs.declared.machine.Spot.{Spot}

-- what is left of a call: c arguments from the kid at x on, with the binder k on, in front of the scope at i
abbrev pub rest_act : List Row → Tables → Leg → Spot → ℕ → ℕ → ℕ → ℕ → Act
rest_act ns t g a c x k i E L st =
    bind_kids E L ns c x k (scope_at E L t.values t.bindings a.scope) (scope_at E L t.values t.bindings i)
    (λ σ. byname.begin L (E L g.first σ)) (a.depth + 1) st

abbrev pub call_act : List Row → Tables → Leg → ℕ → Spot → Act
call_act ns t g m a E L st =
    bind_kids E L ns m (a.node + 1) g.binder.index (scope_at E L t.values t.bindings a.scope) [] (λ σ. byname.begin L (E L g.first σ)) (a.depth + 1) st

-- A leg may be called from a node.
pub record Calls (ns : List Row) (gs : List Leg) (t : Tables) (g : Leg) (m : ℕ) (a : Spot) : Type 0 where
  pub poised : Poised ns gs t a
  pub args : Args ns poised.lv m (a.node + 1) (poised.lv a.node)
  pub leg : Under ns poised.lv g.first m
  pub fits : g.binder.index + m < 65536

-- k arguments are bound; the next is at x, and the last binding made is on top of the scope at i.
pub record Calling (ns : List Row) (gs : List Leg) (t₀ t : Tables) (g : Leg) (m : ℕ) (a : Spot) (k x i : ℕ) : Type 0 where
  pub poised : Poised ns gs t a
  pub upto : k ≤ m
  pub args : Args ns poised.lv (m - k) x (poised.lv a.node)
  pub leg : Under ns poised.lv g.first m
  pub fits : g.binder.index + m < 65536
  pub inner : i ≤ length t.bindings
  pub size : size_at t.bindings i ≡ k
  pub begun : t.begun ≡ t₀.begun
  pub frames : length t.frames ≡ length t₀.frames
  pub means : (E : Runner) (y : ℕ → List ℕ) (n : ℕ)
      → unwind E (byname.house n) ns t.values t.bindings (reverse t.frames)
      (rest_act ns t g a (m - k) x (g.binder.index + k) i E (byname.house n) (state_of t y))
      ≡ unwind E (byname.house n) ns t₀.values t₀.bindings (reverse t₀.frames) (call_act ns t₀ g m a E (byname.house n) (state_of t₀ y))

-- a kid is worked out, and then the node goes on
abbrev pub wait_act : List Row → Tables → Spot → Option ℕ → ℕ → Act
wait_act ns t a p k E L st =
    byname.and_then (byname.begin L (E L k (scope_at E L t.values t.bindings a.scope)) (a.depth + 1) st)
    (resumed E L ns (value_at t.values) (record { spot = a; first = p }) (scope_at E L t.values t.bindings a.scope) p)

pub record Waits (ns : List Row) (gs : List Leg) (t : Tables) (a : Spot) (p : Option ℕ) (k : ℕ) : Type 0 where
  pub poised : Poised ns gs t a
  pub first : FirstOk (length t.values) p
  pub kid : Under ns poised.lv k (size_at t.bindings a.scope)

-- a value is given to a frame
pub record Given (ns : List Row) (gs : List Leg) (t : Tables) (a : Spot) (p : Option ℕ) (v : ℕ) : Type 0 where
  pub poised : Poised ns gs t a
  pub first : FirstOk (length t.values) p
  pub value : v < length t.values

-- two bindings of values, and then a node with both in scope
abbrev pub split_act : Tables → ℕ → ℕ → ℕ → ℕ → Spot → Act
split_act t k u v x a E L st =
    byname.make L k st
    (λ m st. byname.make L (k + 1) st
    (λ c st. byname.begin L (E L x (byname.bound L (k + 1) c (byname.kept (value_at t.values v)) ∷ byname.bound L k m (byname.kept (value_at t.values u)) ∷ scope_at E L t.values t.bindings a.scope)) (a.depth + 1) st))

pub record Splits (ns : List Row) (gs : List Leg) (t : Tables) (k v x : ℕ) (a : Spot) : Type 0 where
  pub poised : Poised ns gs t a
  pub value : v < length t.values
  pub body : Under ns poised.lv x (suc (suc (size_at t.bindings a.scope)))
  pub fits : k < 65535

-- the places of a pair's parts
pub record Halves (t : Tables) (v a b : ℕ) : Type 0 where
  pub one : a < length t.values
  pub two : b < length t.values
  pub first : value_at t.values a ≡ byname.first_of (value_at t.values v)
  pub second : value_at t.values b ≡ byname.second_of (value_at t.values v)

abbrev pub case_act : List Row → Tables → ℕ → ℕ → Spot → Act
case_act ns t k v a E L st = after E L ns (Case (the_binder k)) a.node (scope_at E L t.values t.bindings a.scope) a.depth (value_at t.values v) st

pub record CasesOn (ns : List Row) (gs : List Leg) (t : Tables) (k v : ℕ) (a : Spot) : Type 0 where
  pub poised : Poised ns gs t a
  pub value : v < length t.values
  pub kind : kind_at ns a.node ≡ Case (the_binder k)

abbrev pub join_act : Tables → Node → ℕ → ℕ → Act
join_act t k u v E L st = byname.value (both k (value_at t.values u) (value_at t.values v)) st

pub record Joins (ns : List Row) (gs : List Leg) (t : Tables) (u v : ℕ) (a : Spot) : Type 0 where
  pub poised : Poised ns gs t a
  pub one : u < length t.values
  pub two : v < length t.values

abbrev pub after_act : List Row → Tables → Spot → ℕ → Act
after_act ns t a v E L st = after E L ns (kind_at ns a.node) a.node (scope_at E L t.values t.bindings a.scope) a.depth (value_at t.values v) st
