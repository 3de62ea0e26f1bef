-- What holds of the tables between steps, and what a flat plan has to be. Assumes nothing.
use Rattle.std.specs.Prelude.{◌≡◌, ℕ, zero, suc, ◌+◌, ◌-◌, ◌*◌, ◌<◌, ◌≤◌, Option, Some, None, List, ◌∷◌, reverse, length, get_or, slice_index_or}
use Rattle.evaluation.specs.Flight.{at}
use Rattle.evaluation.specs.Flight as byname
use Rattle.flight.specs.Nodes.{Runner, Runs, no_leg, kind_at, end_at, kid2, kid3, node_does, level_of}
use Rattle.flight.specs.Tables.{Tables, no_binding, no_frame, size_at}
pub use Rattle.flight.specs.Links.{PartOk, IsNothing}
use Rattle.flight.specs.Means.{means, unwind, state_of, value_at, lookup_of, scopes, scope_at, frame_means}
use Rattle.plan.specs.declared.Node.{Node}
use Rattle.plan.specs.declared.Node.TheVariants.{Unit as k_unit, Number, Name, Let, Take, Pair, Split, Left, Right, Case, Call, Add, Less}
use Rattle.plan.specs.declared.Row.{Row}
use Rattle.plan.specs.declared.Leg.{Leg}
use Rattle.flight.specs.declared.machine.Part.{Part}
use Rattle.flight.specs.declared.machine.Part.TheVariants.{Nothing, Num, Both, InLeft, InRight}
use Rattle.flight.specs.declared.machine.What.{What}
use Rattle.flight.specs.declared.machine.What.TheVariants.{Thunk, Kept, Store}
use Rattle.flight.specs.declared.machine.Binding.{Binding}
use Rattle.flight.specs.declared.machine.Spot.{Spot}
use Rattle.flight.specs.declared.machine.Frame.{Frame}
use Rattle.flight.specs.declared.machine.Control.{Control}
use Rattle.flight.specs.declared.machine.Control.TheVariants.{Eval, Return, Draw, Over}

-- The node q is there and stands under n names; lv says under how many each node stands.
abbrev pub Under : List Row → (ℕ → ℕ) → ℕ → ℕ → Type 0
Under ns lv q n = (q < length ns) × (lv q ≡ n)

-- as many kids as the number says, from the one at q on
abbrev pub Args : List Row → (ℕ → ℕ) → ℕ → ℕ → ℕ → Type 0
Args ns lv zero q n = Unit {0}
Args ns lv (suc c) q n = Under ns lv q n × Args ns lv c (end_at ns q) n

abbrev pub LaidNode : List Row → List Leg → (ℕ → ℕ) → Node → ℕ → Type 0
LaidNode ns gs lv k_unit i = Unit {0}
LaidNode ns gs lv (Number n) i = n < 4294967296
LaidNode ns gs lv (Name l) i = l.index < lv i
LaidNode ns gs lv (Let k) i = Under ns lv (i + 1) (lv i) × Under ns lv (kid2 ns i) (suc (lv i))
LaidNode ns gs lv (Take k) i = Under ns lv (i + 1) (lv i) × Under ns lv (kid2 ns i) (suc (lv i))
LaidNode ns gs lv Pair i = Under ns lv (i + 1) (lv i) × Under ns lv (kid2 ns i) (lv i)
LaidNode ns gs lv (Split k) i = Under ns lv (i + 1) (lv i) × Under ns lv (kid2 ns i) (suc (suc (lv i))) × (k.index < 65535)
LaidNode ns gs lv (Left z) i = Under ns lv (i + 1) (lv i)
LaidNode ns gs lv (Right z) i = Under ns lv (i + 1) (lv i)
LaidNode ns gs lv (Case k) i = Under ns lv (i + 1) (lv i) × Under ns lv (kid2 ns i) (suc (lv i)) × Under ns lv (kid3 ns i) (suc (lv i)) × (k.index < 65535)
LaidNode ns gs lv (Call g c) i =
    (g.index < length gs) × Args ns lv c (i + 1) (lv i) × Under ns lv (get_or gs g.index no_leg).first c
    × ((get_or gs g.index no_leg).binder.index + c < 65536)
LaidNode ns gs lv Add i = Under ns lv (i + 1) (lv i) × Under ns lv (kid2 ns i) (lv i)
LaidNode ns gs lv Less i = Under ns lv (i + 1) (lv i) × Under ns lv (kid2 ns i) (lv i)

-- What a reader and a typer see to: kids and legs are there, names stand in scope, calls have their leg's parameters.
pub record Laid (ns : List Row) (gs : List Leg) (lv : ℕ → ℕ) : Type 0 where
  pub few : length ns ≤ 256
  pub each : (i : ℕ) → i < length ns → LaidNode ns gs lv (kind_at ns i) i

abbrev pub WhatOk : List Row → (ℕ → ℕ) → List Binding → ℕ → ℕ → What → Type 0
WhatOk ns lv bs vs i (Thunk q s) = (s ≤ i) × Under ns lv q (size_at bs s)
WhatOk ns lv bs vs i (Kept v) = v < vs
WhatOk ns lv bs vs i Store = i < 8

pub record BindingOk (ns : List Row) (lv : ℕ → ℕ) (bs : List Binding) (vs i : ℕ) (b : Binding) : Type 0 where
  pub older : b.parent ≤ i
  pub level : b.level ≡ size_at bs b.parent
  pub low : b.level ≤ i
  pub what : WhatOk ns lv bs vs i b.what

abbrev pub IsLeft : Part → Type 0
IsLeft Nothing = ⊥
IsLeft (Num n) = ⊥
IsLeft (Both u v) = ⊥
IsLeft (InLeft u) = u ≡ 0
IsLeft (InRight u) = ⊥

abbrev pub IsRight : Part → Type 0
IsRight Nothing = ⊥
IsRight (Num n) = ⊥
IsRight (Both u v) = ⊥
IsRight (InLeft u) = ⊥
IsRight (InRight u) = u ≡ 0

abbrev pub FirstOk : ℕ → Option ℕ → Type 0
FirstOk vs None = Unit {0}
FirstOk vs (Some u) = u < vs

pub record FrameOk (ns : List Row) (lv : ℕ → ℕ) (bs : List Binding) (vs i : ℕ) (f : Frame) : Type 0 where
  pub node : Under ns lv f.spot.node (size_at bs f.spot.scope)
  pub scope : f.spot.scope ≤ length bs
  pub deep : i < f.spot.depth
  pub least : f.spot.depth ≤ 128
  pub first : FirstOk vs f.first

pub record Sound (ns : List Row) (lv : ℕ → ℕ) (t : Tables) : Type 0 where
  pub bindings : (i : ℕ) → i < length t.bindings → BindingOk ns lv t.bindings (length t.values) i (slice_index_or t.bindings i no_binding)
  pub values : (i : ℕ) → i < length t.values → PartOk i (slice_index_or t.values i Nothing)
  pub frames : (i : ℕ) → i < length t.frames → FrameOk ns lv t.bindings (length t.values) i (slice_index_or t.frames i no_frame)
  pub made : length t.bindings ≤ length t.log
  pub log : length t.log ≤ 4096
  pub begun : t.begun ≤ 2048
  pub room : length t.values + length t.frames ≤ 3 + t.begun
  pub high : length t.frames ≤ 128
  pub three : 3 ≤ length t.values
  pub nothing : IsNothing (slice_index_or t.values 0 Nothing)
  pub yes : IsLeft (slice_index_or t.values 1 Nothing)
  pub not : IsRight (slice_index_or t.values 2 Nothing)

abbrev pub ControlOk : List Row → (ℕ → ℕ) → Tables → Control → Type 0
ControlOk ns lv t (Eval a) = Under ns lv a.node (size_at t.bindings a.scope) × (a.scope ≤ length t.bindings) × (length t.frames < a.depth) × (a.depth ≤ 129)
ControlOk ns lv t (Return v) = v < length t.values
ControlOk ns lv t (Draw k i) = (i < 8) × (length t.values + length t.frames + 1 ≤ 3 + t.begun) × (length t.log < 4096)
ControlOk ns lv t (Over e) = Unit {0}

pub record Ready (ns : List Row) (gs : List Leg) (t : Tables) (c : Control) : Type 0 where
  pub lv : ℕ → ℕ
  pub lv_is : lv ≡ level_of ns gs
  pub laid : Laid ns gs lv
  pub sound : Sound ns lv t
  pub control : ControlOk ns lv t c

abbrev pub rank : Control → ℕ
rank (Over e) = 0
rank (Eval a) = 1
rank (Return v) = 2
rank (Draw k i) = 3

-- how many steps there are at most
abbrev pub left : Tables → Control → ℕ
left t c = 4 * (2048 - t.begun) + 2 * length t.frames + rank c

-- An evaluation may go on: its evaluation has begun, and there is room for one more value or frame.
pub record Poised (ns : List Row) (gs : List Leg) (t : Tables) (a : Spot) : Type 0 where
  pub lv : ℕ → ℕ
  pub lv_is : lv ≡ level_of ns gs
  pub laid : Laid ns gs lv
  pub sound : Sound ns lv t
  pub node : Under ns lv a.node (size_at t.bindings a.scope)
  pub scope : a.scope ≤ length t.bindings
  pub deep : length t.frames < a.depth
  pub least : a.depth ≤ 128
  pub slack : length t.values + length t.frames + 1 ≤ 3 + t.begun

abbrev pub Act : Type 0
Act = Runner → byname.Limits → byname.State → byname.Out

-- The state (t', c') still has to give what f gives under the frames of t.
pub record Leads (ns : List Row) (gs : List Leg) (t : Tables) (f : Act) (t' : Tables) (c' : Control) : Type 0 where
  pub ready : Ready ns gs t' c'
  pub means : (E : Runner) (y : ℕ → List ℕ) (n : ℕ) → Runs ns gs E
      → means E (byname.house n) ns y t' c'
      ≡ unwind E (byname.house n) ns t.values t.bindings (reverse t.frames) (f E (byname.house n) (state_of t y))
  pub falls : left t' c' ≤ 4 * (2048 - t.begun) + 2 * length t.frames + 3
  pub begun : t'.begun ≡ t.begun

-- a new binding of the binder k, and then the node q with it in scope
abbrev pub bind_act : Tables → ℕ → What → ℕ → Spot → Act
bind_act t k w q a E L st =
    byname.make L k st
    (λ b st. byname.begin L (E L q (lookup_of E L (value_at t.values) (scopes E L (value_at t.values) t.bindings) k b w ∷ scope_at E L t.values t.bindings a.scope)) (a.depth + 1) st)

abbrev pub node_act : List Row → List Leg → Tables → Spot → Act
node_act ns gs t a E L st = node_does E L ns gs (kind_at ns a.node) a.node (scope_at E L t.values t.bindings a.scope) a.depth st

abbrev pub frame_act : List Row → Tables → Frame → ℕ → Act
frame_act ns t f v E L st = frame_means E L ns t.values t.bindings f (value_at t.values v) st

-- A step that begins an evaluation is for a budget that is not used up.
abbrev pub May : ℕ → Tables → Control → Type 0
May n t (Eval a) = t.begun < n
May n t (Return v) = Unit {0}
May n t (Draw k i) = Unit {0}
May n t (Over e) = Unit {0}

abbrev pub starts : Control → ℕ
starts (Eval a) = 1
starts (Return v) = 0
starts (Draw k i) = 0
starts (Over e) = 0

-- A step from (y, t, c) to (y', t', c') keeps what the state still has to give, for every budget that allows it.
pub record Steps (ns : List Row) (gs : List Leg) (y : ℕ → List ℕ) (t : Tables) (c : Control) (y' : ℕ → List ℕ) (t' : Tables) (c' : Control) : Type 0 where
  pub ready : Ready ns gs t' c'
  pub means : (E : Runner) (n : ℕ) → Runs ns gs E → May n t c → means E (byname.house n) ns y' t' c' ≡ means E (byname.house n) ns y t c
  pub falls : left t' c' < left t c
  pub least : t.begun ≤ t'.begun
  pub most : t'.begun ≤ t.begun + starts c

-- The tables are sound, for some plan.
pub record Tabled (t : Tables) : Type 0 where
  pub ns : List Row
  pub lv : ℕ → ℕ
  pub sound : Sound ns lv t

-- The name at a level of a scope is the binding r.
abbrev pub Finds : Tables → ℕ → ℕ → ℕ → Type 0
Finds t s l r =
    (r < length t.bindings)
    × ((E : Runner) (L : byname.Limits)
    → at (byname.kept byname.v_unit) (scope_at E L t.values t.bindings s) l
    ≡ lookup_of E L (value_at t.values) (scopes E L (value_at t.values) t.bindings) (get_or t.bindings r no_binding).binder r (get_or t.bindings r no_binding).what)

abbrev pub name_act : Tables → ℕ → Spot → Act
name_act t l a E L st = at (byname.kept byname.v_unit) (scope_at E L t.values t.bindings a.scope) l a.depth st

-- What a bind asks of its binding: this is WhatOk and the body's scope, for the plan's own count of names.
pub record Binds (ns : List Row) (gs : List Leg) (t : Tables) (w : What) (b : ℕ) (a : Spot) : Type 0 where
  pub poised : Poised ns gs t a
  pub what : WhatOk ns poised.lv t.bindings (length t.values) (length t.bindings) w
  pub body : Under ns poised.lv b (suc (size_at t.bindings a.scope))

-- the same at the plan's own count of names
pub record Fine (ns : List Row) (gs : List Leg) (t : Tables) (c : Control) : Type 0 where
  pub laid : Laid ns gs (level_of ns gs)
  pub sound : Sound ns (level_of ns gs) t
  pub control : ControlOk ns (level_of ns gs) t c
