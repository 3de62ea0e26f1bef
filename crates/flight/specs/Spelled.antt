-- A flat plan that spells its trees; and a flight that has just begun. Assumes nothing.
use Rattle.std.specs.Prelude.{◌≡◌, ℕ, zero, suc, ◌+◌, ◌<◌, ◌≤◌, cond, List, [], ◌∷◌, map, length, get_or, ◌==◌, nat_lt, slice_index_or}
use Rattle.plan.specs.Trees as plan
use Rattle.plan.specs.Table.{term_at, node_size}
use Rattle.plan.specs.Plans.{leg_in, params_of}
use Rattle.evaluation.specs.Flight as byname
use Rattle.flight.specs.Nodes.{Runner, no_leg, kind_at, end_at, kid2, kid3, level_of}
use Rattle.flight.specs.Tables.{Tables, size_at}
use Rattle.flight.specs.Means.{scope_at, entry_of}
use Rattle.flight.specs.Sound.{Under, Laid, Sound}
use Rattle.flight.specs.Fly.{Aloft}
use Rattle.plan.specs.declared.Node.{Node}
use Rattle.plan.specs.declared.Node.TheVariants.{Unit as k_unit, Number, Name, Let, Take, Pair, Split, Left, Right, Case, Call, Add, Less}
use Rattle.plan.specs.declared.Row.{Row}
use Rattle.plan.specs.declared.Leg.{Leg}
use Rattle.flight.specs.declared.machine.Part.TheVariants.{Nothing, InLeft, InRight}
use Rattle.flight.specs.declared.machine.Control.{Control}

-- The legs below the one that a node stands in, the last one first.
abbrev pub below_from : List Row → List plan.Leg → List Leg → ℕ → List plan.Leg
below_from ns ls [] i = ls
below_from ns ls (g ∷ gs) i = cond (nat_lt i (g.first + node_size (term_at ns g.first))) ls (below_from ns (leg_in ns g ∷ ls) gs i)

abbrev pub below : List Row → List Leg → ℕ → List plan.Leg
below ns gs i = below_from ns [] gs i

-- the trees of as many kids as the number says, from the one at x on
abbrev pub trees : List Row → ℕ → ℕ → plan.Terms
trees ns zero x = plan.t_none
trees ns (suc c) x = plan.t_more (term_at ns x) (trees ns c (end_at ns x))

-- and they stand in the same leg
abbrev pub SameLeg : List Row → List Leg → List plan.Leg → ℕ → ℕ → Type 0
SameLeg ns gs ls zero x = Unit {0}
SameLeg ns gs ls (suc c) x = (below ns gs x ≡ ls) × SameLeg ns gs ls c (end_at ns x)

-- the legs from the leg g on, which is numbered from the last of the list
abbrev pub from_leg : List plan.Leg → ℕ → List plan.Leg
from_leg [] g = []
from_leg (l ∷ ls) g = cond (g == length ls) (l ∷ ls) (from_leg ls g)

abbrev pub TwoSpelled : List Row → List Leg → (plan.Term → plan.Term → plan.Term) → ℕ → Type 0
TwoSpelled ns gs f i =
    (term_at ns i ≡ f (term_at ns (i + 1)) (term_at ns (kid2 ns i))) × (below ns gs (i + 1) ≡ below ns gs i) × (below ns gs (kid2 ns i) ≡ below ns gs i)

abbrev pub OneSpelled : List Row → List Leg → (plan.Term → plan.Term) → ℕ → Type 0
OneSpelled ns gs f i = (term_at ns i ≡ f (term_at ns (i + 1))) × (below ns gs (i + 1) ≡ below ns gs i)

-- The node's tree in terms of its kids', which stand in the same leg.
abbrev pub Spells : List Row → List Leg → Node → ℕ → Type 0
Spells ns gs k_unit i = term_at ns i ≡ plan.t_unit
Spells ns gs (Number n) i = term_at ns i ≡ plan.t_number n
Spells ns gs (Name l) i = term_at ns i ≡ plan.t_name l.index
Spells ns gs (Let k) i = TwoSpelled ns gs (plan.t_let k.index) i
Spells ns gs (Take k) i = TwoSpelled ns gs (plan.t_take k.index) i
Spells ns gs Pair i = TwoSpelled ns gs plan.t_pair i
Spells ns gs (Split k) i = TwoSpelled ns gs (plan.t_split k.index) i
Spells ns gs (Left y) i = OneSpelled ns gs (plan.t_left y) i
Spells ns gs (Right y) i = OneSpelled ns gs (plan.t_right y) i
Spells ns gs (Case k) i =
    (term_at ns i ≡ plan.t_case k.index (term_at ns (i + 1)) (term_at ns (kid2 ns i)) (term_at ns (kid3 ns i)))
    × (below ns gs (i + 1) ≡ below ns gs i) × (below ns gs (kid2 ns i) ≡ below ns gs i) × (below ns gs (kid3 ns i) ≡ below ns gs i)
Spells ns gs (Call g n) i =
    (term_at ns i ≡ plan.t_call g.index (trees ns n (i + 1))) × SameLeg ns gs (below ns gs i) n (i + 1)
    × (from_leg (below ns gs i) g.index ≡ leg_in ns (slice_index_or gs g.index no_leg) ∷ below ns gs (get_or gs g.index no_leg).first)
Spells ns gs Add i = TwoSpelled ns gs plan.t_add i
Spells ns gs Less i = TwoSpelled ns gs plan.t_less i

abbrev pub Spelled : List Row → List Leg → Type 0
Spelled ns gs = (i : ℕ) → i < length ns → Spells ns gs (kind_at ns i) i

-- The leg g may be main.
pub record Main (ns : List Row) (gs : List Leg) (g : Leg) : Type 0 where
  pub lv : ℕ → ℕ
  pub lv_is : lv ≡ level_of ns gs
  pub laid : Laid ns gs lv
  pub node : Under ns lv g.first (length (params_of g))
  pub few : length (params_of g) ≤ 8
  pub fits : g.binder.index + length (params_of g) < 65536

-- the same at the plan's own count of names
pub record MainPlain (ns : List Row) (gs : List Leg) (g : Leg) : Type 0 where
  pub laid : Laid ns gs (level_of ns gs)
  pub node : Under ns (level_of ns gs) g.first (length (params_of g))
  pub few : length (params_of g) ≤ 8
  pub fits : g.binder.index + length (params_of g) < 65536

abbrev pub blank : Tables
blank = record { frames = []; bindings = []; values = Nothing ∷ InLeft 0 ∷ InRight 0 ∷ []; log = []; begun = 0 }

-- i stores are bound
pub record Storing (ns : List Row) (gs : List Leg) (g : Leg) (t : Tables) (i : ℕ) : Type 0 where
  pub main : Main ns gs g
  pub sound : Sound ns main.lv t
  pub upto : i ≤ length (params_of g)
  pub made : length t.bindings ≡ i
  pub log : map entry_of t.log ≡ byname.stores_log g.binder.index i
  pub short : length t.log ≡ i
  pub size : size_at t.bindings i ≡ i
  pub frames : t.frames ≡ []
  pub begun : t.begun ≡ 0
  pub scope : (E : Runner) (L : byname.Limits) → scope_at E L t.values t.bindings i ≡ byname.stores L g.binder.index i

-- What each node of a flat plan does: the tree that begins there, over the legs below it.
abbrev pub runner : List Row → List Leg → Runner
runner ns gs L i ρ = byname.inside L (byname.meanings L (below ns gs i)) (term_at ns i) ρ

-- The flight of the leg g with n evaluations.
abbrev pub flown : List Row → List Leg → Leg → (ℕ → List ℕ) → ℕ → byname.Out
flown ns gs g y n = byname.fly_main (byname.house n) (leg_in ns g) (below ns gs g.first) y

-- The flight of the leg g has just begun, on any readings, with nothing granted.
abbrev pub Begun : List Row → List Leg → Leg → Tables → Control → Type 0
Begun ns gs g t c = (y : ℕ → List ℕ) → Aloft ns (runner ns gs) (flown ns gs g y) 0 y t c
