-- What the tables of a machine hold at each place, whatever the plan. Assumes nothing.
use Rattle.std.specs.Prelude.{◌≡◌, ℕ, zero, suc, ◌<◌, ◌≤◌, List, length, slice_index_or}
use Rattle.flight.specs.declared.machine.Part.{Part}
use Rattle.flight.specs.declared.machine.Part.TheVariants.{Nothing, Num, Both, InLeft, InRight}
use Rattle.flight.specs.declared.machine.What.TheVariants.{Store}
use Rattle.flight.specs.declared.machine.Binding.{Binding}
use Rattle.flight.specs.declared.machine.Entry.{Entry}

abbrev pub no_binding : Binding
no_binding = record { binder = 0; level = 0; parent = 0; what = Store }

-- how many names a scope has
abbrev pub size_at : List Binding → ℕ → ℕ
size_at bs zero = 0
size_at bs (suc i) = suc (slice_index_or bs i no_binding).level

abbrev pub PartOk : ℕ → Part → Type 0
PartOk i Nothing = Unit {0}
PartOk i (Num n) = n < 4294967296
PartOk i (Both u v) = (u < i) × (v < i)
PartOk i (InLeft u) = u < i
PartOk i (InRight u) = u < i

abbrev pub IsNothing : Part → Type 0
IsNothing Nothing = Unit {0}
IsNothing (Num n) = ⊥
IsNothing (Both u v) = ⊥
IsNothing (InLeft u) = ⊥
IsNothing (InRight u) = ⊥

-- The binding i stands on an older scope, by one name more.
pub record OnOlder (bs : List Binding) (i : ℕ) (b : Binding) : Type 0 where
  pub older : b.parent ≤ i
  pub level : b.level ≡ size_at bs b.parent
  pub low : b.level ≤ i

-- The places that the bindings and the values name are places before them, and each binding made is logged.
pub record Linked (bs : List Binding) (vs : List Part) (es : List Entry) : Type 0 where
  pub bindings : (i : ℕ) → i < length bs → OnOlder bs i (slice_index_or bs i no_binding)
  pub values : (i : ℕ) → i < length vs → PartOk i (slice_index_or vs i Nothing)
  pub some : 0 < length vs
  pub nothing : IsNothing (slice_index_or vs 0 Nothing)
  pub made : length bs ≤ length es
  pub log : length es ≤ 4096
