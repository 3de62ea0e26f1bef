-- What a state of the machine still has to give. Assumes nothing.
use Rattle.std.specs.Prelude.{ℕ, ◌-◌, Option, Some, None, List, [], ◌∷◌, map, reverse, length, slice_index_or}
use Rattle.evaluation.specs.Flight as byname
use Rattle.flight.specs.Grow.{grow}
use Rattle.flight.specs.Nodes.{Runner, kind_at, both, after}
use Rattle.flight.specs.Tables.{Tables}
use Rattle.flight.specs.declared.machine.Part.{Part}
use Rattle.flight.specs.declared.machine.Part.TheVariants.{Nothing, Num, Both, InLeft, InRight}
use Rattle.flight.specs.declared.machine.What.{What}
use Rattle.flight.specs.declared.machine.What.TheVariants.{Thunk, Kept, Store}
use Rattle.flight.specs.declared.machine.Binding.{Binding}
use Rattle.plan.specs.declared.Row.{Row}
use Rattle.flight.specs.declared.machine.Frame.{Frame}
use Rattle.flight.specs.declared.machine.Entry.{Entry}
use Rattle.flight.specs.declared.machine.Event.{Event}
use Rattle.flight.specs.declared.machine.Event.TheVariants.{Made, Lookup}
use Rattle.flight.specs.declared.machine.Ending.{Ending}
use Rattle.flight.specs.declared.machine.Ending.TheVariants.{Long, Deep, Full, Empty}
use Rattle.flight.specs.declared.machine.Control.{Control}
use Rattle.flight.specs.declared.machine.Control.TheVariants.{Eval, Return, Draw, Over}

abbrev pub part_of : List byname.Value → Part → byname.Value
part_of vs Nothing = byname.v_unit
part_of vs (Num n) = byname.v_number n
part_of vs (Both i j) = byname.v_pair (slice_index_or vs i byname.v_unit) (slice_index_or vs j byname.v_unit)
part_of vs (InLeft i) = byname.v_left (slice_index_or vs i byname.v_unit)
part_of vs (InRight i) = byname.v_right (slice_index_or vs i byname.v_unit)

abbrev pub value_at : List Part → ℕ → byname.Value
value_at ps i = slice_index_or (grow part_of [] ps) i byname.v_unit

-- What a lookup of a binding does; k is its binder, b its number.
abbrev pub lookup_of : Runner → byname.Limits → (ℕ → byname.Value) → List byname.Scope → ℕ → ℕ → What → byname.Comp
lookup_of E L val es k b (Thunk q s) = byname.bound L k b (byname.begin L (E L q (slice_index_or es s [])))
lookup_of E L val es k b (Kept v) = byname.bound L k b (byname.kept (val v))
lookup_of E L val es k b Store = byname.store L k b

abbrev pub scope_of : Runner → byname.Limits → (ℕ → byname.Value) → List byname.Scope → Binding → byname.Scope
scope_of E L val es b = lookup_of E L val es b.binder (length es - 1) b.what ∷ slice_index_or es b.parent []

abbrev pub scopes : Runner → byname.Limits → (ℕ → byname.Value) → List Binding → List byname.Scope
scopes E L val bs = grow (scope_of E L val) ([] ∷ []) bs

abbrev pub scope_at : Runner → byname.Limits → List Part → List Binding → ℕ → byname.Scope
scope_at E L ps bs i = slice_index_or (scopes E L (value_at ps) bs) i []

abbrev pub resumed : Runner → byname.Limits → List Row → (ℕ → byname.Value) → Frame → byname.Scope → Option ℕ → byname.Value → byname.State → byname.Out
resumed E L ns val f ρ None v s = after E L ns (kind_at ns f.spot.node) f.spot.node ρ f.spot.depth v s
resumed E L ns val f ρ (Some u) v s = byname.value (both (kind_at ns f.spot.node) (val u) v) s

abbrev pub frame_means : Runner → byname.Limits → List Row → List Part → List Binding → Frame → byname.Value → byname.State → byname.Out
frame_means E L ns ps bs f v s = resumed E L ns (value_at ps) f (scope_at E L ps bs f.spot.scope) f.first v s

-- the frames from the top
abbrev pub unwind : Runner → byname.Limits → List Row → List Part → List Binding → List Frame → byname.Out → byname.Out
unwind E L ns ps bs [] o = o
unwind E L ns ps bs (f ∷ fs) o = unwind E L ns ps bs fs (byname.and_then o (frame_means E L ns ps bs f))

abbrev pub told_as : Event → ℕ → ℕ → byname.Entry
told_as Made k b = byname.made k b
told_as Lookup k b = byname.lookup k b

abbrev pub entry_of : Entry → byname.Entry
entry_of e = told_as e.event e.binder e.binding

abbrev pub ending_of : Ending → byname.Ending
ending_of Long = byname.long
ending_of Deep = byname.deep
ending_of Full = byname.full
ending_of Empty = byname.empty

abbrev pub state_of : Tables → (ℕ → List ℕ) → byname.State
state_of t y = record { begun = t.begun; log = map entry_of t.log; next = length t.bindings; left = y }

abbrev pub control_means : Runner → byname.Limits → List Part → List Binding → Control → byname.State → byname.Out
control_means E L ps bs (Eval a) s = byname.begin L (E L a.node (scope_at E L ps bs a.scope)) a.depth s
control_means E L ps bs (Return v) s = byname.value (value_at ps v) s
control_means E L ps bs (Draw k i) s = byname.draw L (s.left i) k i s
control_means E L ps bs (Over e) s = byname.ended (ending_of e) s

abbrev pub means : Runner → byname.Limits → List Row → (ℕ → List ℕ) → Tables → Control → byname.Out
means E L ns y t c =
    unwind E L ns t.values t.bindings (reverse t.frames) (control_means E L t.values t.bindings c (state_of t y))
