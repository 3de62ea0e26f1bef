-- What the grades of a plan say about its flights, for any scale. Assumes nothing.
use Rattle.std.specs.Prelude.{◌≡◌, ℕ, ◌+◌, ◌<◌, ◌≤◌, ◌⊎◌, List, [], ◌∷◌, length, slice_index_or}
use Rattle.scales.specs.Laws.{Ops, ones}
use Rattle.scales.specs.declared.scale.Ceiling.{Ceiling}
use Rattle.scales.specs.declared.scale.Ceiling.TheVariants.{Count, Unbounded}
use Rattle.plan.specs.Trees.{Plan}
use Rattle.evaluation.specs.Flight.{Value, Entry, made, empty, Readings, State, ended, value, Limits, fly, flight, lookups}
use Rattle.evaluation.specs.Laws.{stores_of}
use Rattle.grading.specs.Grading.{Leq, Allowed}
use Rattle.grading.specs.Least.{main_leg}

-- The log has it that the binding b of the binder k was made.
abbrev pub Made : ℕ → ℕ → List Entry → Type 0
Made k b [] = ⊥
Made k b (e ∷ l) = (e ≡ made k b) ⊎ Made k b l

-- The lookups of each binding made, added up as ones, lie at or below its binder's grade.
abbrev pub WithinGrades : {G : Type 0} → Ops G → (ℕ → G) → List Entry → Type 0
WithinGrades o R l = (k b : ℕ) → Made k b l → Leq o (ones o (lookups b l)) (R k)

-- A flight that ends DONE keeps within every allowed grading, whatever its limits and so for every budget.
abbrev pub KeepsWithin : {G : Type 0} → Ops G → Type 0
KeepsWithin {G} o =
    (L : Limits) (p : Plan) (R : ℕ → G) → Allowed o R p → (r : Readings) (v : Value) (s : State) → fly L p r ≡ value v s → WithinGrades o R s.log

-- A binding whose binder has grade one is looked up exactly once in a flight that ends DONE.
pub record OneIsOnce {G : Type 0} (o : Ops G) : Type 0 where
  pub once : (L : Limits) (p : Plan) (R : ℕ → G) → Allowed o R p → (r : Readings) (v : Value) (s : State) → fly L p r ≡ value v s
      → (k b : ℕ) → Made k b s.log → R k ≡ o.one → lookups b s.log ≡ 1

-- No flight on these readings ends EMPTY, whatever its budget.
abbrev pub NeverEmpty : Plan → Readings → Type 0
NeverEmpty p r = (n : ℕ) (s : State) → ¬ (flight n p r ≡ ended empty s)

-- A stock of n readings suffices for the ceiling. None does for an unbounded one.
abbrev pub Covers : Ceiling → ℕ → Type 0
Covers (Count c) n = c ≤ n
Covers Unbounded n = ⊥

-- Each store of the plan holds what the ceiling of its grade allows.
abbrev pub StoresCovered : {G : Type 0} → Ops G → (ℕ → G) → Plan → Readings → Type 0
StoresCovered o R p r = (i : ℕ) → i < stores_of p → Covers (o.ceiling (R ((main_leg p).first + i))) (length (r i))

-- If the stores hold what some allowed grading's ceilings allow, no flight ends EMPTY.
abbrev pub StocksSuffice : {G : Type 0} → Ops G → Type 0
StocksSuffice {G} o = (p : Plan) (R : ℕ → G) → Allowed o R p → (r : Readings) → StoresCovered o R p r → NeverEmpty p r

-- The same without a scale. The stocks cover the ceilings, one for each store.
abbrev pub Stocked : List Ceiling → Readings → Type 0
Stocked cs r = (i : ℕ) → i < length cs → Covers (slice_index_or cs i (Count 0)) (length (r i))

-- These ceilings guard the plan: on readings that cover them no flight ends EMPTY.
abbrev pub Guards : Plan → List Ceiling → Type 0
Guards p cs = (r : Readings) → Stocked cs r → NeverEmpty p r

-- The list has the ceilings of the grades of the plan's stores.
abbrev pub CeilingsIn : {G : Type 0} → Ops G → (ℕ → G) → Plan → List Ceiling → Type 0
CeilingsIn o R p cs = (i : ℕ) → i < stores_of p → slice_index_or cs i (Count 0) ≡ o.ceiling (R ((main_leg p).first + i))

-- The ceilings of any allowed grading guard the plan.
abbrev pub AllowedGuards : {G : Type 0} → Ops G → Type 0
AllowedGuards {G} o = (p : Plan) (R : ℕ → G) → Allowed o R p → (cs : List Ceiling) → CeilingsIn o R p cs → Guards p cs
