-- What a plan is in bytes, and which plans are well laid. Assumes nothing.
use Rattle.std.specs.Prelude.{◌≡◌, ℕ, zero, suc, ◌+◌, ◌/◌, ◌%◌, ◌^◌, ◌<◌, ◌≤◌, Bool, true, false, cond, ◌||◌, List, [], ◌∷◌, ◌++◌, length, ◌==◌, slice_index}
use Rattle.plan.specs.declared.Type.{«Type» as Shape}
use Rattle.plan.specs.declared.Type.TheVariants.{Unit as UnitType, Number as NumberType, Pair as PairType, Either as EitherType}
use Rattle.plan.specs.declared.Node.{Node}
use Rattle.plan.specs.declared.Node.TheVariants.{Unit as Unit', Number, Name, Let, Take, Pair, Split, Left, Right, Case, Call, Add, Less}
use Rattle.plan.specs.declared.TypeId.{TypeId}
use Rattle.plan.specs.Kinds.{binders}
use Rattle.plan.specs.Limits.{max_bytes, max_entries, max_legs, max_params, max_nodes}
use Rattle.plan.specs.Trees.{Leg, Plan, flat, the_type}

-- Each thing's bytes, one after another.
abbrev pub all_bytes : {X : Type 0} → (X → List ℕ) → List X → List ℕ
all_bytes f [] = []
all_bytes f (x ∷ xs) = f x ++ all_bytes f xs

-- A field that is zero is left out.
abbrev pub byte_field : ℕ → ℕ → List ℕ
byte_field k zero = k ∷ []
byte_field k (suc v) = (0x10 + k) ∷ suc v ∷ []

abbrev pub number_field : ℕ → ℕ → List ℕ
number_field k zero = k ∷ []
number_field k (suc v) = (0x20 + k) ∷ (suc v / 0x1000000) ∷ (suc v / 0x10000 % 0x100) ∷ (suc v / 0x100 % 0x100) ∷ (suc v % 0x100) ∷ []

abbrev pub node_bytes : Node → List ℕ
node_bytes Unit' = 0 ∷ []
node_bytes (Number v) = number_field 1 v
node_bytes (Name l) = byte_field 2 l.index
node_bytes (Let k) = 3 ∷ []
node_bytes (Take k) = 4 ∷ []
node_bytes Pair = 5 ∷ []
node_bytes (Split k) = 6 ∷ []
node_bytes (Left y) = byte_field 7 y.index
node_bytes (Right y) = byte_field 8 y.index
node_bytes (Case k) = 9 ∷ []
node_bytes (Call l n) = byte_field 10 l.index
node_bytes Add = 11 ∷ []
node_bytes Less = 12 ∷ []

abbrev pub entry_bytes : Shape → List ℕ
entry_bytes UnitType = []
entry_bytes NumberType = []
entry_bytes (PairType a b) = 1 ∷ a.index ∷ b.index ∷ []
entry_bytes (EitherType a b) = 2 ∷ a.index ∷ b.index ∷ []

abbrev pub table_bytes : List Shape → List ℕ
table_bytes [] = []
table_bytes (e ∷ es) = length (e ∷ es) ∷ all_bytes entry_bytes (e ∷ es)

abbrev pub nodes_bytes : List Node → List ℕ
nodes_bytes os = (length os / 0x100) ∷ (length os % 0x100) ∷ all_bytes node_bytes os

abbrev pub type_byte : TypeId → List ℕ
type_byte y = y.index ∷ []

abbrev pub leg_bytes : Leg → List ℕ
leg_bytes g = length g.params ∷ (all_bytes type_byte g.params ++ (g.result.index ∷ nodes_bytes (flat g.body)))

abbrev pub map_byte : List Shape → ℕ
map_byte [] = 4
map_byte (e ∷ es) = 6

abbrev pub written : Plan → List ℕ
written p = map_byte p.entries ∷ (table_bytes p.entries ++ (length p.legs ∷ all_bytes leg_bytes p.legs))

-- What holds of each thing in turn, in the state that those before it leave.
abbrev pub Run : {X S : Type 0} → (S → X → S) → (S → X → Type 0) → S → List X → Type 0
Run next ok s [] = Unit {0}
Run next ok s (x ∷ xs) = ok s x × Run next ok (next s x) xs

abbrev pub built_in : List Shape
built_in = UnitType ∷ NumberType ∷ EitherType (the_type 0) (the_type 0) ∷ []

abbrev pub same_type : Shape → Shape → Bool
same_type UnitType UnitType = true
same_type UnitType NumberType = false
same_type UnitType (PairType c d) = false
same_type UnitType (EitherType c d) = false
same_type NumberType UnitType = false
same_type NumberType NumberType = true
same_type NumberType (PairType c d) = false
same_type NumberType (EitherType c d) = false
same_type (PairType a b) UnitType = false
same_type (PairType a b) NumberType = false
same_type (PairType a b) (PairType c d) = cond (a.index == c.index) (b.index == d.index) false
same_type (PairType a b) (EitherType c d) = false
same_type (EitherType a b) UnitType = false
same_type (EitherType a b) NumberType = false
same_type (EitherType a b) (PairType c d) = false
same_type (EitherType a b) (EitherType c d) = cond (a.index == c.index) (b.index == d.index) false

-- whether a type is in the table
abbrev pub listed : Shape → List Shape → Bool
listed y [] = false
listed y (x ∷ xs) = same_type x y || listed y xs

abbrev pub Below : ℕ → TypeId → Type 0
Below types y = y.index < types

abbrev pub New : List Shape → Shape → TypeId → TypeId → Type 0
New ts y a b = Below (length ts) a × Below (length ts) b × (listed y ts ≡ false)

-- An entry is of lower types and no earlier one.
abbrev pub EntryLaid : List Shape → Shape → Type 0
EntryLaid ts UnitType = ⊥
EntryLaid ts NumberType = ⊥
EntryLaid ts (PairType a b) = New ts (PairType a b) a b
EntryLaid ts (EitherType a b) = New ts (EitherType a b) a b

abbrev pub with_entry : List Shape → Shape → List Shape
with_entry ts e = ts ++ (e ∷ [])

abbrev pub with_node : ℕ → Node → ℕ
with_node k o = k + binders o

-- `types` is the number of types and `arities` has the parameter count of each lower leg; k is the next binder.
abbrev pub NodeLaid : ℕ → List ℕ → ℕ → Node → Type 0
NodeLaid types arities k Unit' = Unit {0}
NodeLaid types arities k (Number v) = v < 2 ^ 32
NodeLaid types arities k (Name l) = l.index < 256
NodeLaid types arities k (Let b) = b.index ≡ k
NodeLaid types arities k (Take b) = b.index ≡ k
NodeLaid types arities k Pair = Unit {0}
NodeLaid types arities k (Split b) = b.index ≡ k
NodeLaid types arities k (Left y) = Below types y
NodeLaid types arities k (Right y) = Below types y
NodeLaid types arities k (Case b) = b.index ≡ k
NodeLaid types arities k (Call l n) = (l.index < length arities) × (n ≡ slice_index arities l.index)
NodeLaid types arities k Add = Unit {0}
NodeLaid types arities k Less = Unit {0}

-- What the legs before leave: their parameter counts, the next binder and how many nodes they have.
pub record Before : Type 0 where
  pub arities : List ℕ
  pub next : ℕ
  pub used : ℕ

abbrev pub none_before : Before
none_before = record { arities = []; next = 0; used = 0 }

abbrev pub binders_in : ℕ → List Node → ℕ
binders_in k [] = k
binders_in k (o ∷ os) = binders_in (with_node k o) os

abbrev pub with_leg : Before → Leg → Before
with_leg s g = record { arities = s.arities ++ (length g.params ∷ []); next = binders_in (s.next + length g.params) (flat g.body); used = s.used + length (flat g.body) }

abbrev pub Each : (ℕ → Type 0) → List ℕ → Type 0
Each P [] = Unit {0}
Each P (x ∷ xs) = P x × Each P xs

abbrev pub same_state : ℕ → TypeId → ℕ
same_state s x = s

pub record LegLaid (types : ℕ) (s : Before) (g : Leg) : Type 0 where
  pub few_params : length g.params ≤ max_params
  pub params_there : Run same_state Below types g.params
  pub result_there : Below types g.result
  pub numbered : g.first ≡ s.next
  pub few_nodes : s.used + length (flat g.body) ≤ max_nodes
  pub nodes_laid : Run with_node (NodeLaid types s.arities) (s.next + length g.params) (flat g.body)

pub record WellLaid (p : Plan) : Type 0 where
  pub few_entries : length p.entries ≤ max_entries
  pub entries_laid : Run with_entry EntryLaid built_in p.entries
  pub some_legs : 1 ≤ length p.legs
  pub few_legs : length p.legs ≤ max_legs
  pub legs_laid : Run with_leg (LegLaid (3 + length p.entries)) none_before p.legs
  pub few_bytes : length (written p) ≤ max_bytes
