-- The grader's walk, one node at a time: what is asked of an expression, and a node's context and binders from its kids' contexts. Assumes nothing.
use Rattle.std.specs.Prelude.{◌≡◌, ℕ, zero, suc, ◌+◌, ◌<◌, ◌≤◌, List, [], ◌∷◌, ◌++◌, length, get_or, take, drop, slice_index_or}
use Rattle.scales.specs.Laws.{Ops}
use Rattle.scales.specs.Rows.{row_plus, row_join, row_times, row_zero}
use Rattle.plan.specs.declared.Leg.{Leg as FlatLeg}
use Rattle.plan.specs.declared.Row.{Row}
use Rattle.plan.specs.declared.Node.{Node}
use Rattle.plan.specs.declared.Node.TheVariants.{Unit as Unit', Number, Name, Let, Take, Pair, Split, Left, Right, Case, Call, Add, Less}
use Rattle.plan.specs.Limits.{max_levels, max_nodes, max_params}
use Rattle.plan.specs.Kinds.{kids_of}
use Rattle.plan.specs.Trees.{Term, t_unit, t_number, t_name, t_let, t_take, t_pair, t_split, t_left, t_right, t_case, t_call, t_add, t_less, Terms, t_none, t_more, how_many}
use Rattle.plan.specs.Table.{term_at, node_size}
use Rattle.plan.specs.Plans.{legs_in, params_of}
use Rattle.typer.specs.Walk.{no_leg}
use Rattle.grading.specs.Grading.{at, one_of, turned}
use Rattle.grading.specs.Least.{from_0, leg_needs, legs_binders}

-- A list with others in the places from k on.
abbrev pub put : {G : Type 0} → ℕ → List G → List G → List G
put k gs xs = take k xs ++ (gs ++ drop (k + length gs) xs)

-- How many levels are in scope at a node's kids behind the first.
abbrev pub inner_width : ℕ → Node → ℕ
inner_width n Unit' = n
inner_width n (Number v) = n
inner_width n (Name l) = n
inner_width n (Let k) = suc n
inner_width n (Take k) = suc n
inner_width n Pair = n
inner_width n (Split k) = suc (suc n)
inner_width n (Left y) = n
inner_width n (Right y) = n
inner_width n (Case k) = suc n
inner_width n (Call l c) = n
inner_width n Add = n
inner_width n Less = n

abbrev pub kid_width : ℕ → Node → ℕ → ℕ
kid_width n o zero = n
kid_width n o (suc k) = inner_width n o

-- A call may name the leg l with c arguments: a lower leg with as many parameters.
abbrev pub Callable : List FlatLeg → ℕ → ℕ → Type 0
Callable gs l c = (l < length gs) × (c ≡ length (params_of (slice_index_or gs l no_leg)))

-- With d levels in scope and the lower legs gs: no node has more levels than there may be, names stand in scope, and calls are of lower legs.
abbrev mutual
  pub Fit : List FlatLeg → ℕ → Term → Type 0
  Fit gs d t_unit = d ≤ max_levels
  Fit gs d (t_number v) = d ≤ max_levels
  Fit gs d (t_name l) = (d ≤ max_levels) × (l < d)
  Fit gs d (t_let k a b) = (d ≤ max_levels) × Fit gs d a × Fit gs (suc d) b
  Fit gs d (t_take k a b) = (d ≤ max_levels) × Fit gs d a × Fit gs (suc d) b
  Fit gs d (t_pair a b) = (d ≤ max_levels) × Fit gs d a × Fit gs d b
  Fit gs d (t_split k a b) = (d ≤ max_levels) × Fit gs d a × Fit gs (suc (suc d)) b
  Fit gs d (t_left y a) = (d ≤ max_levels) × Fit gs d a
  Fit gs d (t_right y a) = (d ≤ max_levels) × Fit gs d a
  Fit gs d (t_case k a b c) = (d ≤ max_levels) × Fit gs d a × Fit gs (suc d) b × Fit gs (suc d) c
  Fit gs d (t_call l ts) = (d ≤ max_levels) × Callable gs l (how_many ts) × FitEach gs d ts
  Fit gs d (t_add a b) = (d ≤ max_levels) × Fit gs d a × Fit gs d b
  Fit gs d (t_less a b) = (d ≤ max_levels) × Fit gs d a × Fit gs d b

  pub FitEach : List FlatLeg → ℕ → Terms → Type 0
  FitEach gs d t_none = Unit {0}
  FitEach gs d (t_more a ts) = Fit gs d a × FitEach gs d ts

-- what that asks of the node itself
abbrev pub HeadFit : List FlatLeg → ℕ → Node → Type 0
HeadFit gs d Unit' = Unit {0}
HeadFit gs d (Number v) = Unit {0}
HeadFit gs d (Name l) = l.index < d
HeadFit gs d (Let k) = Unit {0}
HeadFit gs d (Take k) = Unit {0}
HeadFit gs d Pair = Unit {0}
HeadFit gs d (Split k) = Unit {0}
HeadFit gs d (Left y) = Unit {0}
HeadFit gs d (Right y) = Unit {0}
HeadFit gs d (Case k) = Unit {0}
HeadFit gs d (Call l c) = Callable gs l.index c
HeadFit gs d Add = Unit {0}
HeadFit gs d Less = Unit {0}

abbrev pub concat : {G : Type 0} → List (List G) → List G
concat [] = []
concat (u ∷ us) = u ++ concat us

-- So many contexts stand on top of a stack, the k-th of them w k wide.
pub record RowsOn {G : Type 0} (held : List G) (c : ℕ) (w : ℕ → ℕ) : Type 0 where
  pub base : List G
  pub rows : List (List G)
  pub count : length rows ≡ c
  pub wide : (k : ℕ) → k < c → length (slice_index_or rows k []) ≡ w k
  pub is : held ≡ base ++ concat rows

-- The contexts of a node's kids stand on top of a stack, each as wide as its scope.
abbrev pub KidsOn : {G : Type 0} → List G → Node → ℕ → Type 0
KidsOn held o n = RowsOn held (kids_of o) (kid_width n o)

-- the sum of the arguments, each scaled by its parameter's grade, from the j-th on
abbrev pub call_row : {G : Type 0} → Ops G → (ℕ → G) → ℕ → ℕ → List (List G) → List G
call_row o r j n [] = row_zero o n
call_row o r j n (u ∷ us) = row_plus o (row_times o (r j) u) (call_row o r (suc j) n us)

abbrev pub kid_row : {G : Type 0} → List (List G) → ℕ → List G
kid_row us k = slice_index_or us k []

-- The context of a node whose kids have the contexts us; `r l j` is the grade of the j-th parameter of the leg l.
abbrev pub node_row : {G : Type 0} → Ops G → (ℕ → ℕ → G) → Node → ℕ → List (List G) → List G
node_row o r Unit' n us = row_zero o n
node_row o r (Number v) n us = row_zero o n
node_row o r (Name l) n us = from_0 n (one_of o l.index)
node_row o r (Let k) n us = row_plus o (row_times o (slice_index_or (kid_row us 1) n o.zero) (kid_row us 0)) (kid_row us 1)
node_row o r (Take k) n us = row_plus o (kid_row us 0) (kid_row us 1)
node_row o r Pair n us = row_plus o (kid_row us 0) (kid_row us 1)
node_row o r (Split k) n us = row_plus o (kid_row us 0) (kid_row us 1)
node_row o r (Left y) n us = kid_row us 0
node_row o r (Right y) n us = kid_row us 0
node_row o r (Case k) n us = row_plus o (kid_row us 0) (row_join o (kid_row us 1) (kid_row us 2))
node_row o r (Call l c) n us = call_row o (r l.index) 0 n us
node_row o r Add n us = row_plus o (kid_row us 0) (kid_row us 1)
node_row o r Less n us = row_plus o (kid_row us 0) (kid_row us 1)

-- the grades of the names that a node binds
abbrev pub own_grades : {G : Type 0} → Ops G → Node → ℕ → List (List G) → List G
own_grades o Unit' n us = []
own_grades o (Number v) n us = []
own_grades o (Name l) n us = []
own_grades o (Let k) n us = slice_index_or (kid_row us 1) n o.zero ∷ []
own_grades o (Take k) n us = slice_index_or (kid_row us 1) n o.zero ∷ []
own_grades o Pair n us = []
own_grades o (Split k) n us = slice_index_or (kid_row us 1) n o.zero ∷ slice_index_or (kid_row us 1) (suc n) o.zero ∷ []
own_grades o (Left y) n us = []
own_grades o (Right y) n us = []
own_grades o (Case k) n us = slice_index_or (kid_row us 1) n o.zero ∷ slice_index_or (kid_row us 2) n o.zero ∷ []
own_grades o (Call l c) n us = []
own_grades o Add n us = []
own_grades o Less n us = []

-- A node's kids' contexts have become its own, and the grades of the names that it binds stand among the answers from `next` on.
pub record Closed {G : Type 0} (o : Ops G) (r : ℕ → ℕ → G) (node : Node) (n next : ℕ) (before after answers later : List G) : Type 0 where
  pub row : (k : KidsOn before node n) → after ≡ k.base ++ node_row o r node n k.rows
  pub own : (k : KidsOn before node n) → later ≡ put next (own_grades o node n k.rows) answers

-- The least grades of the parameters of the legs of a table, which is that of the legs below some leg.
abbrev pub lower_needs : {G : Type 0} → Ops G → List Row → List FlatLeg → List (ℕ → G)
lower_needs o ns gs = leg_needs o (turned [] (legs_in ns gs))

abbrev pub param_grade : {G : Type 0} → Ops G → List (ℕ → G) → ℕ → ℕ → G
param_grade o Γ l = at (λ j. o.zero) Γ l

-- The grades of the legs' parameters, as they stand in a list by the binders' numbers.
abbrev pub params_at : {G : Type 0} → Ops G → List FlatLeg → List G → ℕ → ℕ → G
params_at o gs xs l j = slice_index_or xs ((get_or gs l no_leg).binder.index + j) o.zero

-- The legs' parameters have numbers below a bound.
abbrev pub ParamsIn : List FlatLeg → ℕ → Type 0
ParamsIn gs bound = (l : ℕ) → l < length gs → (get_or gs l no_leg).binder.index + length (params_of (slice_index_or gs l no_leg)) ≤ bound

-- The answers hold the grades of the lower legs' parameters.
abbrev pub Known : {G : Type 0} → Ops G → List (ℕ → G) → List FlatLeg → List G → Type 0
Known o Γ gs xs = (l j : ℕ) → l < length gs → j < length (params_of (slice_index_or gs l no_leg)) → params_at o gs xs l j ≡ param_grade o Γ l j

-- A leg over the lower ones can be graded: its body stands in the table and fits, and its parameters are numbered on from the binders of the lower legs.
pub record LegReady (ns : List Row) (lower : List FlatLeg) (g : FlatLeg) : Type 0 where
  pub within : g.first < length ns
  pub few_nodes : node_size (term_at ns g.first) ≤ max_nodes
  pub few_params : length (params_of g) ≤ max_params
  pub fit : Fit lower (length (params_of g)) (term_at ns g.first)
  pub numbered : g.binder.index ≡ legs_binders (turned [] (legs_in ns lower))

abbrev pub LegsReady : List Row → List FlatLeg → Type 0
LegsReady ns gs = (k : ℕ) → k < length gs → LegReady ns (take k gs) (slice_index_or gs k no_leg)
