-- How many levels are in scope at a node's kids. Assumes nothing.
use Rattle.std.specs.Prelude.{ℕ, zero, suc, ◌+◌, ◌≤◌, List, [], ◌∷◌, ◌++◌}
use Rattle.plan.specs.declared.Node.{Node}
use Rattle.plan.specs.declared.Node.TheVariants.{Unit as Unit', Number, Name, Let, Take, Pair, Split, Left, Right, Case, Call, Add, Less}
use Rattle.plan.specs.Kinds.{kids_of}
use Rattle.plan.specs.Limits.{max_params}
use Rattle.plan.specs.Trees.{Term, Leg, flat}
use Rattle.typer.specs.Levels.{levels}

-- behind the first kid
abbrev pub inner_depth : ℕ → Node → ℕ
inner_depth d Unit' = d
inner_depth d (Number n) = d
inner_depth d (Name l) = d
inner_depth d (Let k) = d + 1
inner_depth d (Take k) = d + 1
inner_depth d Pair = d
inner_depth d (Split k) = d + 2
inner_depth d (Left y) = d
inner_depth d (Right y) = d
inner_depth d (Case k) = d + 1
inner_depth d (Call l n) = d
inner_depth d Add = d
inner_depth d Less = d

abbrev pub kid_depth : ℕ → Node → ℕ → ℕ
kid_depth d o zero = d
kid_depth d o (suc k) = inner_depth d o

abbrev pub kid_levels : ℕ → Node → ℕ → List Term → List ℕ
kid_levels d o k [] = []
kid_levels d o k (a ∷ ts) = levels (kid_depth d o k) a ++ kid_levels d o (suc k) ts

-- No node has more kids than a leg may have parameters.
abbrev pub FewKids : List Node → Type 0
FewKids [] = Unit {0}
FewKids (o ∷ os) = (kids_of o ≤ max_params) × FewKids os

-- That holds of every leg's body.
abbrev pub BodiesFew : List Leg → Type 0
BodiesFew [] = Unit {0}
BodiesFew (g ∷ gs) = FewKids (flat g.body) × BodiesFew gs
