-- The kinds of a plan's binders, by the binders' numbers. Assumes nothing.
use Rattle.std.specs.Prelude.{ℕ, List, [], ◌∷◌, ◌++◌, length, replicate}
use Rattle.std.specs.List.{flat_map}
use Rattle.plan.specs.declared.Node.{Node}
use Rattle.plan.specs.declared.Node.TheVariants.{Unit as Unit', Number, Name, Let as LetNode, Take as TakeNode, Pair, Split, Left as LeftNode, Right as RightNode, Case, Call, Add, Less}
use Rattle.plan.specs.Trees.{Leg, Plan, flat}
use Rattle.listing.specs.declared.BinderKind.{BinderKind}
use Rattle.listing.specs.declared.BinderKind.TheVariants.{Param, Let, Take, First, Second, Left, Right}

-- what a node binds
abbrev pub bound_by : Node → List BinderKind
bound_by Unit' = []
bound_by (Number v) = []
bound_by (Name l) = []
bound_by (LetNode k) = Let ∷ []
bound_by (TakeNode k) = Take ∷ []
bound_by Pair = []
bound_by (Split k) = First ∷ Second ∷ []
bound_by (LeftNode y) = []
bound_by (RightNode y) = []
bound_by (Case k) = Left ∷ Right ∷ []
bound_by (Call l n) = []
bound_by Add = []
bound_by Less = []

abbrev pub bound_in : List Node → List BinderKind
bound_in os = flat_map bound_by os

abbrev pub params : ℕ → List BinderKind
params n = replicate n Param

-- A leg's parameters, then what its nodes bind, in their order.
abbrev pub leg_kinds : List Leg → List BinderKind
leg_kinds gs = flat_map (λ g. params (length g.params) ++ bound_in (flat g.body)) gs

abbrev pub binder_kinds : Plan → List BinderKind
binder_kinds p = leg_kinds p.legs
