-- Plans as trees, and their nodes in prefix order. Assumes nothing.
use Rattle.std.specs.Prelude.{ℕ, zero, suc, List, [], ◌∷◌, ◌++◌}
use Rattle.std.proofs.Math.Option.{Option, some, none}
use Rattle.plan.specs.declared.Type.{«Type» as Shape}
use Rattle.plan.specs.declared.TypeId.{TypeId}
use Rattle.plan.specs.declared.LegId.{LegId}
use Rattle.plan.specs.declared.Level.{Level}
use Rattle.plan.specs.declared.Binder.{Binder}
use Rattle.plan.specs.declared.Node.{Node}
use Rattle.plan.specs.declared.Node.TheVariants.{Unit as Unit', Number, Name, Let, Take, Pair, Split, Left, Right, Case, Call, Add, Less}

abbrev pub the_type : ℕ → TypeId
the_type n = record { index = n }

abbrev pub the_leg : ℕ → LegId
the_leg n = record { index = n }

abbrev pub the_level : ℕ → Level
the_level n = record { index = n }

abbrev pub the_binder : ℕ → Binder
the_binder n = record { index = n }

mutual
  -- A binding node holds its first binder's number: a split binds it and the next, a case the one on the left and the next on the right.
  pub data Term : Type 0 where
    t_unit : Term
    t_number : ℕ → Term
    t_name : ℕ → Term
    t_let : ℕ → Term → Term → Term
    t_take : ℕ → Term → Term → Term
    t_pair : Term → Term → Term
    t_split : ℕ → Term → Term → Term
    t_left : TypeId → Term → Term
    t_right : TypeId → Term → Term
    t_case : ℕ → Term → Term → Term → Term
    t_call : ℕ → Terms → Term
    t_add : Term → Term → Term
    t_less : Term → Term → Term

  pub data Terms : Type 0 where
    t_none : Terms
    t_more : Term → Terms → Terms

abbrev pub how_many : Terms → ℕ
how_many t_none = 0
how_many (t_more a ts) = suc (how_many ts)

pub record Leg : Type 0 where
  pub params : List TypeId
  pub result : TypeId
  pub first : ℕ
  pub body : Term

-- The entries are those of the table, numbered from 3.
pub record Plan : Type 0 where
  pub entries : List Shape
  pub legs : List Leg

-- A node, then its kids.
abbrev mutual
  pub flat : Term → List Node
  flat t_unit = Unit' ∷ []
  flat (t_number n) = Number n ∷ []
  flat (t_name l) = Name (the_level l) ∷ []
  flat (t_let k a b) = Let (the_binder k) ∷ (flat a ++ flat b)
  flat (t_take k a b) = Take (the_binder k) ∷ (flat a ++ flat b)
  flat (t_pair a b) = Pair ∷ (flat a ++ flat b)
  flat (t_split k a b) = Split (the_binder k) ∷ (flat a ++ flat b)
  flat (t_left y a) = Left y ∷ flat a
  flat (t_right y a) = Right y ∷ flat a
  flat (t_case k a b c) = Case (the_binder k) ∷ (flat a ++ (flat b ++ flat c))
  flat (t_call l ts) = Call (the_leg l) (how_many ts) ∷ flats ts
  flat (t_add a b) = Add ∷ (flat a ++ flat b)
  flat (t_less a b) = Less ∷ (flat a ++ flat b)

  pub flats : Terms → List Node
  flats t_none = []
  flats (t_more a ts) = flat a ++ flats ts

-- The node of an expression, and its kids in order.
abbrev pub head : Term → Node
head t_unit = Unit'
head (t_number n) = Number n
head (t_name l) = Name (the_level l)
head (t_let k a b) = Let (the_binder k)
head (t_take k a b) = Take (the_binder k)
head (t_pair a b) = Pair
head (t_split k a b) = Split (the_binder k)
head (t_left y a) = Left y
head (t_right y a) = Right y
head (t_case k a b c) = Case (the_binder k)
head (t_call l ts) = Call (the_leg l) (how_many ts)
head (t_add a b) = Add
head (t_less a b) = Less

abbrev pub arguments : Terms → List Term
arguments t_none = []
arguments (t_more a ts) = a ∷ arguments ts

abbrev pub kids : Term → List Term
kids t_unit = []
kids (t_number n) = []
kids (t_name l) = []
kids (t_let k a b) = a ∷ b ∷ []
kids (t_take k a b) = a ∷ b ∷ []
kids (t_pair a b) = a ∷ b ∷ []
kids (t_split k a b) = a ∷ b ∷ []
kids (t_left y a) = a ∷ []
kids (t_right y a) = a ∷ []
kids (t_case k a b c) = a ∷ b ∷ c ∷ []
kids (t_call l ts) = arguments ts
kids (t_add a b) = a ∷ b ∷ []
kids (t_less a b) = a ∷ b ∷ []

-- The other way: nodes read from the last to the first, with the expressions begun behind a node in a list; none if one lacks a kid.
abbrev pub Stack : Type 0
Stack = Option (List Term)

abbrev pub one : (Term → Term) → List Term → Stack
one f [] = none
one f (a ∷ ts) = some (f a ∷ ts)

abbrev pub two : (Term → Term → Term) → List Term → Stack
two f [] = none
two f (a ∷ []) = none
two f (a ∷ b ∷ ts) = some (f a b ∷ ts)

abbrev pub three : (Term → Term → Term → Term) → List Term → Stack
three f [] = none
three f (a ∷ []) = none
three f (a ∷ b ∷ []) = none
three f (a ∷ b ∷ c ∷ ts) = some (f a b c ∷ ts)

-- as many as counted, in front of the others
abbrev pub more_taken : Term → Option (Terms × List Term) → Option (Terms × List Term)
more_taken a none = none
more_taken a (some p) = some (t_more a p.0, p.1)

abbrev pub taken : ℕ → List Term → Option (Terms × List Term)
taken zero ts = some (t_none, ts)
taken (suc n) [] = none
taken (suc n) (a ∷ ts) = more_taken a (taken n ts)

abbrev pub called : ℕ → Option (Terms × List Term) → Stack
called l none = none
called l (some p) = some (t_call l p.0 ∷ p.1)

abbrev pub on : Node → List Term → Stack
on Unit' ts = some (t_unit ∷ ts)
on (Number n) ts = some (t_number n ∷ ts)
on (Name l) ts = some (t_name l.index ∷ ts)
on (Let k) ts = two (t_let k.index) ts
on (Take k) ts = two (t_take k.index) ts
on Pair ts = two t_pair ts
on (Split k) ts = two (t_split k.index) ts
on (Left y) ts = one (t_left y) ts
on (Right y) ts = one (t_right y) ts
on (Case k) ts = three (t_case k.index) ts
on (Call l n) ts = called l.index (taken n ts)
on Add ts = two t_add ts
on Less ts = two t_less ts

abbrev pub on_some : Node → Stack → Stack
on_some o none = none
on_some o (some ts) = on o ts

abbrev pub stack : List Node → Stack
stack [] = some []
stack (o ∷ os) = on_some o (stack os)
