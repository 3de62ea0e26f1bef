-- The thirteen kinds of node: the field that each may have, how many kids and how many binders. Assumes nothing.
use Rattle.std.specs.Prelude.{◌≡◌, ℕ, ◌/◌, ◌%◌, ◌<◌, cond, List, [], ◌∷◌, Some, None, Option, Ok, Err, Result, ◌==◌, nat_le, slice_index_or}
use Rattle.plan.specs.declared.Node.{Node}
use Rattle.plan.specs.declared.Node.TheVariants.{Unit as Unit', Number, Name, Let, Take, Pair, Split, Left, Right, Case, Call, Add, Less}
use Rattle.plan.specs.declared.kinds.Field.{Field}
use Rattle.plan.specs.declared.kinds.Field.TheVariants.{Absent, Byte, Number as Word}
use Rattle.plan.specs.declared.kinds.Kids.{Kids}
use Rattle.plan.specs.declared.kinds.Kids.TheVariants.{Fixed, Arguments}
use Rattle.plan.specs.declared.kinds.Kind.{Kind}
use Rattle.plan.specs.declared.kinds.NodeKind.{NodeKind}
use Rattle.plan.specs.declared.kinds.NodeKind.TheVariants.{Unit as KUnit, Number as KNumber, Name as KName, Let as KLet, Take as KTake, Pair as KPair, Split as KSplit, Left as KLeft, Right as KRight, Case as KCase, Call as KCall, Add as KAdd, Less as KLess}
use Rattle.plan.specs.declared.kinds.UnknownKind.{UnknownKind}

abbrev kind : Field → Kids → ℕ → Kind
kind f c b = record { field = f; kids = c; binders = b }

-- By their numbers: unit, number, name, let, take, pair, split, left, right, case, call, add, less.
abbrev pub kinds : List Kind
kinds =
    kind Absent (Fixed 0) 0
    ∷ kind Word (Fixed 0) 0
    ∷ kind Byte (Fixed 0) 0
    ∷ kind Absent (Fixed 2) 1
    ∷ kind Absent (Fixed 2) 1
    ∷ kind Absent (Fixed 2) 0
    ∷ kind Absent (Fixed 2) 2
    ∷ kind Byte (Fixed 1) 0
    ∷ kind Byte (Fixed 1) 0
    ∷ kind Absent (Fixed 3) 2
    ∷ kind Byte Arguments 0
    ∷ kind Absent (Fixed 2) 0
    ∷ kind Absent (Fixed 2) 0
    ∷ []

abbrev pub rule : ℕ → Kind
rule k = slice_index_or kinds k (kind Absent (Fixed 0) 0)

-- The number that stands for a kind in a node's first byte.
abbrev pub number_of : NodeKind → ℕ
number_of KUnit = 0
number_of KNumber = 1
number_of KName = 2
number_of KLet = 3
number_of KTake = 4
number_of KPair = 5
number_of KSplit = 6
number_of KLeft = 7
number_of KRight = 8
number_of KCase = 9
number_of KCall = 10
number_of KAdd = 11
number_of KLess = 12

-- Each number below 13 is that of one kind, and no other number is.
abbrev pub Numbered : ℕ → Result NodeKind UnknownKind → Type 0
Numbered n (Ok k) = number_of k ≡ n
Numbered n (Err e) = (12 < n) × (e.number ≡ n)

abbrev pub kind_of : Node → ℕ
kind_of Unit' = 0
kind_of (Number v) = 1
kind_of (Name l) = 2
kind_of (Let k) = 3
kind_of (Take k) = 4
kind_of Pair = 5
kind_of (Split k) = 6
kind_of (Left y) = 7
kind_of (Right y) = 8
kind_of (Case k) = 9
kind_of (Call l n) = 10
kind_of Add = 11
kind_of Less = 12

abbrev pub arguments_of : Node → ℕ
arguments_of Unit' = 0
arguments_of (Number v) = 0
arguments_of (Name l) = 0
arguments_of (Let k) = 0
arguments_of (Take k) = 0
arguments_of Pair = 0
arguments_of (Split k) = 0
arguments_of (Left y) = 0
arguments_of (Right y) = 0
arguments_of (Case k) = 0
arguments_of (Call l n) = n
arguments_of Add = 0
arguments_of Less = 0

abbrev pub how_many_kids : Kids → ℕ → ℕ
how_many_kids (Fixed c) arguments = c
how_many_kids Arguments arguments = arguments

abbrev pub kids_of : Node → ℕ
kids_of n = how_many_kids (rule (kind_of n)).kids (arguments_of n)

abbrev pub binders : Node → ℕ
binders n = (rule (kind_of n)).binders

-- The low four bits of a node's first byte are its kind; bit 4 announces a field of one byte, bit 5 one of four, if the kind has such a field.
abbrev pub announced : ℕ → ℕ → Field → Option (ℕ × Field)
announced bits k Absent = cond (bits == 0) (Some (k, Absent)) None
announced bits k Byte = cond (bits == 0) (Some (k, Absent)) (cond (bits == 1) (Some (k, Byte)) None)
announced bits k Word = cond (bits == 0) (Some (k, Absent)) (cond (bits == 2) (Some (k, Word)) None)

abbrev pub shape_of : ℕ → Option (ℕ × Field)
shape_of head = cond (nat_le (head % 16) 12) (announced (head / 16) (head % 16) (rule (head % 16)).field) None

-- a shape with its kind's number for the kind
abbrev pub by_number : Option (NodeKind × Field) → Option (ℕ × Field)
by_number None = None
by_number (Some (k, f)) = Some (number_of k, f)
