-- The kinds of binder, as they are printed. Assumes nothing.
use Rattle.std.specs.Prelude.{ℕ, List, codes}
use Rattle.listing.specs.declared.BinderKind.{BinderKind}
use Rattle.listing.specs.declared.BinderKind.TheVariants.{Param, Let, Take, First, Second, Left, Right}

abbrev pub kind_name : BinderKind → List ℕ
kind_name Param = codes "param"
kind_name Let = codes "let"
kind_name Take = codes "take"
kind_name First = codes "first"
kind_name Second = codes "second"
kind_name Left = codes "left"
kind_name Right = codes "right"
