-- What is listed of a plan, and how a listing prints. Assumes nothing.
use Rattle.std.specs.Prelude.{◌≡◌, ℕ, zero, suc, List, [], ◌++◌, Ok, Err, vec_items, vec_len, codes, decimal, Result, Vec, ◌≢◌, slice_index_or}
use Rattle.scales.specs.Laws.{Ops}
use Rattle.scales.specs.Tally.{tally_ops}
use Rattle.scales.specs.Span.{span_ops, span_zero}
use Rattle.scales.specs.Set.{set_ops, set_zero}
use Rattle.scales.specs.Text.{tally_text, span_text, set_text}
use Rattle.scales.specs.declared.tally.Tally.TheVariants.{Zero}
use Rattle.plan.specs.declared.faults.PlanFault.TheVariants.{Read, Typing, Memory}
use Rattle.plan.specs.Trees.{Plan}
use Rattle.typer.specs.Accepted.{typed}
use Rattle.grading.specs.Least.{least, binder_count}
use Rattle.grader.specs.declared.faults.GradeFault.{GradeFault}
use Rattle.grader.specs.declared.faults.GradeFault.TheVariants.{Short, Plan as OfPlan}
use Rattle.listing.specs.declared.BinderKind.TheVariants.{Param}
use Rattle.listing.specs.declared.table.Listing.{Listing}
use Rattle.listing.specs.declared.table.Line.{Line}
use Rattle.listing.specs.Names.{kind_name}
use Rattle.listing.specs.Binders.{binder_kinds}

-- The kinds and the least grades of the plan's binders.
pub record Lists (p : Plan) (l : Listing) : Type 0 where
  pub kinds : vec_items l.kinds ≡ binder_kinds p
  pub tallies : vec_items l.tallies ≡ least tally_ops p
  pub spans : vec_items l.spans ≡ least span_ops p
  pub sets : vec_items l.sets ≡ least set_ops p

-- The listing of the plan of the bytes, or the reader's first fault, or else the typer's. Want of memory says nothing about the bytes.
abbrev pub ListingAnswer : List ℕ → Result Listing GradeFault → Type 0
ListingAnswer bs (Ok l) = (p : Plan) × (typed bs ≡ Ok p) × Lists p l
ListingAnswer bs (Err Short) = ⊥
ListingAnswer bs (Err (OfPlan (Read e))) = typed bs ≡ Err (Read e)
ListingAnswer bs (Err (OfPlan (Typing e))) = typed bs ≡ Err (Typing e)
ListingAnswer bs (Err (OfPlan Memory)) = Unit {0}

-- Why there are no least grades in a list of n places.
abbrev pub ColumnRefused : List ℕ → ℕ → GradeFault → Type 0
ColumnRefused bs n Short = (p : Plan) → typed bs ≡ Ok p → binder_count p ≢ n
ColumnRefused bs n (OfPlan (Read e)) = typed bs ≡ Err (Read e)
ColumnRefused bs n (OfPlan (Typing e)) = typed bs ≡ Err (Typing e)
ColumnRefused bs n (OfPlan Memory) = Unit {0}

-- The least grades under one scale, in a list of n places: they fill it, if the plan has n binders.
abbrev pub ColumnAnswer : {G Z : Type 0} → Ops G → List ℕ → ℕ → Result (Vec G Z) GradeFault → Type 0
ColumnAnswer o bs n (Ok v) = (vec_len v ≡ n) × ((p : Plan) → typed bs ≡ Ok p → binder_count p ≡ n → vec_items v ≡ least o p)
ColumnAnswer o bs n (Err e) = ColumnRefused bs n e

-- The line of the binder k.
abbrev pub line_at : Listing → ℕ → Line
line_at l k = record {
  binder = k;
  kind = slice_index_or (vec_items l.kinds) k Param;
  tally = slice_index_or (vec_items l.tallies) k Zero;
  span = slice_index_or (vec_items l.spans) k span_zero;
  set = slice_index_or (vec_items l.sets) k set_zero;
}

-- A binder's number, kind, tally, span and set, with a blank between them, and the end of the line.
abbrev pub line_text : Line → List ℕ
line_text l =
    decimal l.binder ++ (codes " " ++ (kind_name l.kind ++ (codes " " ++ (tally_text l.tally ++ (codes " " ++ (span_text l.span ++ (codes " " ++ (set_text l.set ++ codes "\n"))))))))

-- the lines of the binders below n
unfoldable pub lines_text : Listing → ℕ → List ℕ
lines_text l zero = []
lines_text l (suc n) = lines_text l n ++ line_text (line_at l n)

abbrev pub listing_text : Listing → List ℕ
listing_text l = codes "plan\n" ++ lines_text l (vec_len l.kinds)
