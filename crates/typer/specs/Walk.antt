-- The typer's walk, one node at a time: the scope of each kid, and the node's type from its kids' types. Assumes nothing.
use Rattle.std.specs.Prelude.{◌≡◌, ℕ, ◌+◌, Bool, cond, ◌&&◌, List, [], ◌∷◌, ◌++◌, length, take, reverse, Ok, Err, Result, ◌==◌, slice_index_or, vec_items}
use Rattle.std.specs.List.{slice_get, list_all}
use Rattle.plan.specs.declared.TypeId.{TypeId}
use Rattle.plan.specs.declared.Type.{«Type» as Shape}
use Rattle.plan.specs.declared.Type.TheVariants.{Pair as PairType}
use Rattle.plan.specs.declared.Leg.{Leg as FlatLeg}
use Rattle.plan.specs.declared.Plan.{Plan as FlatPlan}
use Rattle.plan.specs.declared.Node.{Node}
use Rattle.plan.specs.declared.Node.TheVariants.{Unit as Unit', Number, Name, Let, Take, Pair, Split, Left, Right, Case, Call, Add, Less}
use Rattle.plan.specs.declared.faults.TypeFault.{TypeFault}
use Rattle.plan.specs.declared.LegId.{LegId}
use Rattle.plan.specs.Trees.{Term, the_binder}
use Rattle.plan.specs.Plans.{params_of}
use Rattle.typer.specs.Typing.{Sig, World, Reached, then_type, there_at, named_at, if_room, if_same, pair_parts, either_parts, call_result, check, found, number_of, size, unit_type, number_type, truth_type, same_id}

-- A scope that is kept from outside in, with the innermost level first.
abbrev pub scope_of : List TypeId → List TypeId
scope_of ys = reverse ys

abbrev pub kid_at : List TypeId → ℕ → TypeId
kid_at us k = slice_index_or us k unit_type

abbrev pub no_leg : FlatLeg
no_leg = record { params = record { items = []; spare = [] }; result = unit_type; first = 0; binder = the_binder 0 }

abbrev pub sigs_of : List FlatLeg → List Sig
sigs_of [] = []
sigs_of (g ∷ gs) = record { params = params_of g; result = g.result } ∷ sigs_of gs

-- what main has to be
abbrev pub deals_in_numbers : List TypeId → TypeId → Bool
deals_in_numbers ps y = list_all (λ p. same_id p number_type) ps && same_id y number_type

abbrev pub world : List Shape → List FlatLeg → World
world ts gs = record { types = ts; sigs = sigs_of gs }

abbrev pub world_in : FlatPlan → World
world_in p = world (vec_items p.types) (vec_items p.legs)

-- The kept scope `new` is the definition's, and `old` with more levels inside.
abbrev pub Opens : Reached (List TypeId) → List TypeId → Result (Unit {0}) TypeFault → List TypeId → Type 0
Opens g old (Ok u) new = (g ≡ Ok (scope_of new)) × (take (length old) new ≡ old)
Opens g old (Err e) new = g ≡ Err e

-- A scope with more levels, the last of them innermost, if there is room for all.
abbrev pub opened : ℕ → List TypeId → List TypeId → Reached (List TypeId)
opened i Γ ys = if_room i (length ys) Γ (Ok (scope_of ys ++ Γ))

-- a case binds the left side in its second kid, the right side in its third
abbrev pub side : ℕ → TypeId × TypeId → TypeId
side n p = cond (n == 1) p.0 p.1

-- The scope of the next kid behind n others, the first of which has the type x.
abbrev pub inner_scope : World → List TypeId → ℕ → Node → TypeId → ℕ → Reached (List TypeId)
inner_scope w Γ i Unit' x n = Ok Γ
inner_scope w Γ i (Number v) x n = Ok Γ
inner_scope w Γ i (Name l) x n = Ok Γ
inner_scope w Γ i (Let k) x n = opened i Γ (x ∷ [])
inner_scope w Γ i (Take k) x n = opened i Γ (x ∷ [])
inner_scope w Γ i Pair x n = Ok Γ
inner_scope w Γ i (Split k) x n = then_type (there_at i (pair_parts (slice_get w.types x.index))) (λ p. opened i Γ (p.0 ∷ p.1 ∷ []))
inner_scope w Γ i (Left y) x n = Ok Γ
inner_scope w Γ i (Right y) x n = Ok Γ
inner_scope w Γ i (Case k) x n = then_type (there_at i (either_parts (slice_get w.types x.index))) (λ p. opened i Γ (side n p ∷ []))
inner_scope w Γ i (Call l a) x n = Ok Γ
inner_scope w Γ i Add x n = Ok Γ
inner_scope w Γ i Less x n = Ok Γ

-- The first kid stands in the node's own scope.
abbrev pub kid_scope : World → List TypeId → ℕ → Node → List TypeId → Reached (List TypeId)
kid_scope w Γ i o us = cond (length us == 0) (Ok Γ) (inner_scope w Γ i o (kid_at us 0) (length us))

abbrev pub call_type : ℕ → List Sig → LegId → List TypeId → Reached TypeId
call_type i sigs l us = then_type (there_at i (slice_get sigs l.index)) (λ g. call_result i us g)

abbrev pub two_numbers : ℕ → List TypeId → TypeId → Reached TypeId
two_numbers i us y = if_same i (kid_at us 0) number_type (if_same i (kid_at us 1) number_type (Ok y))

-- The type of a node whose kids have the types us.
abbrev pub node_type : World → List TypeId → ℕ → Node → List TypeId → Reached TypeId
node_type w Γ i Unit' us = Ok unit_type
node_type w Γ i (Number n) us = Ok number_type
node_type w Γ i (Name l) us = named_at i (found Γ l.index)
node_type w Γ i (Let k) us = Ok (kid_at us 1)
node_type w Γ i (Take k) us = Ok (kid_at us 1)
node_type w Γ i Pair us = there_at i (number_of (PairType (kid_at us 0) (kid_at us 1)) w.types)
node_type w Γ i (Split k) us = Ok (kid_at us 1)
node_type w Γ i (Left y) us = then_type (there_at i (either_parts (slice_get w.types y.index))) (λ p. if_same i (kid_at us 0) p.0 (Ok y))
node_type w Γ i (Right y) us = then_type (there_at i (either_parts (slice_get w.types y.index))) (λ p. if_same i (kid_at us 0) p.1 (Ok y))
node_type w Γ i (Case k) us = if_same i (kid_at us 1) (kid_at us 2) (Ok (kid_at us 1))
node_type w Γ i (Call l n) us = call_type i w.sigs l us
node_type w Γ i Add us = two_numbers i us number_type
node_type w Γ i Less us = two_numbers i us truth_type

-- Kids from the place p on, checked one after another; those before them have the types us.
abbrev pub check_kids : World → List TypeId → ℕ → Node → List TypeId → ℕ → List Term → Reached (List TypeId)
check_kids w Γ i o us p [] = Ok us
check_kids w Γ i o us p (a ∷ ts) =
    then_type (kid_scope w Γ i o us) (λ Δ. then_type (check w Δ p a) (λ u. check_kids w Γ i o (us ++ (u ∷ [])) (p + size a) ts))
