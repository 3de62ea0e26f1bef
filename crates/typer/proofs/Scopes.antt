-- What the code looks up in slices is what the definitions look up. Assumes nothing.
use Rattle.std.proofs.Common.{◌≡◌, ℕ, zero, suc, ◌+◌, Bool, true, false, cond, not, eqb, ltb, List, [], ◌∷◌, ◌++◌, length, position, reverse, Some, None, Ok, Err, sym, refl, ap, ◌∙◌, arith}
use Rattle.std.proofs.lemmas.List.{reverse-reverse, length-reverse}
use Rattle.std.proofs.lemmas.Grind.{reverse_onto}
use Rattle.std.specs.List.{slice_get, position_or_len}
use Rattle.std.specs.Option.{option_map}
use Rattle.plan.specs.declared.TypeId.{TypeId}
use Rattle.plan.specs.declared.Type.{«Type» as Shape}
use Rattle.plan.specs.declared.Leg.{Leg as FlatLeg}
use Rattle.plan.specs.declared.LegId.{LegId}
use Rattle.plan.specs.declared.faults.TypeFault.TheVariants.{«Type» as BadType}
use Rattle.plan.specs.Written.{same_type}
use Rattle.plan.specs.Plans.{params_of}
use Rattle.typer.specs.Typing.{Sig, found, one_more, place_of, same_list, then_type, there_at, call_result}
use Rattle.typer.specs.Walk.{scope_of, sigs_of, call_type}

get_behind : (ys : List TypeId) (y : TypeId) (l : ℕ) → slice_get (ys ++ y ∷ []) l ≡ cond (eqb l (length ys)) (Some y) (slice_get ys l)
get_behind [] y zero = refl
get_behind [] y (suc l) = grind arith
get_behind (x ∷ ys) y zero = grind arith
get_behind (x ∷ ys) y (suc l) = grind (arith, get_behind ys y l)

found_turned : (Γ : List TypeId) (l : ℕ) → found Γ l ≡ slice_get (reverse Γ) l
found_turned [] l = refl
found_turned (y ∷ Γ) l =
    ap (λ n. cond (eqb l n) (Some y) (found Γ l)) (sym (length-reverse Γ)) ∙ ap (λ o. cond (eqb l (length (reverse Γ))) (Some y) o) (found_turned Γ l) ∙ sym (get_behind (reverse Γ) y l)
    ∙ ap (λ zs. slice_get zs l) (sym (reverse_onto Γ y []))

pub found_kept : (ys : List TypeId) (l : ℕ) → found (scope_of ys) l ≡ slice_get ys l
found_kept ys l = found_turned (reverse ys) l ∙ ap (λ zs. slice_get zs l) (reverse-reverse ys)

place_step : (b : Bool) (k n : ℕ) → cond (ltb (cond (not b) (1 + k) 0) (suc n)) (Some (cond (not b) (1 + k) 0)) None ≡ cond b (Some 0) (one_more (cond (ltb k n) (Some k) None))
place_step true k n = grind arith
place_step false k n = grind arith

pub place_is : (y : Shape) (ts : List Shape) → position (λ x. same_type x y) ts ≡ place_of y ts
place_is y [] = refl
place_is y (x ∷ ts) = place_step (same_type x y) (position_or_len (λ z. same_type z y) ts) (length ts) ∙ ap (λ o. cond (same_type x y) (Some 0) (one_more o)) (place_is y ts)

abbrev sig_in : FlatLeg → Sig
sig_in g = record { params = params_of g; result = g.result }

sigs_get : (gs : List FlatLeg) (l : ℕ) → slice_get (sigs_of gs) l ≡ option_map sig_in (slice_get gs l)
sigs_get [] l = refl
sigs_get (g ∷ gs) zero = refl
sigs_get (g ∷ gs) (suc l) = sigs_get gs l

pub call_there : (i : ℕ) (gs : List FlatLeg) (l : LegId) (g : FlatLeg) (us : List TypeId) (b : Bool) → slice_get gs l.index ≡ Some g → same_list us (params_of g) ≡ b
    → call_type i (sigs_of gs) l us ≡ cond b (Ok g.result) (Err (BadType i))
call_there i gs l g us b there e =
    ap (λ o. then_type (there_at i o) (λ s. call_result i us s)) (sigs_get gs l.index ∙ ap (option_map sig_in) there) ∙ ap (λ x. cond x (Ok g.result) (Err (BadType i))) e

pub call_past : (i : ℕ) (gs : List FlatLeg) (l : LegId) (us : List TypeId) → slice_get gs l.index ≡ None → call_type i (sigs_of gs) l us ≡ Err (BadType i)
call_past i gs l us past = ap (λ o. then_type (there_at i o) (λ s. call_result i us s)) (sigs_get gs l.index ∙ ap (option_map sig_in) past)
