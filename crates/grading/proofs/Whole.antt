-- The laws of the least grades of a plan. Assumes nothing.
use Rattle.std.proofs.Common.{◌≡◌, ℕ, zero, suc, ◌+◌, ◌<◌, ◌≤◌, List, [], ◌∷◌, map, length, get_or, sym, refl, ap, ◌∙◌, subst, zero-add, arith}
use lib.ListN.{length-map}
use Rattle.std.proofs.lemmas.List.{get_or-map}
use Rattle.scales.specs.Laws.{Ops, Laws}
use Rattle.scales.specs.declared.scale.Ceiling.{Ceiling}
use Rattle.scales.specs.declared.scale.Ceiling.TheVariants.{Count}
use Rattle.plan.specs.Limits.{max_params}
use Rattle.plan.specs.Trees.{Leg, Plan}
use Rattle.grading.specs.Grading.{last_first, arity, Allowed, Leq}
use Rattle.grading.specs.Least.{param_needs, leg_needs, from_0, least, least_grading, first_of, first_grades, filled}
use Rattle.grading.specs.Laws.{Accepted, StoresLeast, LeastAllowed, LeastLeast, CeilingsOf}
use Rattle.grading.proofs.Binders.{EachBinder}
use Rattle.grading.proofs.AtMost.{Under, legs_least, nodes_least}
use Rattle.grading.proofs.AreAllowed.{Has, contexts_allowed, legs_graded}
use Rattle.grading.proofs.Numbers.{listed_at, listed_by, from_0_length}
use Rattle.grading.proofs.Standing.{LegsStand, types_of, accepted_stands, accepted_formed, legs_counted, each_from, each_to}

from_0_at : {G : Type 0} (n : ℕ) (γ : ℕ → G) (d : G) (i : ℕ) → i < n → get_or (from_0 n γ) i d ≡ γ i
from_0_at zero γ d i lt = absurd (omega arith)
from_0_at (suc n) γ d zero lt = refl
from_0_at (suc n) γ d (suc i) lt = from_0_at n (λ l. γ (suc l)) d i (omega arith)

first_counted : {G : Type 0} (o : Ops G) (legs : List Leg) → length (first_grades o legs) ≡ arity (first_of legs)
first_counted o [] = refl
first_counted o (g ∷ legs) = from_0_length (arity g) (param_needs o (leg_needs o legs) g)

first_has : {G : Type 0} (o : Ops G) (R : ℕ → G) (legs : List Leg) → EachBinder o (Has R) legs
    → (i : ℕ) → i < arity (first_of legs) → R ((first_of legs).first + i) ≡ get_or (first_grades o legs) i o.zero
first_has o R [] h i lt = absurd (omega arith)
first_has o R (g ∷ legs) h i lt = h.0 i lt ∙ sym (from_0_at (arity g) (param_needs o (leg_needs o legs) g) o.zero i lt)

first_few : (types : ℕ) (legs : List Leg) → LegsStand types legs → arity (first_of legs) ≤ max_params
first_few types [] h = omega arith
first_few types (g ∷ legs) h = h.0.few

-- ---- eight ceilings

filled_length : (n : ℕ) (cs : List Ceiling) → length (filled n cs) ≡ n
filled_length zero cs = refl
filled_length (suc n) [] = ap suc (filled_length n [])
filled_length (suc n) (c ∷ cs) = ap suc (filled_length n cs)

filled_at : (n : ℕ) (cs : List Ceiling) (d : Ceiling) (i : ℕ) → i < n → i < length cs → get_or (filled n cs) i d ≡ get_or cs i d
filled_at zero cs d i lt le = absurd (omega arith)
filled_at (suc n) [] d i lt le = absurd (omega arith)
filled_at (suc n) (c ∷ cs) d zero lt le = refl
filled_at (suc n) (c ∷ cs) d (suc i) lt le = filled_at n cs d i (omega arith) (omega arith)

filled_past : (n : ℕ) (cs : List Ceiling) (i : ℕ) → length cs ≤ i → get_or (filled n cs) i (Count 0) ≡ Count 0
filled_past zero cs i le = refl
filled_past (suc n) [] zero le = refl
filled_past (suc n) [] (suc i) le = filled_past n [] i (omega arith)
filled_past (suc n) (c ∷ cs) zero le = absurd (omega arith)
filled_past (suc n) (c ∷ cs) (suc i) le = filled_past n cs i (omega arith)

module _ {G : Type 0} (o : Ops G) where
  -- the k-th of the list is what the binder k needs
  pub least_has : (p : Plan) → Accepted p → EachBinder o (Has (least_grading o p)) (last_first p)
  least_has p h =
      each_from o (Has (least_grading o p)) (types_of p) (last_first p) (accepted_stands p h.0)
      (listed_by (Has (least_grading o p)) (least o p) o.zero 0 (λ i lt. ap (least_grading o p) (zero-add i)))

  pub least_at_stores : (p : Plan) → Accepted p → StoresLeast o (least_grading o p) p
  least_at_stores p h = first_has o (least_grading o p) (last_first p) (least_has p h)

  pub ceilings_of : CeilingsOf o
  ceilings_of = record {
    eight = λ p. filled_length max_params (map o.ceiling (first_grades o (last_first p)));
    of_stores = λ p h i lt.
        let gs : List G = first_grades o (last_first p) in
        let few = first_few (types_of p) (last_first p) (accepted_stands p h.0) in
        let e = first_counted o (last_first p) in
        let m = length-map gs o.ceiling in
        filled_at max_params (map o.ceiling gs) (Count 0) i (omega arith) (omega arith)
        ∙ get_or-map o.ceiling gs i o.zero (Count 0) (omega arith);
    beyond = λ p i le.
        let gs : List G = first_grades o (last_first p) in
        let e = first_counted o (last_first p) in
        let m = length-map gs o.ceiling in
        filled_past max_params (map o.ceiling gs) i (omega arith);
  }

module _ {G : Type 0} {o : Ops G} (L : Laws o) where
  least_is_allowed : (p : Plan) → Accepted p → Allowed o (least_grading o p) p
  least_is_allowed p h = legs_graded L (least_grading o p) (last_first p) (accepted_formed p h) (least_has o p h)

  pub least_allowed : LeastAllowed o
  least_allowed = record {
    allowed = least_is_allowed;
    at_nodes = λ p h. contexts_allowed L (least_grading o p) (last_first p) (accepted_formed p h) (least_has o p h);
    counted = λ p. legs_counted o (last_first p);
    at_stores = λ p h. (least_grading o p, least_is_allowed p h, least_at_stores o p h);
  }

  least_at_binders : (p : Plan) → Accepted p → (R : ℕ → G) → Allowed o R p → (k : ℕ) → k < length (least o p) → Leq o (least_grading o p k) (R k)
  least_at_binders p h R al k lt =
      subst (λ (i : ℕ). Leq o (least_grading o p k) (R i)) (zero-add k)
      (listed_at (Under o R) (least o p) o.zero 0 k
      (each_to o (Under o R) (types_of p) (last_first p) (accepted_stands p h.0) (legs_least L R (last_first p) al)) lt)

  pub least_least : LeastLeast o
  least_least = record { at_binders = least_at_binders; at_nodes = λ R legs al. nodes_least L R legs al }
