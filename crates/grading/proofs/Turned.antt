-- The legs from the last to the first, by their numbers. Assumes nothing.
use Rattle.std.proofs.Common.{◌≡◌, ℕ, zero, suc, ◌+◌, ◌<◌, Bool, cond, List, [], ◌∷◌, ◌++◌, length, get_or, sym, refl, ap, ◌∙◌, add-zero, zero-add, arith}
use Rattle.std.proofs.lemmas.Bool.{eq-eqb, ne_eqb}
use Rattle.plan.specs.Trees.{Leg, Plan}
use Rattle.grading.specs.Grading.{turned, last_first, at, no_leg}

-- one more leg stands in front
pub turned_push : (below gs : List Leg) (g : Leg) → turned below (gs ++ g ∷ []) ≡ g ∷ turned below gs
turned_push below [] g = refl
turned_push below (h ∷ gs) g = turned_push (h ∷ below) gs g

pub turned_length : (below gs : List Leg) → length (turned below gs) ≡ length below + length gs
turned_length below [] = sym (add-zero (length below))
turned_length below (g ∷ gs) = let e = turned_length (g ∷ below) gs in omega arith

-- those behind keep their numbers
at_behind : (below gs : List Leg) (i : ℕ) → i < length below → at no_leg (turned below gs) i ≡ at no_leg below i
at_behind below [] i lt = refl
at_behind below (g ∷ gs) i lt =
    at_behind (g ∷ below) gs i (omega arith)
    ∙ ap (λ (b : Bool). cond b g (at no_leg below i)) (ne_eqb i (length below) (λ e. omega arith))

at_turned : (below gs : List Leg) (j : ℕ) → j < length gs → at no_leg (turned below gs) (length below + j) ≡ get_or gs j no_leg
at_turned below [] j lt = absurd (omega arith)
at_turned below (g ∷ gs) zero lt =
    ap (at no_leg (turned (g ∷ below) gs)) (add-zero (length below))
    ∙ at_behind (g ∷ below) gs (length below) (omega arith)
    ∙ ap (λ (b : Bool). cond b g (at no_leg below (length below))) (eq-eqb (length below) (length below) refl)
at_turned below (g ∷ gs) (suc j) lt =
    ap (at no_leg (turned (g ∷ below) gs)) (let e : length below + suc j ≡ suc (length below) + j = omega arith in e)
    ∙ at_turned (g ∷ below) gs j (omega arith)

-- a plan's leg has the same number in both orders
pub leg_at : (p : Plan) (i : ℕ) → i < length p.legs → at no_leg (last_first p) i ≡ get_or p.legs i no_leg
leg_at p i lt = ap (at no_leg (last_first p)) (sym (zero-add i)) ∙ at_turned [] p.legs i lt
