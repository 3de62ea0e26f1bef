-- A call of a leg, if the leg is there. Assumes nothing.
use Rattle.std.proofs.Common.{◌≡◌, ℕ, zero, suc, ◌<◌, ◌≤◌, cond, List, [], ◌∷◌, length, get_or, Some, None, Option, sym, refl, ap, ◌∙◌, arith, le-ltb, lt-ltb}
use Rattle.plan.specs.declared.Leg.{Leg as FlatLeg}
use Rattle.plan.specs.declared.Node.{Node}
use Rattle.plan.specs.declared.Node.TheVariants.{Call}
use Rattle.plan.specs.Plans.{params_of}
use Rattle.plan.specs.Trees.{the_leg}
use Rattle.reader.specs.Reading.{typed_node}
use Rattle.reader.specs.Replies.{arities_of}

arities_length : (gs : List FlatLeg) → length (arities_of gs) ≡ length gs
arities_length [] = refl
arities_length (g ∷ gs) = ap suc (arities_length gs)

arities_at : (gs : List FlatLeg) (i : ℕ) (d : FlatLeg) → i < length gs → get_or (arities_of gs) i 0 ≡ length (params_of (get_or gs i d))
arities_at [] i d h = absurd (omega arith)
arities_at (g ∷ gs) zero d h = refl
arities_at (g ∷ gs) (suc i) d h = arities_at gs i d (omega arith)

abbrev pub call_of : ℕ → List FlatLeg → Option Node
call_of v gs = typed_node (length (arities_of gs)) v (Call (the_leg v) (get_or (arities_of gs) v 0))

pub call_there : (v : ℕ) (gs : List FlatLeg) (d : FlatLeg) → v < length gs → Some (Call (the_leg v) (length (params_of (get_or gs v d)))) ≡ call_of v gs
call_there v gs d lt =
    let e = arities_length gs in
    ap (λ n. Some (Call (the_leg v) n)) (sym (arities_at gs v d lt)) ∙ sym (ap (λ b. cond b (Some (Call (the_leg v) (get_or (arities_of gs) v 0))) None) (lt-ltb v (length (arities_of gs)) (omega arith)))

pub call_not : (v : ℕ) (gs : List FlatLeg) → length gs ≤ v → None ≡ call_of v gs
call_not v gs le =
    let e = arities_length gs in
    sym (ap (λ b. cond b (Some (Call (the_leg v) (get_or (arities_of gs) v 0))) None) (le-ltb v (length (arities_of gs)) (omega arith)))
