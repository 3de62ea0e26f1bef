-- Rows and legs one behind the other. Assumes nothing.
use Rattle.std.proofs.Common.{◌≡◌, List, [], ◌∷◌, ◌++◌, refl, ap}
use Rattle.plan.specs.declared.Row.{Row}
use Rattle.plan.specs.declared.Leg.{Leg as FlatLeg}
use Rattle.plan.specs.Table.{nodes_of}
use Rattle.plan.specs.Plans.{leg_in, legs_in}

pub nodes_append : (xs ys : List Row) → nodes_of (xs ++ ys) ≡ nodes_of xs ++ nodes_of ys
nodes_append [] ys = refl
nodes_append (x ∷ xs) ys = ap (λ l. x.node ∷ l) (nodes_append xs ys)

pub legs_push : (ns : List Row) (gs : List FlatLeg) (g : FlatLeg) → legs_in ns (gs ++ (g ∷ [])) ≡ legs_in ns gs ++ (leg_in ns g ∷ [])
legs_push ns [] g = refl
legs_push ns (h ∷ gs) g = ap (λ l. leg_in ns h ∷ l) (legs_push ns gs g)
