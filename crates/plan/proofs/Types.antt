-- What the derive compares types by, and what a search through a table by it finds. Assumes nothing.
use Rattle.std.proofs.Common.{◌≡◌, Bool, true, false, cond, ◌&&◌, ◌||◌, eqb, List, [], ◌∷◌, refl, ap₂}
use Rattle.std.specs.List.{list_any}
use Rattle.plan.specs.declared.Type.{«Type» as Shape}
use Rattle.plan.specs.declared.Type.TheVariants.{Unit as UnitType, Number as NumberType, Pair as PairType, Either as EitherType}
use Rattle.plan.specs.contracts.TypePartialEq.TheImpl.{ghosts as derived}
use Rattle.plan.specs.Written.{same_type, listed}

-- `==` of the derive
abbrev pub equal : Shape → Shape → Bool
equal x y = derived.eq x y

both : (p q : Bool) → (p && q) ≡ cond p q false
both true q = refl
both false q = refl

pub equal_same : (x y : Shape) → equal x y ≡ same_type x y
equal_same UnitType UnitType = refl
equal_same UnitType NumberType = refl
equal_same UnitType (PairType c d) = refl
equal_same UnitType (EitherType c d) = refl
equal_same NumberType UnitType = refl
equal_same NumberType NumberType = refl
equal_same NumberType (PairType c d) = refl
equal_same NumberType (EitherType c d) = refl
equal_same (PairType a b) UnitType = refl
equal_same (PairType a b) NumberType = refl
equal_same (PairType a b) (PairType c d) = both (eqb a.index c.index) (eqb b.index d.index)
equal_same (PairType a b) (EitherType c d) = refl
equal_same (EitherType a b) UnitType = refl
equal_same (EitherType a b) NumberType = refl
equal_same (EitherType a b) (PairType c d) = refl
equal_same (EitherType a b) (EitherType c d) = both (eqb a.index c.index) (eqb b.index d.index)

-- `contains`
pub listed_any : (y : Shape) (ts : List Shape) → list_any (λ x. equal x y) ts ≡ listed y ts
listed_any y [] = refl
listed_any y (x ∷ xs) = ap₂ (λ a b. a || b) (equal_same x y) (listed_any y xs)
