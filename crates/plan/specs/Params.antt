-- A leg's parameter types, as contracts see them. Assumes nothing.
use Rattle.std.specs.Prelude.{List}
use Rattle.plan.specs.declared.TypeId.{TypeId}

-- the types, in order; and what stands in the places that none takes, of which no clause says anything
pub record Params : Type 0 where
  pub items : List TypeId
  pub spare : List TypeId
