-- Bytes are a plan exactly if a well-laid plan is written so. Assumes nothing.
use Rattle.std.specs.Prelude.{◌≡◌, ℕ, ◌<◌, List, Ok}
use Rattle.plan.specs.Trees.{Plan}
use Rattle.plan.specs.Written.{Each, written, WellLaid}
use Rattle.reader.specs.Reading.{read}

abbrev pub Bytes : List ℕ → Type 0
Bytes bs = Each (λ b. b < 256) bs

-- The reader's definition accepts these bytes as the plan p exactly if p is well laid and written so; there is one spelling for each plan.
pub record ReadExactly (bs : List ℕ) (p : Plan) : Type 0 where
  pub accepted : read bs ≡ Ok p → WellLaid p × (written p ≡ bs)
  pub spelled : WellLaid p → written p ≡ bs → read bs ≡ Ok p
