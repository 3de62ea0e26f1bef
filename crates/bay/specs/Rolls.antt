-- The readings that a roll, and a table of rolls, has to come. Assumes nothing.
use Rattle.std.specs.Prelude.{ℕ, zero, suc, cond, List, [], ◌∷◌, reverse, nat_lt}
use Rattle.bay.specs.declared.roll.Roll.{Roll}

-- a roll is held from its last serial number to its next
abbrev pub roll_of : Roll → List ℕ
roll_of r = reverse r.serials.items

abbrev pub roll_at : List Roll → ℕ → List ℕ
roll_at [] k = []
roll_at (r ∷ rs) zero = roll_of r
roll_at (r ∷ rs) (suc k) = roll_at rs k

-- a bay has eight stores
abbrev pub roll_readings : List Roll → ℕ → List ℕ
roll_readings rolls k = cond (nat_lt k 8) (roll_at rolls k) []
