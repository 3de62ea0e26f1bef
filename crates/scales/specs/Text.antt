-- How grades print.
use Rattle.std.specs.Prelude.{ℕ, zero, suc, cond, List, [], ◌∷◌, ◌++◌, codes, decimal}
use Rattle.scales.specs.Set.{member}
use Rattle.scales.specs.declared.scale.Ceiling.{Ceiling}
use Rattle.scales.specs.declared.scale.Ceiling.TheVariants.{Count, Unbounded}
use Rattle.scales.specs.declared.tally.Tally.{Tally}
use Rattle.scales.specs.declared.tally.Tally.TheVariants.{Zero, One, Many}
use Rattle.scales.specs.declared.span.Span.{Span}
use Rattle.scales.specs.declared.set.Set.{Set}

abbrev pub ceiling_text : Ceiling → List ℕ
ceiling_text (Count n) = decimal n
ceiling_text Unbounded = codes "inf"

abbrev pub tally_text : Tally → List ℕ
tally_text Zero = codes "none"
tally_text One = codes "one"
tally_text Many = codes "many"

-- low..high
abbrev pub span_text : Span → List ℕ
span_text s = decimal s.low ++ (codes ".." ++ ceiling_text s.high)

-- a comma, if something stands before it
abbrev pub comma : List ℕ → List ℕ
comma [] = []
comma (c ∷ cs) = codes ","

-- the members below n, from the least, with commas between them
unfoldable pub listed : Set → ℕ → List ℕ
listed s zero = []
listed s (suc n) = listed s n ++ cond (member s n) (comma (listed s n) ++ decimal n) []

abbrev pub set_text : Set → List ℕ
set_text s = codes "{" ++ (listed s 16 ++ codes "}")
