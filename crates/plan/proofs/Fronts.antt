-- The front of a slice, and the rest behind it. Assumes nothing.
use Rattle.std.proofs.Common.{◌≡◌, ℕ, ◌-◌, ◌≤◌, List, [], ◌∷◌, length, get_or, take, drop, sym, ap, ◌∙◌, arith}
use Rattle.std.proofs.lemmas.List.{take_rest}

abbrev pub rest_of : {X : Type 0} → ℕ → List X → List X
rest_of k bs = take (length bs - k) (drop k bs)

pub front1 : {X : Type 0} (d : X) (bs : List X) → 1 ≤ length bs → bs ≡ get_or bs 0 d ∷ rest_of 1 bs
front1 d [] h = absurd (omega arith)
front1 d (b ∷ bs) h = ap (λ r. b ∷ r) (sym (take_rest (b ∷ bs) 1))
