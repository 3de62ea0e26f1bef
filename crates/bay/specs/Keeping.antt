-- Facts of what a layer keeps back. Assumes nothing.
use Rattle.std.specs.Prelude.{◌≡◌, ℕ, suc, ◌-◌, ◌<◌, List, ◌∷◌, length, take, replicate, Some, None, Option, ◌≢◌, slice_index}
use Rattle.std.proofs.Common.{ap, ◌∙◌, arith}
use Rattle.std.proofs.lemmas.List.{length-take, take_all}
use Rattle.bay.specs.Readings.{Draws, DrawsUnder, Words, kept_back, kept_readings}
use Rattle.bay.specs.Places.{take_below, zeros}

pub take_words : (n : ℕ) (xs : List ℕ) → Words xs → Words (take n xs)
take_words n xs w i = omega (arith, take_below n xs i, w i)

kept_next : (n : ℕ) (xs ys : List ℕ) (x : ℕ) → n < length xs → xs ≡ x ∷ ys → kept_back n xs ≡ x ∷ kept_back n ys
kept_next n xs ys x h e =
    let l : length xs ≡ suc (length ys) = ap length e in
    let s : suc (length ys) - n ≡ suc (length ys - n) = omega arith in
    rw (e, s)

-- a draw below, where more is to come than is kept, is a draw of the layer
pub kept_draw : (f f' : ℕ → List ℕ) (kept : List ℕ) (s : ℕ) (x : Option ℕ) → slice_index kept s < length (f s) → Draws f s x f'
    → Draws (kept_readings kept f) s x (kept_readings kept f')
kept_draw f f' kept s None h (was, same) = absurd (let l : length (f s) ≡ 0 = ap length was in omega arith)
kept_draw f f' kept s (Some x) h (was, same) =
    (kept_next (slice_index kept s) (f s) (f' s) x h was, λ k ne. ap (kept_back (slice_index kept k)) (same k ne))

-- a layer whose stock is not 0 has more below than it keeps
pub kept_more : (n : ℕ) (xs : List ℕ) → (length (kept_back n xs) ≢ 0) → n < length xs
kept_more n xs h = let e = length-take (length xs - n) xs in omega arith

-- with nothing kept a layer reads as below
pub kept_none : (f : ℕ → List ℕ) (k : ℕ) → kept_readings (replicate 8 0) f k ≡ f k
kept_none f k = ap (λ n. kept_back n (f k)) (zeros 8 k) ∙ take_all (length (f k) - 0) (f k) (omega arith)

pub under : (f f' : ℕ → List ℕ) (s : ℕ) (o : Option ℕ) → Draws f s o f' → DrawsUnder f s o f'
under f f' s None h = h.1
under f f' s (Some x) h = h
