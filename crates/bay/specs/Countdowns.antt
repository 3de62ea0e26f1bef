-- Facts of counters. Assumes nothing.
use Rattle.std.specs.Prelude.{◌≡◌, ℕ, zero, suc, ◌+◌, ◌<◌, ◌≤◌, List, [], ◌∷◌, length, Some, slice_index, slice_index_or, slice_set, refl}
use Rattle.std.proofs.Common.{sym, ap, ◌∙◌, arith}
use Rattle.std.proofs.lemmas.List.{get_or_past, get_or-set_same, get_or-set_other}
use Rattle.bay.specs.Readings.{Draws, Words, countdown, counter_readings}

pub length_countdown : (n : ℕ) → length (countdown n) ≡ n
length_countdown zero = refl
length_countdown (suc n) = ap suc (length_countdown n)

-- no reading of a counter is above its count
countdown_below : (n i : ℕ) → slice_index (countdown n) i ≤ n
countdown_below zero i = omega arith
countdown_below (suc n) zero = omega arith
countdown_below (suc n) (suc i) = let h = countdown_below n i in omega arith

pub counter_past : (counts : List ℕ) (k : ℕ) → length counts ≤ k → counter_readings counts k ≡ []
counter_past counts k h = ap countdown (get_or_past counts k 0 h)

pub counter_eight : (counts : List ℕ) (k : ℕ) → length counts ≡ 8 → 8 ≤ k → counter_readings counts k ≡ []
counter_eight counts k e h = counter_past counts k (omega arith)

pub counter_few : (counts : List ℕ) (k : ℕ) → slice_index counts k ≤ 9999 → length (counter_readings counts k) ≤ 9999
counter_few counts k h = omega (arith, length_countdown (slice_index counts k))

pub counter_words : (counts : List ℕ) (k : ℕ) → slice_index counts k ≤ 9999 → Words (counter_readings counts k)
counter_words counts k h i = omega (arith, countdown_below (slice_index counts k) i)

pub counter_draw : (counts : List ℕ) (s n x : ℕ) → s < length counts → slice_index counts s ≡ n + 1 → x ≡ n
    → Draws (counter_readings counts) s (Some x) (counter_readings (slice_set counts s n))
counter_draw counts s n x h e is =
    let l : slice_index_or counts s 0 ≡ suc n = omega arith in (
      ap countdown l ∙ ap (λ y. y ∷ countdown n) (sym is) ∙ ap (λ m. x ∷ countdown m) (sym (get_or-set_same counts s n 0 h)),
      λ k ne. ap countdown (get_or-set_other counts s k n 0 ne),
    )
