-- Facts of rolls and of a table of them. Assumes nothing.
use Rattle.std.specs.Prelude.{◌≡◌, ℕ, zero, suc, ◌+◌, ◌-◌, ◌^◌, ◌<◌, ◌≤◌, true, false, cond, List, [], ◌∷◌, ◌++◌, length, set, replicate, Some, None, Option, ◌≢◌, nat_lt, slice_index, slice_index_or, slice_set, refl}
use Rattle.std.proofs.Common.{sym, ap, ◌∙◌, ⊎_elim, not-suc-le-zero, le_of_suc-le-suc, arith, lt-ltb}
use borrow.Rule.Slice.PartMut.{post_of}
use Rattle.std.proofs.lemmas.Bool.{cases_eq}
use Rattle.std.proofs.lemmas.List.{length-drop, drop_more, set-get_or, length-append, length-reverse, take_at}
use Rattle.bay.specs.Readings.{Draws, Shortens, Unmoved, Words, roll_left}
use Rattle.bay.specs.Rolls.{roll_of, roll_at, roll_readings}
use Rattle.bay.specs.declared.roll.Roll.{Roll}
use Rattle.bay.specs.Places.{append_each, reverse_each, zeros_left}

pub roll_next : (serials : List ℕ) (i e : ℕ) → i < e → e ≤ 32 → length serials ≡ 32 → roll_left serials i e ≡ slice_index serials i ∷ roll_left serials (i + 1) e
roll_next serials i e h small long =
    let w : i < length serials = omega arith in
    let s : e - i ≡ suc (e - (i + 1)) = omega arith in
    rw (s, drop_more serials i 0 w)

-- a table of 32 places that was all zeros, with the serial numbers put in front
abbrev pub Table : List ℕ → List ℕ → Type 0
Table xs t = (length t ≡ 32) × Words t × (roll_left t 0 (length xs) ≡ xs)

pub table_of : (xs ys : List ℕ) → ys ≡ xs → length xs ≤ 32 → Words xs → Table xs (ys ++ post_of 0 (length xs - 0) (replicate 32 0))
table_of xs ys e few w =
    let tail : List ℕ = post_of 0 (length xs - 0) (replicate 32 0) in
    let l : length ys ≡ length xs = ap length e in (
      length-append ys tail ∙ simp length-drop (omega arith),
      append_each (λ m. m < 2 ^ 32) ys tail (λ k. rw e (w k)) (λ k. let z = zeros_left 32 (length xs - 0) k in omega arith),
      take_at ys tail (length xs - 0) (omega arith) ∙ e,
    )

roll_short : (r : Roll) → length (roll_of r) ≤ 32
roll_short r = omega (arith, length-reverse r.serials.items, r.holds.0)

roll_words : (r : Roll) → Words (roll_of r)
roll_words r = reverse_each (λ n. n < 2 ^ 32) r.serials.items r.holds.1

-- a table of rolls, by places
pub roll_at_get : (rs : List Roll) (k : ℕ) (d : Roll) → k < length rs → roll_at rs k ≡ roll_of (slice_index_or rs k d)
roll_at_get [] k d h = absurd (not-suc-le-zero h)
roll_at_get (r ∷ rs) zero d h = refl
roll_at_get (r ∷ rs) (suc k) d h = roll_at_get rs k d (le_of_suc-le-suc h)

roll_at_set_same : (rs : List Roll) (k : ℕ) (r : Roll) → k < length rs → roll_at (slice_set rs k r) k ≡ roll_of r
roll_at_set_same [] k r h = absurd (not-suc-le-zero h)
roll_at_set_same (x ∷ rs) zero r h = refl
roll_at_set_same (x ∷ rs) (suc k) r h = roll_at_set_same rs k r (le_of_suc-le-suc h)

roll_at_set_other : (rs : List Roll) (i k : ℕ) (r : Roll) → (k ≢ i) → roll_at (slice_set rs i r) k ≡ roll_at rs k
roll_at_set_other [] i k r ne = refl
roll_at_set_other (x ∷ rs) zero zero r ne = absurd (ne refl)
roll_at_set_other (x ∷ rs) zero (suc k) r ne = refl
roll_at_set_other (x ∷ rs) (suc i) zero r ne = refl
roll_at_set_other (x ∷ rs) (suc i) (suc k) r ne = roll_at_set_other rs i k r (λ e. ne (ap suc e))

roll_at_short : (rs : List Roll) (k : ℕ) → length (roll_at rs k) ≤ 32
roll_at_short [] k = omega arith
roll_at_short (r ∷ rs) zero = roll_short r
roll_at_short (r ∷ rs) (suc k) = roll_at_short rs k

roll_at_words : (rs : List Roll) (k : ℕ) → Words (roll_at rs k)
roll_at_words [] k i = omega arith
roll_at_words (r ∷ rs) zero i = roll_words r i
roll_at_words (r ∷ rs) (suc k) i = roll_at_words rs k i

-- the eight stores
pub store_reads : (rs : List Roll) (k : ℕ) → k < 8 → roll_readings rs k ≡ roll_at rs k
store_reads rs k h = ap (λ b. cond b (roll_at rs k) []) (lt-ltb k 8 h)

pub rolls_few : (rs : List Roll) (k : ℕ) → length (roll_readings rs k) ≤ 9999
rolls_few rs k = let h = roll_at_short rs k in elim (nat_lt k 8) as (λ b. length (cond b (roll_at rs k) []) ≤ 9999) [ true ↦ omega arith | false ↦ omega arith ]

pub rolls_words : (rs : List Roll) (k : ℕ) → Words (roll_readings rs k)
rolls_words rs k i = elim (nat_lt k 8) as (λ b. slice_index (cond b (roll_at rs k) []) i < 2 ^ 32) [ true ↦ roll_at_words rs k i | false ↦ omega arith ]

-- one roll put in: its store reads it, every other store reads as before
pub roll_put : (rs : List Roll) (i : ℕ) (r : Roll) → i < 8 → i < length rs
    → (roll_readings (slice_set rs i r) i ≡ roll_of r) × ((k : ℕ) → (k ≢ i) → roll_readings (slice_set rs i r) k ≡ roll_readings rs k)
roll_put rs i r small within = (
  store_reads (slice_set rs i r) i small ∙ roll_at_set_same rs i r within,
  λ k ne. ap (λ l. cond (nat_lt k 8) l []) (roll_at_set_other rs i k r ne),
)

-- shortening the roll of a store is a draw of that store
pub roll_draw : (rs : List Roll) (i : ℕ) (x : Option ℕ) (d r : Roll) → i < 8 → i < length rs → Shortens (roll_of (slice_index_or rs i d)) x (roll_of r)
    → Draws (roll_readings rs) i x (roll_readings (slice_set rs i r))
roll_draw rs i None d r small within (was, is) =
    let at : roll_readings rs i ≡ [] = store_reads rs i small ∙ roll_at_get rs i d within ∙ was in
    let put = roll_put rs i r small within in
    (at, λ k. ⊎_elim (λ e. rw e (put.0 ∙ is ∙ sym at)) (put.1 k) (cases_eq k i))
roll_draw rs i (Some x) d r small within h =
    let put = roll_put rs i r small within in
    (store_reads rs i small ∙ roll_at_get rs i d within ∙ h ∙ ap (λ l. x ∷ l) (sym put.0), put.1)

-- a roll put back as it was leaves the table as it was
pub roll_unmoved : (rs : List Roll) (i : ℕ) (o : Option ℕ) (d r : Roll) → Unmoved o (slice_index_or rs i d) r → Unmoved o rs (slice_set rs i r)
roll_unmoved rs i None d r h = ap (set rs i) h ∙ set-get_or rs i d
roll_unmoved rs i (Some x) d r h = tt
