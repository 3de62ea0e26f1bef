-- What a bay's readings to come are, and what draws do to them. `before` and `after` give the readings of each store. Assumes nothing.
use Rattle.std.specs.Prelude.{◌≡◌, ℕ, zero, suc, ◌-◌, ◌^◌, ◌<◌, ◌≤◌, min, List, [], ◌∷◌, ◌++◌, length, take, drop, Some, None, Option, ◌≢◌, slice_index, slice_range}

-- One draw of store s. It is refused exactly if nothing is to come there, and then every store reads as before.
-- Otherwise it answers the first reading of s, takes off that alone, and every other store reads as before.
abbrev pub Draws : (ℕ → List ℕ) → ℕ → Option ℕ → (ℕ → List ℕ) → Type 0
Draws before s None after = (before s ≡ []) × ((k : ℕ) → after k ≡ before k)
Draws before s (Some x) after = (before s ≡ x ∷ after s) × ((k : ℕ) → (k ≢ s) → after k ≡ before k)

-- a refused draw leaves the bay itself what it was
abbrev pub Unmoved : {S : Type 0} → Option ℕ → S → S → Type 0
Unmoved None before after = after ≡ before
Unmoved (Some _) before after = Unit

-- Drawing store s into a list of as many places as are asked for: what came is the first readings, as many as asked for
-- or as there are; they stand in front, the places after them are as they were; those readings alone are taken off.
pub record DrawsInto (before : ℕ → List ℕ) (s : ℕ) (places : List ℕ) (came : ℕ) (filled : List ℕ) (after : ℕ → List ℕ) : Type 0 where
  pub count : came ≡ min (length places) (length (before s))
  pub told : filled ≡ take (length places) (before s) ++ drop came places
  pub left : after s ≡ drop (length places) (before s)
  pub others : (k : ℕ) → (k ≢ s) → after k ≡ before k

-- a counter of n reads n - 1, n - 2, .. 0: the count left after each draw
abbrev pub countdown : ℕ → List ℕ
countdown zero = []
countdown (suc n) = n ∷ countdown n

-- a table of counts, read store by store
abbrev pub counter_readings : List ℕ → ℕ → List ℕ
counter_readings counts k = countdown (slice_index counts k)

-- eight counts of at most 9,999
abbrev pub Few : List ℕ → Type 0
Few counts = (length counts ≡ 8) × ((k : ℕ) → slice_index counts k ≤ 9999)

-- without the last n; nothing if there are fewer
abbrev pub kept_back : ℕ → List ℕ → List ℕ
kept_back n xs = take (length xs - n) xs

-- the readings of a bay below, without those that a table of counts keeps back
abbrev pub kept_readings : List ℕ → (ℕ → List ℕ) → ℕ → List ℕ
kept_readings kept below k = kept_back (slice_index kept k) (below k)

-- what a layer's draw does to the bay below: the draw of what is answered, or nothing
abbrev pub DrawsUnder : (ℕ → List ℕ) → ℕ → Option ℕ → (ℕ → List ℕ) → Type 0
DrawsUnder below s None below' = (k : ℕ) → below' k ≡ below k
DrawsUnder below s (Some x) below' = Draws below s (Some x) below'

-- each number is one of 32 bits
abbrev pub Words : List ℕ → Type 0
Words xs = (i : ℕ) → slice_index xs i < 2 ^ 32

-- the numbers of a table from place `at` up to place `end`
abbrev pub roll_left : List ℕ → ℕ → ℕ → List ℕ
roll_left serials at end = slice_range serials at end

-- at most 32 serial numbers, of 32 bits each
abbrev pub RollHolds : List ℕ → Type 0
RollHolds serials = (length serials ≤ 32) × Words serials

-- taking the next serial number off a roll
abbrev pub Shortens : List ℕ → Option ℕ → List ℕ → Type 0
Shortens before None after = (before ≡ []) × (after ≡ [])
Shortens before (Some x) after = before ≡ x ∷ after
