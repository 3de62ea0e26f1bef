-- What filling a store leaves, when it is refused, and what the refusal is called. Assumes nothing.
use Rattle.std.specs.Prelude.{◌≡◌, ℕ, ◌<◌, ◌≤◌, List, Ok, Err, Result, ◌≢◌, slice_index}
use Rattle.refusal.specs.declared.Layer.TheVariants.{Bay}
use Rattle.refusal.specs.declared.Refusal.{Refusal}
use Rattle.bay.specs.declared.fault.BayFault.{BayFault}
use Rattle.bay.specs.declared.fault.BayFault.TheVariants.{Over}

-- A bay's meaning is `reads`. Store s is filled with n things, at most `most`, which read `list`.
-- Granted exactly if the store is one of eight and n is not above `most`: s then reads that list, every other store as before.
-- Refused otherwise, with OVER and the store, and the bay is what it was.
abbrev pub Filling : {S : Type 0} → (S → ℕ → List ℕ) → ℕ → ℕ → ℕ → List ℕ → S → Result Unit BayFault → S → Type 0
Filling reads s n most list before (Ok _) after =
    (s < 8) × (n ≤ most) × (reads after s ≡ list) × ((k : ℕ) → (k ≢ s) → reads after k ≡ reads before k)
Filling reads s n most list before (Err e) after = (e ≡ Over s) × (s < 8 → n ≤ most → ⊥) × (after ≡ before)

-- Store s of a table of counts is set to n, under the same rule.
abbrev pub Counted : ℕ → ℕ → List ℕ → Result Unit BayFault → List ℕ → Type 0
Counted s n before (Ok _) after =
    (s < 8) × (n ≤ 9999) × (slice_index after s ≡ n) × ((k : ℕ) → (k ≢ s) → slice_index after k ≡ slice_index before k)
Counted s n before (Err e) after = (e ≡ Over s) × (s < 8 → n ≤ 9999 → ⊥)

-- number, layer and place of a refusal
abbrev pub refused : BayFault → Refusal
refused (Over store) = record { number = 17; layer = Bay; place = store }
