-- Facts of a list of numbers, place by place. Assumes nothing.
use Rattle.std.specs.Prelude.{◌≡◌, ℕ, zero, suc, ◌+◌, ◌-◌, ◌<◌, ◌≤◌, List, [], ◌∷◌, ◌++◌, length, take, drop, replicate, reverse, slice_index, slice_set, refl}
use Rattle.std.proofs.Common.{sym, subst, ◌∙◌, ⊎_elim, arith}
use Rattle.std.proofs.lemmas.Bool.{cases_eq, cases_lt}
use Rattle.std.proofs.lemmas.List.{get_or-drop, get_or-reverse, get_or_past, length-reverse, get_or-set_same, get_or-set_other}

-- a list of zeros reads 0 everywhere, past its end too
pub zeros : (n k : ℕ) → ◌≡◌ {A = ℕ} (slice_index (replicate n 0) k) 0
zeros zero k = refl
zeros (suc n) zero = refl
zeros (suc n) (suc k) = zeros n k

pub zeros_left : (n m k : ℕ) → ◌≡◌ {A = ℕ} (slice_index (drop m (replicate n 0)) k) 0
zeros_left n m k = get_or-drop {A = ℕ} m (replicate n 0) k 0 ∙ zeros n (m + k)

-- what holds at every place and of a new number holds at every place once the number is put in
pub set_each : (P : ℕ → Type 0) (xs : List ℕ) (i x : ℕ) → i < length xs → P x → ((k : ℕ) → P (slice_index xs k)) → (k : ℕ) → P (slice_index (slice_set xs i x) k)
set_each P xs i x within new old k =
    ⊎_elim
    (λ e. subst (λ j. P (slice_index (slice_set xs i x) j)) (sym e) (subst P (sym (get_or-set_same xs i x 0 within)) new))
    (λ ne. subst P (sym (get_or-set_other xs i k x 0 ne)) (old k))
    (cases_eq k i)

-- a part from the start holds nothing greater at any place
pub take_below : (n : ℕ) (xs : List ℕ) (i : ℕ) → slice_index (take n xs) i ≤ slice_index xs i
take_below zero xs i = omega arith
take_below (suc n) [] i = omega arith
take_below (suc n) (x ∷ xs) zero = omega arith
take_below (suc n) (x ∷ xs) (suc i) = take_below n xs i

-- what holds at every place of two lists holds at every place of one after the other
pub append_each : (P : ℕ → Type 0) (xs ys : List ℕ) → ((k : ℕ) → P (slice_index xs k)) → ((k : ℕ) → P (slice_index ys k)) → (k : ℕ) → P (slice_index (xs ++ ys) k)
append_each P [] ys h g k = g k
append_each P (x ∷ xs) ys h g zero = h 0
append_each P (x ∷ xs) ys h g (suc k) = append_each P xs ys (λ j. h (suc j)) g k

-- what holds at every place of a list holds at every place of the list turned round
pub reverse_each : (P : ℕ → Type 0) (xs : List ℕ) → ((k : ℕ) → P (slice_index xs k)) → (k : ℕ) → P (slice_index (reverse xs) k)
reverse_each P xs h k =
    ⊎_elim
    (λ within. subst P (sym (get_or-reverse xs k 0 within)) (h (length xs - 1 - k)))
    (λ past. subst P (get_or_past xs k 0 past ∙ sym (get_or_past (reverse xs) k 0 (omega (arith, length-reverse xs)))) (h k))
    (cases_lt k (length xs))
