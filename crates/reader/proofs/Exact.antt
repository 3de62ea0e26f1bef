-- Readers that accept exactly what is written. Assumes nothing.
use Rattle.std.proofs.Common.{◌≡◌, ℕ, zero, suc, ◌-◌, Bool, true, false, cond, List, [], ◌∷◌, ◌++◌, length, Ok, Err, Result, sym, refl, ap, ◌∙◌, subst, ap₂, append_assoc}
use Rattle.plan.specs.declared.faults.ReadFault.{ReadFault}
use Rattle.plan.specs.Written.{Run, all_bytes}
use Rattle.reader.specs.Reading.{Got, then_read, many, byte_if}
use Rattle.reader.specs.Laws.{Bytes}

pub record Exact {X : Type 0} (ok : X → Type 0) (write : X → List ℕ) (P : List ℕ → Got X) : Type 0 where
  pub sound : (bs : List ℕ) (x : X) (rest : List ℕ) → Bytes bs → P bs ≡ Ok (x, rest) → (bs ≡ write x ++ rest) × ok x
  pub full : (x : X) (rest : List ℕ) → ok x → P (write x ++ rest) ≡ Ok (x, rest)

pub bytes_after : (xs ys : List ℕ) → Bytes (xs ++ ys) → Bytes ys
bytes_after [] ys b = b
bytes_after (x ∷ xs) ys b = bytes_after xs ys b.1

pub then_inv : {X Y : Type 0} (g : Got X) (f : X → List ℕ → Got Y) (y : Y × List ℕ) → then_read g f ≡ Ok y → (x : X) × (r : List ℕ) × (g ≡ Ok (x, r)) × (f x r ≡ Ok y)
then_inv (Ok p) f y e = (p.0, p.1, refl, e)
then_inv (Err q) f y e = cc

pub then_on : {X Y : Type 0} (g : Got X) (f : X → List ℕ → Got Y) (x : X) (r : List ℕ) → g ≡ Ok (x, r) → then_read g f ≡ f x r
then_on g f x r e = ap (λ h. then_read h f) e

pub ok_same : {X F : Type 0} (x y : X) → ◌≡◌ {A = Result X F} (Ok x) (Ok y) → x ≡ y
ok_same x y e = cc

pub cond_ok : {X F : Type 0} (b : Bool) (x y : X) (e : F) → cond b (Ok x) (Err e) ≡ Ok y → (b ≡ true) × (x ≡ y)
cond_ok true x y e q = (refl, (let p : x ≡ y = cc in p))
cond_ok false x y e q = cc

-- a byte that passes a test
abbrev pub lone : ℕ → List ℕ
lone b = b ∷ []

pub byte_exact : (ok : ℕ → Bool) (fault : ℕ → ReadFault) (all : ℕ) → Exact (λ b. ok b ≡ true) lone (byte_if ok fault all)
byte_exact ok fault all = record { sound = sound; full = full }
  where
    sound : (bs : List ℕ) (x : ℕ) (rest : List ℕ) → Bytes bs → byte_if ok fault all bs ≡ Ok (x, rest) → (bs ≡ x ∷ rest) × (ok x ≡ true)
    sound [] x rest b e = cc
    sound (y ∷ bs) x rest b e =
        let q = cond_ok (ok y) (y, bs) (x, rest) (fault (all - length (y ∷ bs))) e in
        let yx : y ≡ x = ap (λ p. p.0) q.1 in
        (ap₂ (λ h t. h ∷ t) yx (ap (λ p. p.1) q.1), subst (λ z. ok z ≡ true) yx q.0)

    full : (x : ℕ) (rest : List ℕ) → ok x ≡ true → byte_if ok fault all (x ∷ rest) ≡ Ok (x, rest)
    full x rest e = ap (λ b. cond b (Ok (x, rest)) (Err (fault (all - length (x ∷ rest))))) e

module _ {X S : Type 0} (next : S → X → S) (ok : S → X → Type 0) (write : X → List ℕ) (P : S → List ℕ → Got X) (each : (s : S) → Exact (ok s) write (P s)) where
  pub many_sound : (n : ℕ) (s : S) (bs : List ℕ) (xs : List X) (rest : List ℕ) → Bytes bs → many next P n s bs ≡ Ok (xs, rest)
      → (bs ≡ all_bytes write xs ++ rest) × Run next ok s xs × (length xs ≡ n)
  many_sound zero s bs xs rest b e =
      let both = ok_same ([], bs) (xs, rest) e in
      let nil : [] ≡ xs = ap (λ p. p.0) both in
      let same : bs ≡ rest = ap (λ p. p.1) both in
      subst (λ l. (bs ≡ all_bytes write l ++ rest) × Run next ok s l × (length l ≡ 0)) nil (same, tt, refl)
  many_sound (suc n) s bs xs rest b e =
      let i = then_inv (P s bs) _ (xs, rest) e in
      let x = i.0 in
      let one = (each s).sound bs x i.1 b i.2 in
      let j = then_inv (many next P n (next s x) i.1) _ (xs, rest) i.3 in
      let more = many_sound n (next s x) i.1 j.0 j.1 (bytes_after (write x) i.1 (subst Bytes one.0 b)) j.2 in
      let both = ok_same (x ∷ j.0, j.1) (xs, rest) j.3 in
      let cons : x ∷ j.0 ≡ xs = ap (λ p. p.0) both in
      let last : j.1 ≡ rest = ap (λ p. p.1) both in
      let eq : bs ≡ all_bytes write (x ∷ j.0) ++ rest =
      one.0 ∙ ap (λ r. write x ++ r) (more.0 ∙ ap (λ r. all_bytes write j.0 ++ r) last) ∙ sym (append_assoc (write x) (all_bytes write j.0) rest) in
      subst (λ l. (bs ≡ all_bytes write l ++ rest) × Run next ok s l × (length l ≡ suc n)) cons (eq, (one.1, more.1), ap suc more.2)

  pub many_full : (xs : List X) (s : S) (rest : List ℕ) → Run next ok s xs → many next P (length xs) s (all_bytes write xs ++ rest) ≡ Ok (xs, rest)
  many_full [] s rest r = refl
  many_full (x ∷ xs) s rest r =
      ap (many next P (suc (length xs)) s) (append_assoc (write x) (all_bytes write xs) rest)
      ∙ then_on (P s (write x ++ (all_bytes write xs ++ rest))) _ x (all_bytes write xs ++ rest) ((each s).full x _ r.0)
      ∙ then_on (many next P (length xs) (next s x) (all_bytes write xs ++ rest)) _ xs rest (many_full xs (next s x) rest r.1)
