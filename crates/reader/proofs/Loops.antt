-- One turn of a loop that reads many things. Assumes nothing.
use Rattle.std.proofs.Common.{◌≡◌, ℕ, zero, suc, ◌+◌, ◌-◌, ◌<◌, List, [], ◌∷◌, ◌++◌, Ok, Err, sym, refl, ap, ◌∙◌, append_assoc, arith}
use Rattle.plan.specs.declared.faults.ReadFault.{ReadFault}
use Rattle.reader.specs.Reading.{Got, then_read, many}

-- things in front of those read after them
abbrev pub front : {X : Type 0} → List X → Got (List X) → Got (List X)
front xs (Ok p) = Ok (xs ++ p.0, p.1)
front xs (Err e) = Err e

front_more : {X : Type 0} (xs : List X) (x : X) (g : Got (List X)) → front xs (then_read g (λ ys rest. Ok (x ∷ ys, rest))) ≡ front (xs ++ (x ∷ [])) g
front_more xs x (Ok p) = ap (λ l. Ok (l, p.1)) (sym (append_assoc xs (x ∷ []) p.0))
front_more xs x (Err e) = refl

module _ {X S : Type 0} (next : S → X → S) (P : S → List ℕ → Got X) (count : ℕ) (start : S) (bytes : List ℕ) where
  -- so many are read, and the others are still to come
  abbrev pub Left : ℕ → S → List ℕ → List X → Type 0
  Left i s rest out = many next P count start bytes ≡ front out (many next P (count - i) s rest)

  unrolled : (n : ℕ) (s : S) (rest : List ℕ) → 0 < n → many next P n s rest ≡ then_read (P s rest) (λ x r. then_read (many next P (n - 1) (next s x) r) (λ xs r'. Ok (x ∷ xs, r')))
  unrolled zero s rest h = absurd (omega arith)
  unrolled (suc n) s rest h = ap (λ m. then_read (P s rest) (λ x r. then_read (many next P m (next s x) r) (λ xs r'. Ok (x ∷ xs, r')))) (let z : n ≡ suc n - 1 = omega arith in z)

  at_one : (i : ℕ) (s : S) (rest : List ℕ) (out : List X) (g : Got X) → i < count → Left i s rest out → P s rest ≡ g
      → many next P count start bytes ≡ front out (then_read g (λ x r. then_read (many next P (count - i - 1) (next s x) r) (λ xs r'. Ok (x ∷ xs, r'))))
  at_one i s rest out g lt l e =
      l ∙ ap (front out) (unrolled (count - i) s rest (omega arith) ∙ ap (λ h. then_read h (λ x r. then_read (many next P (count - i - 1) (next s x) r) (λ xs r'. Ok (x ∷ xs, r')))) e)

  pub left_next : (i : ℕ) (s : S) (rest : List ℕ) (out : List X) (x : X) (after : List ℕ) → i < count → Left i s rest out → P s rest ≡ Ok (x, after) → Left (i + 1) (next s x) after (out ++ (x ∷ []))
  left_next i s rest out x after lt l e =
      at_one i s rest out (Ok (x, after)) lt l e ∙ front_more out x (many next P (count - i - 1) (next s x) after)
      ∙ ap (λ n. front (out ++ (x ∷ [])) (many next P n (next s x) after)) (let z : count - i - 1 ≡ count - (i + 1) = omega arith in z)

  pub left_fails : (i : ℕ) (s : S) (rest : List ℕ) (out : List X) (f : ReadFault) → i < count → Left i s rest out → P s rest ≡ Err f → many next P count start bytes ≡ Err f
  left_fails i s rest out f lt l e = at_one i s rest out (Err f) lt l e
