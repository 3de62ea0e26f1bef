-- How a set prints, one number after another.
use Rattle.std.proofs.Common.{◌≡◌, ℕ, ◌+◌, ◌<◌, true, false, List, [], ◌∷◌, ◌++◌, length, codes, decimal, sym, refl, ap, ◌∙◌, append-nil, add-one, arith, length-append}
use Rattle.std.specs.Fmt.{IsPlainFormatter, HasWritten}
use Rattle.std.specs.declared.fmt.Formatter.{Formatter}
use Rattle.std.proofs.Output.{writes_in_calls_nil, has_written_append, has_written_of_eq}
use Rattle.std.proofs.lemmas.Fmt.{decimal_nonempty}
use Rattle.std.proofs.lemmas.Bool.{cond-true, cond-false}
use Rattle.scales.specs.Set.{member}
use Rattle.scales.specs.Text.{comma, listed}
use Rattle.scales.specs.declared.set.Set.{Set}

pub listed_skip : (s : Set) (n : ℕ) → member s n ≡ false → listed s (n + 1) ≡ listed s n
unfolding listed
listed_skip s n h = ap (listed s) (add-one n) ∙ ap (λ t. listed s n ++ t) (cond-false (member s n) (comma (listed s n) ++ decimal n) [] h) ∙ append-nil (listed s n)

pub listed_take : (s : Set) (n : ℕ) → member s n ≡ true → listed s (n + 1) ≡ listed s n ++ (comma (listed s n) ++ decimal n)
unfolding listed
listed_take s n h = ap (listed s) (add-one n) ∙ ap (λ t. listed s n ++ t) (cond-true (member s n) (comma (listed s n) ++ decimal n) [] h)

comma_some : (xs : List ℕ) → 0 < length xs → comma xs ≡ codes ","
comma_some [] h = absurd (omega arith)
comma_some (x ∷ xs) h = refl

pub comma_first : (s : Set) → [] ≡ comma (listed s 0)
unfolding listed
comma_first s = refl

pub comma_after : (s : Set) (n : ℕ) → n < 16 → member s n ≡ true → comma (listed s (n + 1)) ≡ codes ","
comma_after s n l h =
    let d : 0 < length (decimal n) = decimal_nonempty n (omega arith) in
    let e : length (listed s (n + 1)) ≡ length (listed s n) + (length (comma (listed s n)) + length (decimal n)) = ap length (listed_take s n h) ∙ simp length-append in
    comma_some (listed s (n + 1)) (omega arith)

-- what was written of a set, up to n
module _ {W : Type 0} (took : W → List ℕ → W → Type 0) (s : Set) where
  pub put_nothing : (f : Formatter W) → IsPlainFormatter f → HasWritten took f (listed s 0) f
  unfolding listed
  put_nothing f h = record { wrote = writes_in_calls_nil took f.writer; plain = h }

  pub put_member : (n : ℕ) (separator : List ℕ) (f g h : Formatter W) → member s n ≡ true → separator ≡ comma (listed s n)
      → HasWritten took f (listed s n) g → HasWritten took g (separator ++ decimal n) h → HasWritten took f (listed s (n + 1)) h
  put_member n separator f g h m e p q =
      has_written_of_eq took f (listed s n ++ (separator ++ decimal n)) (listed s (n + 1)) h
      (ap (λ t. listed s n ++ (t ++ decimal n)) e ∙ sym (listed_take s n m))
      (has_written_append took f (listed s n) g (separator ++ decimal n) h p q)

  pub put_skip : (n : ℕ) (f g : Formatter W) → member s n ≡ false → HasWritten took f (listed s n) g → HasWritten took f (listed s (n + 1)) g
  put_skip n f g m p = has_written_of_eq took f (listed s n) (listed s (n + 1)) g (sym (listed_skip s n m)) p
