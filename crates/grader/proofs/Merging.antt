-- Contexts on a stack, by lists. Assumes nothing.
use Rattle.std.proofs.Common.{◌≡◌, ℕ, zero, suc, ◌+◌, ◌<◌, ◌≤◌, cond, List, [], ◌++◌, length, get_or, take, drop, set, replicate, sym, refl, ap, ◌∙◌, ap₂, inl, inr, append_assoc, append-nil, arith, length-append, length-set, eq-eqb, ne_eqb}
use lib.ListN.{length-replicate}
use Rattle.std.proofs.lemmas.List.{same_lists, get_or-replicate, get_or-set_same, get_or-set_other, take-append-drop, length-take-le, take_at, drop_at}
use Rattle.std.proofs.lemmas.Bool.{cases_eq}
use borrow.Rule.Slice.PartMut.{put_mid}
use Rattle.std.proofs.lemmas.Slice.{take-put_mid}
use Rattle.scales.specs.Rows.{zipInto}
use Rattle.scales.proofs.RowLists.{length_zip}
use Rattle.scales.specs.Laws.{Ops}
use Rattle.grading.specs.Grading.{one_of}
use Rattle.grading.specs.Least.{from_0}
use Rattle.grading.proofs.Numbers.{from_0_length}

module _ {G : Type 0} where
  pub cleared : (xs ys : List G) (z : G) → length ys ≡ length xs → ((k : ℕ) (d : G) → k < length xs → get_or ys k d ≡ z) → ys ≡ replicate (length xs) z
  cleared xs ys z e h =
      same_lists ys (replicate (length xs) z) (e ∙ sym (length-replicate (length xs) z)) (λ k d lt. h k d (omega arith) ∙ sym (get_or-replicate (length xs) k z d (omega arith)))

  -- the places of a stack with a part m of what is held, from `at` on, and the same with other grades there
  module _ (places : List G) (used at k : ℕ) (h m r : List G) (fits : used ≤ length places) (held : take used places ≡ h ++ (m ++ r)) (start : length h ≡ at) (wide : length m ≡ k) where
    whole : places ≡ h ++ (m ++ (r ++ drop used places))
    whole = sym (take-append-drop used places) ∙ ap (λ l. l ++ drop used places) held ∙ append_assoc h (m ++ r) (drop used places) ∙ ap (λ l. h ++ l) (append_assoc m r (drop used places))

    behind : drop at places ≡ m ++ (r ++ drop used places)
    behind = ap (drop at) whole ∙ drop_at h (m ++ (r ++ drop used places)) at start

    pub part_is : take k (drop at places) ≡ m
    part_is = ap (take k) behind ∙ take_at m (r ++ drop used places) k wide

    pub rewritten : (ys : List G) → put_mid at k places ys ≡ h ++ (ys ++ (r ++ drop used places))
    rewritten ys =
        ap₂ (λ x y. x ++ (ys ++ y)) (ap (take at) whole ∙ take_at h (m ++ (r ++ drop used places)) at start) (ap (drop k) behind ∙ drop_at m (r ++ drop used places) k wide)

  -- how long the parts of what is held are
  pub parts_long : (places : List G) (used : ℕ) (h a b : List G) → used ≤ length places → take used places ≡ h ++ (a ++ b) → used ≡ length h + (length a + length b)
  parts_long places used h a b fits is = sym (length-take-le used places fits) ∙ ap length is ∙ length-append h (a ++ b) ∙ ap (λ n. length h + n) (length-append a b)

  -- the topmost context has been taken into the one below
  pub merged : (f : G → G → G) (places ys : List G) (used n m at k end : ℕ) → used ≤ length places → at + n ≡ end → end + m ≡ used → k ≡ n + m
      → ys ≡ zipInto f (take n (take k (drop at places))) (drop n (take k (drop at places))) ++ drop n (take k (drop at places))
      → (h a b : List G) → length a ≡ n → length b ≡ m → take used places ≡ h ++ (a ++ b) → take end (put_mid at k places ys) ≡ h ++ zipInto f a b
  merged f places ys used n m at k end fits en sum k_is is h a b ea eb held =
      let long = parts_long places used h a b fits held in
      let start : length h ≡ at = omega arith in
      let wide : length (a ++ b) ≡ k = length-append a b ∙ (let e : length a + length b ≡ k = omega arith in e) in
      let as_one : take used places ≡ h ++ ((a ++ b) ++ []) = held ∙ ap (λ l. h ++ l) (sym (append-nil (a ++ b))) in
      let part = part_is places used at k h (a ++ b) [] fits as_one start wide in
      let z = zipInto f a b in
      let ys_is : ys ≡ z ++ b = is ∙ ap (λ l. zipInto f (take n l) (drop n l) ++ drop n l) part ∙ ap₂ (λ x y. zipInto f x y ++ y) (take_at a b n ea) (drop_at a b n ea) in
      let zip = length_zip f a b in
      let whole_long = length-append h z in
      ap (take end) (rewritten places used at k h (a ++ b) [] fits as_one start wide ys ∙ ap (λ l. h ++ (l ++ ([] ++ drop used places))) ys_is
      ∙ ap (λ l. h ++ l) (append_assoc z b ([] ++ drop used places)) ∙ sym (append_assoc h z (b ++ ([] ++ drop used places))))
      ∙ take_at (h ++ z) (b ++ ([] ++ drop used places)) end (omega arith)

  -- the context below the topmost one has been rewritten by F
  pub below : (places ys : List G) (used n m at k : ℕ) → used ≤ length places → at + n + m ≡ used → k ≡ n → (F : List G → List G) → ((l : List G) → length (F l) ≡ length l)
      → ys ≡ F (take k (drop at places))
      → (h a b : List G) → length a ≡ n → length b ≡ m → take used places ≡ h ++ (a ++ b) → take used (put_mid at k places ys) ≡ h ++ (F a ++ b)
  below places ys used n m at k fits sum k_is F same is h a b ea eb held =
      let long = parts_long places used h a b fits held in
      let start : length h ≡ at = omega arith in
      let wide : length a ≡ k = omega arith in
      let ys_is : ys ≡ F a = is ∙ ap F (part_is places used at k h a b fits held start wide) in
      let kept = same a in
      let long_1 = length-append h (F a ++ b) in
      let long_2 = length-append (F a) b in
      ap (take used) (rewritten places used at k h a b fits held start wide ys ∙ ap (λ l. h ++ (l ++ (b ++ drop used places))) ys_is
      ∙ ap (λ l. h ++ l) (sym (append_assoc (F a) b (drop used places))) ∙ sym (append_assoc h (F a ++ b) (drop used places)))
      ∙ take_at (h ++ (F a ++ b)) (drop used places) used (omega arith)

  -- a context put on top
  pub pushed : (places ys : List G) (used n k : ℕ) (z : List G) → used + n ≤ length places → k ≡ n → length z ≡ n → ys ≡ z → take (used + n) (put_mid used k places ys) ≡ take used places ++ z
  pushed places ys used n k z fits e l is =
      let long = ap length is in
      take-put_mid used k places ys (used + n) (omega arith) (omega arith) ∙ ap (λ t. take used places ++ t) is

  -- one use of a level
  pub get_or_from_0 : (n : ℕ) (γ : ℕ → G) (k : ℕ) (d : G) → k < n → get_or (from_0 n γ) k d ≡ γ k
  get_or_from_0 zero γ k d lt = absurd (omega arith)
  get_or_from_0 (suc n) γ zero d lt = refl
  get_or_from_0 (suc n) γ (suc k) d lt = get_or_from_0 n (λ l. γ (suc l)) k d (omega arith)

  -- a list is what a function gives
  pub is_from_0 : (xs : List G) (n : ℕ) (γ : ℕ → G) → length xs ≡ n → ((k : ℕ) (d : G) → k < n → get_or xs k d ≡ γ k) → xs ≡ from_0 n γ
  is_from_0 xs n γ e h = same_lists xs (from_0 n γ) (e ∙ sym (from_0_length n γ)) (λ k d lt. h k d (omega arith) ∙ sym (get_or_from_0 n γ k d (omega arith)))

  pub name_row : (o : Ops G) (n j : ℕ) (x : G) → j < n → x ≡ o.one → set (replicate n o.zero) j x ≡ from_0 n (one_of o j)
  name_row o n j x lt x_is =
      let len = length-replicate n o.zero in
      is_from_0 (set (replicate n o.zero) j x) n (one_of o j) (length-set (replicate n o.zero) j x ∙ len)
      (λ k d h. elim (cases_eq k j) [
        | inl e ↦
            ap (λ i. get_or (set (replicate n o.zero) j x) i d) e ∙ get_or-set_same (replicate n o.zero) j x d (omega arith) ∙ x_is
            ∙ sym (ap (λ b. cond b o.one o.zero) (eq-eqb k j e))
        | inr ne ↦
            get_or-set_other (replicate n o.zero) j k x d ne ∙ get_or-replicate n k o.zero d h ∙ sym (ap (λ b. cond b o.one o.zero) (ne_eqb k j ne))
      ])
