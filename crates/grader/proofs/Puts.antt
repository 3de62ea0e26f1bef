-- Grades put among the answers, one part after another. Assumes nothing.
use Rattle.std.proofs.Common.{◌≡◌, ℕ, ◌+◌, ◌<◌, ◌≤◌, List, ◌++◌, length, get_or, take, drop, sym, ap, ◌∙◌, ap₂, append_assoc, arith, length-append, length-drop}
use Rattle.std.proofs.lemmas.List.{length-take-le, take-append-drop, take_at, drop_at, get_or_append_left, get_or-append-add, get_or-take}
use Rattle.grader.specs.Walk.{put}

module _ {G : Type 0} where
  put_at : (p m s gs : List G) (k : ℕ) → length p ≡ k → length m ≡ length gs → put k gs (p ++ (m ++ s)) ≡ p ++ (gs ++ s)
  put_at p m s gs k ep em =
      let long = length-append p m in
      ap₂ (λ x y. x ++ (gs ++ y)) (take_at p (m ++ s) k ep)
      (ap (drop (k + length gs)) (sym (append_assoc p m s)) ∙ drop_at (p ++ m) s (k + length gs) (omega arith))

  -- a list cut at k and at k + i + j
  pub record Cut (k i j : ℕ) (xs : List G) : Type 0 where
    pub p : List G
    pub m : List G
    pub q : List G
    pub s : List G
    pub is : xs ≡ p ++ (m ++ (q ++ s))
    pub long_p : length p ≡ k
    pub long_m : length m ≡ i
    pub long_q : length q ≡ j

  cut : (k i j : ℕ) (xs : List G) → k + i + j ≤ length xs → Cut k i j xs
  cut k i j xs le =
      let a = length-drop k xs in
      let ys = drop k xs in
      let b = length-drop i ys in
      let zs = drop i ys in
      record {
        p = take k xs;
        m = take i ys;
        q = take j zs;
        s = drop j zs;
        is = sym (take-append-drop k xs) ∙ ap (λ l. take k xs ++ l) (sym (take-append-drop i ys) ∙ ap (λ l. take i ys ++ l) (sym (take-append-drop j zs)));
        long_p = length-take-le k xs (omega arith);
        long_m = length-take-le i ys (omega arith);
        long_q = length-take-le j zs (omega arith);
      }

  -- more behind
  pub put_more : (k b : ℕ) (gs hs xs : List G) → b ≡ k + length gs → k + length gs + length hs ≤ length xs → put b hs (put k gs xs) ≡ put k (gs ++ hs) xs
  put_more k b gs hs xs e le =
      let c = cut k (length gs) (length hs) xs le in
      let long = length-append c.p gs in
      let both = length-append c.m c.q in
      let both' = length-append gs hs in
      let lp = c.long_p in
      let lm = c.long_m in
      let lq = c.long_q in
      ap (λ l. put b hs (put k gs l)) c.is ∙ ap (put b hs) (put_at c.p c.m (c.q ++ c.s) gs k c.long_p c.long_m ∙ sym (append_assoc c.p gs (c.q ++ c.s)))
      ∙ put_at (c.p ++ gs) c.q c.s hs b (omega arith) c.long_q
      ∙ append_assoc c.p gs (hs ++ c.s) ∙ ap (λ l. c.p ++ l) (sym (append_assoc gs hs c.s))
      ∙ sym (ap (put k (gs ++ hs)) (c.is ∙ ap (λ l. c.p ++ l) (sym (append_assoc c.m c.q c.s))) ∙ put_at c.p (c.m ++ c.q) c.s (gs ++ hs) k c.long_p (omega arith))

  -- more in front
  pub put_front : (k b : ℕ) (gs hs xs : List G) → b ≡ k + length gs → k + length gs + length hs ≤ length xs → put k gs (put b hs xs) ≡ put k (gs ++ hs) xs
  put_front k b gs hs xs e le =
      let c = cut k (length gs) (length hs) xs le in
      let long = length-append c.p c.m in
      let both = length-append c.m c.q in
      let both' = length-append gs hs in
      let lp = c.long_p in
      let lm = c.long_m in
      let lq = c.long_q in
      ap (λ l. put k gs (put b hs l)) (c.is ∙ sym (append_assoc c.p c.m (c.q ++ c.s)))
      ∙ ap (put k gs) (put_at (c.p ++ c.m) c.q c.s hs b (omega arith) c.long_q ∙ append_assoc c.p c.m (hs ++ c.s))
      ∙ put_at c.p c.m (hs ++ c.s) gs k c.long_p c.long_m ∙ ap (λ l. c.p ++ l) (sym (append_assoc gs hs c.s))
      ∙ sym (ap (put k (gs ++ hs)) (c.is ∙ ap (λ l. c.p ++ l) (sym (append_assoc c.m c.q c.s))) ∙ put_at c.p (c.m ++ c.q) c.s (gs ++ hs) k c.long_p (omega arith))

  pub put_below : (k i : ℕ) (gs xs : List G) (d : G) → i < k → k ≤ length xs → get_or (put k gs xs) i d ≡ get_or xs i d
  put_below k i gs xs d lt le =
      let long = length-take-le k xs le in
      get_or_append_left (take k xs) (gs ++ drop (k + length gs) xs) d i (omega arith) ∙ get_or-take k xs i d lt

  pub put_long : (k : ℕ) (gs xs : List G) → k + length gs ≤ length xs → length (put k gs xs) ≡ length xs
  put_long k gs xs le =
      let a = length-append (take k xs) (gs ++ drop (k + length gs) xs) in
      let b = length-append gs (drop (k + length gs) xs) in
      let c = length-drop (k + length gs) xs in
      let d = length-take-le k xs (omega arith) in
      omega arith

  pub put_here : (k j : ℕ) (gs xs : List G) (d : G) → j < length gs → k + length gs ≤ length xs → get_or (put k gs xs) (k + j) d ≡ get_or gs j d
  put_here k j gs xs d lt le =
      let long = length-take-le k xs (omega arith) in
      let rest = gs ++ drop (k + length gs) xs in
      ap (λ i. get_or (take k xs ++ rest) i d) (let e : k + j ≡ length (take k xs) + j = omega arith in e) ∙ get_or-append-add (take k xs) rest j d ∙ get_or_append_left gs (drop (k + length gs) xs) d j lt
