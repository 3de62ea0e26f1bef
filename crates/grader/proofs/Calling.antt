-- The arguments of a call, from the last to the first. Assumes nothing.
use Rattle.std.proofs.Common.{◌≡◌, ℕ, zero, suc, ◌+◌, ◌-◌, ◌<◌, ◌≤◌, List, [], ◌∷◌, ◌++◌, length, get_or, take, drop, reverse, sym, refl, ap, ◌∙◌, subst, ap₂, append_assoc, append-nil, add-one, arith, length-append}
use lib.ListN.{length-replicate, length-map}
use Rattle.std.proofs.lemmas.List.{take_more, drop_more, length-reverse, get_or-reverse, get_or_default}
use Rattle.scales.specs.Laws.{Ops}
use Rattle.scales.specs.Rows.{row_plus, row_times, row_zero}
use Rattle.scales.proofs.RowLists.{length_zip}
use Rattle.grader.specs.Walk.{RowsOn, concat, call_row}

module _ {G : Type 0} where
  pub concat_push : (us : List (List G)) (u : List G) → concat (us ++ (u ∷ [])) ≡ concat us ++ u
  concat_push [] u = append-nil u
  concat_push (v ∷ us) u = ap (λ l. v ++ l) (concat_push us u) ∙ sym (append_assoc v (concat us) u)

-- the context of a call asks for the grades of as many parameters as it has arguments
pub call_same : {G : Type 0} (o : Ops G) (r r' : ℕ → G) (n j : ℕ) (us : List (List G)) → ((i : ℕ) → j ≤ i → i < j + length us → r i ≡ r' i) → call_row o r j n us ≡ call_row o r' j n us
call_same o r r' n j [] h = refl
call_same o r r' n j (u ∷ us) h = ap₂ (λ x v. row_plus o (row_times o x u) v) (h j (omega arith) (omega arith)) (call_same o r r' n (suc j) us (λ i le lt. h i (omega arith) (omega arith)))

module _ {G : Type 0} (o : Ops G) (r : ℕ → G) (n c : ℕ) where
  -- On the stack `start`, which ends with a context of zeros, the arguments from the j-th on have been taken in; `now` is what is held.
  pub record Calling (start : List G) (j : ℕ) (now : List G) : Type 0 where
    pub all : (before : List G) → start ≡ before ++ row_zero o n → (k : RowsOn before c (λ i. n)) → now ≡ k.base ++ (concat (take j k.rows) ++ call_row o r j n (drop j k.rows))
    pub some : (before : List G) × (start ≡ before ++ row_zero o n) × RowsOn before c (λ i. n)

  call_long : (j : ℕ) (us : List (List G)) → ((k : ℕ) → k < length us → length (get_or us k []) ≡ n) → length (call_row o r j n us) ≡ n
  call_long j [] w = length-replicate n o.zero
  call_long j (u ∷ us) w = length_zip o.plus (row_times o (r j) u) (call_row o r (suc j) n us) ∙ length-map u (o.times (r j)) ∙ w 0 (omega arith)

  -- what stands on the stack before the argument i is taken in
  pub record Next (now : List G) (i : ℕ) : Type 0 where
    pub front : List G
    pub argument : List G
    pub sum : List G
    pub is : now ≡ front ++ (argument ++ sum)
    pub wide : length argument ≡ n
    pub sum_wide : length sum ≡ n

  rest_wide : (us : List (List G)) (j : ℕ) → ((k : ℕ) → k < length us → length (get_or us k []) ≡ n) → (k : ℕ) → k < length (drop j us) → length (get_or (drop j us) k []) ≡ n
  rest_wide us zero w k lt = w k lt
  rest_wide [] (suc j) w k lt = absurd (omega arith)
  rest_wide (u ∷ us) (suc j) w k lt = rest_wide us j (λ i l. w (suc i) (omega arith)) k lt

  -- the stack with the argument i below the sum of those behind it
  split : (base : List G) (us : List (List G)) (i : ℕ) → i < length us
      → base ++ (concat (take (i + 1) us) ++ call_row o r (i + 1) n (drop (i + 1) us)) ≡ (base ++ concat (take i us)) ++ (get_or us i [] ++ call_row o r (i + 1) n (drop (i + 1) us))
  split base us i lt =
      let sum = call_row o r (i + 1) n (drop (i + 1) us) in
      ap (λ l. base ++ (l ++ sum)) (ap concat (take_more us i [] lt) ∙ concat_push (take i us) (get_or us i []))
      ∙ ap (λ l. base ++ l) (append_assoc (concat (take i us)) (get_or us i []) sum) ∙ sym (append_assoc base (concat (take i us)) (get_or us i [] ++ sum))

  next : (start now : List G) (i : ℕ) → i < c → Calling start (i + 1) now → Next now i
  next start now i lt h =
      let s = h.some in
      let k = s.2 in
      let us = k.rows in
      let count = k.count in
      let w : (m : ℕ) → m < length us → length (get_or us m []) ≡ n = λ m l. k.wide m (omega arith) in
      record {
        front = k.base ++ concat (take i us);
        argument = get_or us i [];
        sum = call_row o r (i + 1) n (drop (i + 1) us);
        is = h.all s.0 s.1 k ∙ split k.base us i (omega arith);
        wide = k.wide i lt;
        sum_wide = call_long (i + 1) (drop (i + 1) us) (rest_wide us (i + 1) w);
      }

  pub deep : (start now : List G) (i : ℕ) → i < c → Calling start (i + 1) now → n + n ≤ length now
  deep start now i lt h =
      let x = next start now i lt h in
      let long = ap length x.is ∙ length-append x.front (x.argument ++ x.sum) ∙ ap (λ m. length x.front + m) (length-append x.argument x.sum) in
      let a = x.wide in
      let b = x.sum_wide in
      omega arith

  pub goes_on : (start now later : List G) (i : ℕ) → i < c → Calling start (i + 1) now
      → ((h a b : List G) → length a ≡ n → length b ≡ n → now ≡ h ++ (a ++ b) → later ≡ h ++ row_plus o (row_times o (r i) a) b) → Calling start i later
  goes_on start now later i lt h step = record {
    all = λ before e k. (
        let us = k.rows in
        let count = k.count in
        let w : (m : ℕ) → m < length us → length (get_or us m []) ≡ n = λ m l. k.wide m (omega arith) in
        let sum = call_row o r (i + 1) n (drop (i + 1) us) in
        step (k.base ++ concat (take i us)) (get_or us i []) sum (k.wide i lt) (call_long (i + 1) (drop (i + 1) us) (rest_wide us (i + 1) w))
        (h.all before e k ∙ split k.base us i (omega arith))
        ∙ append_assoc k.base (concat (take i us)) (row_plus o (row_times o (r i) (get_or us i [])) sum)
        ∙ ap (λ m. k.base ++ (concat (take i us) ++ row_plus o (row_times o (r i) (get_or us i [])) (call_row o r m n (drop (i + 1) us)))) (add-one i)
        ∙ ap (λ l. k.base ++ (concat (take i us) ++ call_row o r i n l)) (sym (drop_more us i [] (omega arith))));
    some = h.some;
  }

-- The grades xs are taken from the last on: x comes after m others.
module _ {G : Type 0} (o : Ops G) (n : ℕ) (xs : List G) where
  abbrev pub Taken : List G → ℕ → List G → Type 0
  Taken = Calling o (λ j. get_or xs j o.zero) n (length xs)

  abbrev IsNext : ℕ → G → Type 0
  IsNext m x = (m < length (reverse xs)) × (x ≡ get_or (reverse xs) m x)

  module _ (start now : List G) (m : ℕ) (x : G) (turn : IsNext m x) (h : Taken start (length xs - m) now) where
    abbrev i : ℕ
    i = length xs - 1 - m

    below_end : i < length xs
    below_end = let long = length-reverse xs in let lt = turn.0 in omega arith

    before : Taken start (i + 1) now
    before = let long = length-reverse xs in let lt = turn.0 in subst (λ j. Taken start j now) (let e : length xs - m ≡ i + 1 = omega arith in e) h

    x_is : x ≡ get_or xs i o.zero
    x_is =
        let long = length-reverse xs in
        let lt = turn.0 in
        let at = below_end in
        turn.1 ∙ get_or-reverse xs m x (omega arith) ∙ get_or_default xs i x o.zero at

    pub turn_deep : n + n ≤ length now
    turn_deep = deep o (λ j. get_or xs j o.zero) n (length xs) start now i below_end before

    pub turn_on : (later : List G) (k : ℕ) → k ≡ m + 1
        → ((f a b : List G) → length a ≡ n → length b ≡ n → now ≡ f ++ (a ++ b) → later ≡ f ++ row_plus o (row_times o x a) b) → Taken start (length xs - k) later
    turn_on later k k_is step =
        subst (λ j. Taken start j later) (let e : i ≡ length xs - k = omega arith in e)
        (goes_on o (λ j. get_or xs j o.zero) n (length xs) start now later i below_end before
        (λ f a b ea eb is. step f a b ea eb is ∙ ap (λ y. f ++ row_plus o (row_times o y a) b) x_is))

  pub taken_all : (before start now : List G) (m : ℕ) → m ≡ length (reverse xs) → start ≡ before ++ row_zero o n → Taken start (length xs - m) now
      → (k : RowsOn before (length xs) (λ i. n)) → now ≡ k.base ++ call_row o (λ j. get_or xs j o.zero) 0 n k.rows
  taken_all before start now m all e h k =
      let long = length-reverse xs in
      let none : length xs - m ≡ 0 = omega arith in
      let done = subst (λ j. Taken start j now) none h in
      done.all before e k
