-- What a draw tells of the readings before and after it, for every bay. Assumes nothing.
use Rattle.std.proofs.Common.{◌≡◌, ℕ, suc, ◌+◌, ◌-◌, ◌^◌, ◌<◌, ◌≤◌, Bool, true, false, cond, eqb, List, [], ◌∷◌, ◌++◌, length, get_or, take, drop, set, Some, None, Option, sym, refl, ap, ◌∙◌, subst, arith}
use Rattle.std.proofs.lemmas.List.{drop_more, take_more, set_at, append_assoc, length-drop, length-take}
use Rattle.std.proofs.lemmas.Bool.Decides.{nat_tests}
use Rattle.bay.specs.Readings.{Draws, DrawsInto, Words}

-- the stock of the store drawn from is one less after it
pub stock_after : (f f' : ℕ → List ℕ) (s x : ℕ) → Draws f s (Some x) f' → length (f s) ≡ suc (length (f' s))
stock_after f f' s x h = ap length h.0

-- every other store reads as before
pub others_stay : (f f' : ℕ → List ℕ) (s : ℕ) (o : Option ℕ) (k : ℕ) → (k ≡ s → ⊥) → Draws f s o f' → f' k ≡ f k
others_stay f f' s None k ne h = h.1 k
others_stay f f' s (Some x) k ne h = h.1 k ne

-- a store with a stock gives a reading
pub granted : (f f' : ℕ → List ℕ) (s : ℕ) (o : Option ℕ) → 0 < length (f s) → Draws f s o f' → (x : ℕ) × (o ≡ Some x)
granted f f' s None h d = absurd (let e : length (f s) ≡ 0 = ap length d.0 in omega arith)
granted f f' s (Some x) h d = (x, refl)

-- an empty store refuses
pub refused : (f f' : ℕ → List ℕ) (s : ℕ) (o : Option ℕ) → f s ≡ [] → Draws f s o f' → o ≡ None
refused f f' s None h d = refl
refused f f' s (Some x) h d = absurd (let e : length (f s) ≡ suc (length (f' s)) = ap length d.0 in let z : length (f s) ≡ 0 = ap length h in omega arith)

-- the reading that a draw answers is the first, so it has 32 bits where all have
pub drawn_word : (f f' : ℕ → List ℕ) (s x : ℕ) → Words (f s) → Draws f s (Some x) f' → x < 2 ^ 32
drawn_word f f' s x w h = subst (λ n. n < 2 ^ 32) (ap (λ l. get_or l 0 0) h.0) (w 0)

-- what every store reads after a granted draw, in one expression
pub after_draw : (f f' : ℕ → List ℕ) (s x : ℕ) → Draws f s (Some x) f' → (k : ℕ) → f' k ≡ cond (eqb k s) (drop 1 (f s)) (f k)
after_draw f f' s x h k = go (eqb k s) refl
  where
    go : (b : Bool) → eqb k s ≡ b → f' k ≡ cond b (drop 1 (f s)) (f k)
    go true q = let e : k ≡ s = grind (arith, nat_tests) in ap f' e ∙ sym (ap (drop 1) h.0)
    go false q = h.1 k (λ e. let z : ◌≡◌ {A = ℕ} 0 1 = grind (arith, nat_tests) in omega arith)

-- the same of all stores at once
pub after_draw_all : (f f' : ℕ → List ℕ) (s x : ℕ) → Draws f s (Some x) f' → f' ≡ (λ k. cond (eqb k s) (drop 1 (f s)) (f k))
after_draw_all f f' s x h = λ i. λ k. after_draw f f' s x h k i

pub after_refusal : (f f' : ℕ → List ℕ) (s : ℕ) → Draws f s None f' → f' ≡ f
after_refusal f f' s h = λ i. λ k. h.1 k i

-- what a draw answers and leaves follows from what was to come
pub drawn_same : (f f' f'' : ℕ → List ℕ) (s : ℕ) (o o'' : Option ℕ) → Draws f s o f' → Draws f s o'' f'' → (o ≡ o'') × ((k : ℕ) → f' k ≡ f'' k)
drawn_same f f' f'' s None None h g = (refl, λ k. h.1 k ∙ sym (g.1 k))
drawn_same f f' f'' s None (Some y) h g = absurd (let e : 0 ≡ suc (length (f'' s)) = ap length (sym h.0 ∙ g.0) in omega arith)
drawn_same f f' f'' s (Some x) None h g = absurd (let e : 0 ≡ suc (length (f' s)) = ap length (sym g.0 ∙ h.0) in omega arith)
drawn_same f f' f'' s (Some x) (Some y) h g = (
  ap (λ l. Some (get_or l 0 0)) (sym h.0 ∙ g.0),
  λ k. after_draw f f' s x h k ∙ sym (after_draw f f'' s y g k),
)

-- readings that came and readings left are those that were to come
pub into_stock : (f f' : ℕ → List ℕ) (s came : ℕ) (places filled : List ℕ) → DrawsInto f s places came filled f' → length (f s) ≡ came + length (f' s)
into_stock f f' s came places filled h =
    let e : length (f' s) ≡ length (f s) - length places = ap length h.left ∙ length-drop (length places) (f s) in
    let n = h.count in
    omega arith

-- Drawing into a list, when `came` readings stand in front.
pub record Midway (first : ℕ → List ℕ) (s : ℕ) (room : List ℕ) (came : ℕ) (places : List ℕ) (left : ℕ → List ℕ) : Type 0 where
  pub there : came ≤ length (first s)
  pub fits : came ≤ length room
  pub told : places ≡ take came (first s) ++ drop came room
  pub rest : left s ≡ drop came (first s)
  pub others : (k : ℕ) → (k ≡ s → ⊥) → left k ≡ first k

pub midway_more : (first : ℕ → List ℕ) (s : ℕ) (room : List ℕ) (came : ℕ) (places : List ℕ) (left left' : ℕ → List ℕ) (x : ℕ)
    → came < length room → Midway first s room came places left → Draws left s (Some x) left' → Midway first s room (came + 1) (set places came x) left'
midway_more first s room came places left left' x lt m d =
    let e : drop came (first s) ≡ x ∷ left' s = sym m.rest ∙ d.0 in
    let n : length (first s) - came ≡ suc (length (left' s)) = sym (length-drop came (first s)) ∙ ap length e in
    let w : came < length (first s) = omega arith in
    let split : x ∷ left' s ≡ get_or (first s) came 0 ∷ drop (came + 1) (first s) = sym e ∙ drop_more (first s) came 0 w in
    let p : length (take came (first s)) ≡ came = length-take came (first s) ∙ omega arith in
    record {
      there = omega arith;
      fits = omega arith;
      told =
          ap (λ l. set l came x) (m.told ∙ ap (λ l. take came (first s) ++ l) (drop_more room came 0 lt))
          ∙ set_at (take came (first s)) (get_or room came 0) (drop (came + 1) room) x came p
          ∙ sym (append_assoc (take came (first s)) (x ∷ []) (drop (came + 1) room))
          ∙ ap (λ y. (take came (first s) ++ (y ∷ [])) ++ drop (came + 1) room) (ap (λ l. get_or l 0 0) split)
          ∙ ap (λ l. l ++ drop (came + 1) room) (sym (take_more (first s) came 0 w));
      rest = ap (drop 1) split;
      others = λ k ne. d.1 k ne ∙ m.others k ne;
    }
