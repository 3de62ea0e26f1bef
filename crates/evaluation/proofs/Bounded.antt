-- The stocks add up and the bounds are kept, in every flight. Assumes nothing.
use Rattle.std.proofs.Common.{◌≡◌, ℕ, zero, suc, ◌+◌, ◌<◌, ◌≤◌, Bool, true, false, cond, eqb, ltb, leb, ◌⊎◌, List, [], ◌∷◌, ◌++◌, reverse, length, drop, sym, refl, ap, ◌∙◌, ap₂, inl, inr, append_assoc, le_refl, add-zero, suc-add, zero-add, arith, length-append}
use mathlib.Core.Option.{some, none}
use Rattle.std.proofs.lemmas.Bool.{leb-true, leb-false, ltb-true, lt-ltb, eq-eqb, ne_eqb, cases_eq}
use Rattle.plan.specs.Trees.{Leg, Plan}
use Rattle.evaluation.specs.Bounds.{max_begun, max_depth, max_entries}
use Rattle.evaluation.specs.Flight.{Entry, made, lookup, Ending, in_air, long, deep, full, Readings, State, Out, ended, value, house, gate, tick, note, bump, draw, store, stores_log, start, fly_legs, state_at, lookups}
use Rattle.evaluation.specs.Laws.{stores_in, store_lookups, Reason, StocksAddUp, BoundsKept}
use Rattle.evaluation.proofs.Steps.{main_evaluation}
use Rattle.evaluation.proofs.Kept.{Ends, Keeps, Passes, Invariant, keeps}

pub lookups_append : (b : ℕ) (l m : List Entry) → lookups b (l ++ m) ≡ lookups b l + lookups b m
lookups_append b [] m = sym (zero-add (lookups b m))
lookups_append b (made k c ∷ l) m = lookups_append b l m
lookups_append b (lookup k c ∷ l) m = go (lookups_append b l m) (eqb b c)
  where
    go : lookups b (l ++ m) ≡ lookups b l + lookups b m → (x : Bool)
        → cond x (suc (lookups b (l ++ m))) (lookups b (l ++ m)) ≡ cond x (suc (lookups b l)) (lookups b l) + lookups b m
    go ih true = ap suc ih ∙ sym (suc-add (lookups b l) (lookups b m))
    go ih false = ih

pub stores_unread : (f n b : ℕ) → lookups b (stores_log f n) ≡ 0
stores_unread f zero b = refl
stores_unread f (suc n) b = lookups_append b (stores_log f n) (made (f + n) n ∷ []) ∙ ap (λ x. x + 0) (stores_unread f n b)

stores_length : (f n : ℕ) → length (stores_log f n) ≡ n
stores_length f zero = refl
stores_length f (suc n) = length-append (stores_log f n) (made (f + n) n ∷ []) ∙ ap (λ x. x + 1) (stores_length f n) ∙ (let q : n + 1 ≡ suc n = omega arith in q)

one_longer : (l : List Entry) (e : Entry) → length (l ++ (e ∷ [])) ≡ suc (length l)
one_longer l e = length-append l (e ∷ []) ∙ (let q : length l + 1 ≡ suc (length l) = omega arith in q)

drop_front : (xs ys : List ℕ) → drop (length xs) (xs ++ ys) ≡ ys
drop_front [] ys = refl
drop_front (x ∷ xs) ys = drop_front xs ys

-- an entry that is no lookup of the store k
pub unread : (p k : ℕ) (l : List Entry) (e : Entry) → (k < p → lookups k (e ∷ []) ≡ 0) → store_lookups p k (l ++ (e ∷ [])) ≡ store_lookups p k l
unread p k l e h = go (ltb k p) refl
  where
    go : (x : Bool) → ltb k p ≡ x → cond x (lookups k (l ++ (e ∷ []))) 0 ≡ cond x (lookups k l) 0
    go true q = lookups_append k l (e ∷ []) ∙ ap (λ n. lookups k l + n) (h (ltb-true k p q)) ∙ add-zero _
    go false q = refl

-- n evaluations are granted; p stores read r at the start.
module _ (n p : ℕ) (r : Readings) where
  -- What was taken off the store k, and what is left of it.
  abbrev Split : ℕ → List ℕ → List Entry → Type 0
  Split k ns l = (taken : List ℕ) × (r k ≡ taken ++ ns) × (length taken ≡ store_lookups p k l)

  record Bounded (s : State) : Type 0 where
    budget : s.begun ≤ n
    begun : s.begun ≤ max_begun
    entries : p ≤ max_entries → length s.log ≤ max_entries
    next : p ≤ s.next
    stock : (k : ℕ) → Split k (s.left k) s.log

  abbrev Why : Ending → State → Type 0
  Why e s = p ≤ max_entries → Reason n p (ended e s)

  no_draw : (s : State) (e : Entry) → ((k : ℕ) → k < p → lookups k (e ∷ []) ≡ 0) → Bounded s → (k : ℕ) → Split k (s.left k) (s.log ++ (e ∷ []))
  no_draw s e h i k = let q = i.stock k in (q.0, q.1, q.2 ∙ sym (unread p k s.log e (h k)))

  -- room for one more entry
  roomy : (s t : State) → Bounded s → (length s.log < max_entries → Bounded t) → Passes Bounded Why ((house n).room (length s.log)) s t
  roomy s t i h = go (leb max_entries (length s.log)) refl
    where
      go : (x : Bool) → leb max_entries (length s.log) ≡ x → Passes Bounded Why (cond x (some full) none) s t
      go true e = λ few. (let a = i.entries few in let b = leb-true max_entries (length s.log) e in omega arith)
      go false e = h (leb-false max_entries (length s.log) e)

  noted : (s : State) (e : Entry) → length s.log < max_entries → length (s.log ++ (e ∷ [])) ≤ max_entries
  noted s e lt = let q = one_longer s.log e in omega arith

  begins : (d : ℕ) (s : State) → Bounded s → Passes Bounded Why ((house n).stops s.begun d) s (tick s)
  begins d s i = go (leb n s.begun) (leb max_begun s.begun) (ltb max_depth d) refl refl
    where
      go : (x y z : Bool) → leb n s.begun ≡ x → leb max_begun s.begun ≡ y
          → Passes Bounded Why (cond x (some in_air) (cond y (some long) (cond z (some deep) none))) s (tick s)
      go true y z e f = λ few. (let a = i.budget in let b = leb-true n s.begun e in omega arith)
      go false true z e f = λ few. (let a = i.begun in let b = leb-true max_begun s.begun f in omega arith)
      go false false true e f = λ few. tt
      go false false false e f = record {
        budget = (let a = leb-false n s.begun e in omega arith);
        begun = (let a = leb-false max_begun s.begun f in omega arith);
        entries = i.entries;
        next = i.next;
        stock = i.stock;
      }

  invariant : Invariant Bounded Why (house n) (λ b. p ≤ b)
  invariant = record {
    begins = begins;
    makes = λ k s i. roomy s (bump k s) i (λ lt. record {
      budget = i.budget;
      begun = i.begun;
      entries = λ few. noted s (made k s.next) lt;
      next = (let a = i.next in omega arith);
      stock = no_draw s (made k s.next) (λ j q. refl) i;
    });
    fresh = λ s i. i.next;
    looks = λ k b s new i. roomy s (note (lookup k b) s) i (λ lt. record {
      budget = i.budget;
      begun = i.begun;
      entries = λ few. noted s (lookup k b) lt;
      next = i.next;
      stock = no_draw s (lookup k b) (λ j q. ap (λ x. cond x 1 0) (ne_eqb j b (λ e. omega arith))) i;
    });
    needs = λ q s i. i;
  }

  drawn : (k i x : ℕ) (xs : List ℕ) (s : State) → i < p → s.left i ≡ x ∷ xs → Bounded s → (j : ℕ) → Split j (cond (eqb j i) xs (s.left j)) (s.log ++ (lookup k i ∷ []))
  drawn k i x xs s lt e v j = go (cases_eq j i)
    where
      go : (j ≡ i) ⊎ (¬ (j ≡ i)) → Split j (cond (eqb j i) xs (s.left j)) (s.log ++ (lookup k i ∷ []))
      go (inl q) =
          let a = v.stock j in
          let t : eqb j i ≡ true = eq-eqb j i q in
          let u : ltb j p ≡ true = lt-ltb j p (omega arith) in (
            a.0 ++ (x ∷ []),
            a.1 ∙ ap (λ l. a.0 ++ l) (ap s.left q ∙ e) ∙ sym (append_assoc a.0 (x ∷ []) xs) ∙ ap (λ b. (a.0 ++ (x ∷ [])) ++ cond b xs (s.left j)) (sym t),
            length-append a.0 (x ∷ []) ∙ ap (λ m. m + 1) (a.2 ∙ ap (λ b. cond b (lookups j s.log) 0) u)
                ∙ ap (λ b. lookups j s.log + cond b 1 0) (sym t) ∙ sym (lookups_append j s.log (lookup k i ∷ []))
                ∙ ap (λ b. cond b (lookups j (s.log ++ (lookup k i ∷ []))) 0) (sym u),
          )
      go (inr q) =
          let t : eqb j i ≡ false = ne_eqb j i q in
          let b = v.stock j in
          (b.0, b.1 ∙ ap (λ x. b.0 ++ cond x xs (s.left j)) (sym t), b.2 ∙ sym (unread p j s.log (lookup k i) (λ m. ap (λ x. cond x 1 0) t)))

  draws : (k i : ℕ) → i < p → Keeps Bounded Why (store (house n) k i) (store (house n) k i)
  draws k i lt = record { ends = λ d s v. go s (leb max_entries (length s.log)) refl v }
    where
      pulls : (s : State) (ns : List ℕ) → s.left i ≡ ns → length s.log < max_entries → Bounded s → Ends Bounded Why (draw (house n) ns k i s)
      pulls s [] e room v = (v, λ few. (i, lt, e))
      pulls s (x ∷ xs) e room v = record {
        budget = v.budget;
        begun = v.begun;
        entries = λ few. noted s (lookup k i) room;
        next = v.next;
        stock = drawn k i x xs s lt e v;
      }

      go : (s : State) (b : Bool) → leb max_entries (length s.log) ≡ b → Bounded s
          → Ends Bounded Why (gate (cond b (some full) none) s (λ s. draw (house n) (s.left i) k i s))
      go s true e v = (v, λ few. (let a = v.entries few in let b = leb-true max_entries (length s.log) e in omega arith))
      go s false e v = pulls s (s.left i) refl (leb-false max_entries (length s.log) e) v

  starts : (f : ℕ) → Bounded (start f p r)
  starts f = record {
    budget = omega arith;
    begun = omega arith;
    entries = λ few. (let q = stores_length f p in omega arith);
    next = le_refl p;
    stock = λ k. ([], refl, sym (go k (ltb k p)));
  }
    where
      go : (k : ℕ) (x : Bool) → cond x (lookups k (stores_log f p)) 0 ≡ 0
      go k true = stores_unread f p k
      go k false = refl

abbrev Flown : ℕ → List Leg → Readings → Out → Type 0
Flown n gs r o = Ends (Bounded n (stores_in gs) r) (Why n (stores_in gs) r) o

flown : (n : ℕ) (gs : List Leg) (r : Readings) → Flown n gs r (fly_legs (house n) gs r)
flown n [] r = starts n 0 r 0
flown n (main ∷ below) r =
    let p = length main.params in
    (main_evaluation (house n) (house n) (λ b. p ≤ b) _ (keeps (Bounded n p r) (Why n p r) (house n) (house n) (λ b. p ≤ b) (invariant n p r)) main below (draws n p r)
    ).ends 1 (start main.first p r) (starts n p r main.first)

state_of : (n : ℕ) (gs : List Leg) (r : Readings) (o : Out) → Flown n gs r o → Bounded n (stores_in gs) r (state_at o)
state_of n gs r (ended e s) h = h.0
state_of n gs r (value v s) h = h

bounded_at : (n : ℕ) (p : Plan) (r : Readings) → Bounded n (stores_in (reverse p.legs)) r (state_at (fly_legs (house n) (reverse p.legs) r))
bounded_at n p r = state_of n (reverse p.legs) r _ (flown n (reverse p.legs) r)

reason_of : (n : ℕ) (gs : List Leg) (r : Readings) (o : Out) → Flown n gs r o → stores_in gs ≤ max_entries → Reason n (stores_in gs) o
reason_of n gs r (ended e s) h few = h.1 few
reason_of n gs r (value v s) h few = tt

pub stocks_add_up : StocksAddUp
stocks_add_up = record {
  counts = λ n p r k.
      let q = (bounded_at n p r).stock k in
      let a = ap length q.1 ∙ length-append q.0 _ in
      let b = q.2 in
      omega arith;
  rest = λ n p r k. let q = (bounded_at n p r).stock k in sym (drop_front q.0 _) ∙ ap₂ drop q.2 (sym q.1);
}

pub bounds_kept : BoundsKept
bounds_kept = record {
  budget = λ n p r. (bounded_at n p r).budget;
  begun = λ n p r. (bounded_at n p r).begun;
  entries = λ n p r. (bounded_at n p r).entries;
  reason = λ n p r. reason_of n (reverse p.legs) r _ (flown n (reverse p.legs) r);
}
