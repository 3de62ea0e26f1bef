-- Under looser limits a flight goes the same way, and further where a limit that was loosened ended it. Assumes nothing.
use Rattle.std.proofs.Common.{◌≡◌, ℕ, suc, ◌+◌, ◌<◌, Bool, true, false, cond, ltb, leb, ◌⊎◌, List, [], ◌∷◌, ◌++◌, reverse, length, sym, refl, ap, ◌∙◌, subst, inl, inr, append_assoc, append-nil, arith}
use mathlib.Core.Option.{Option, some, none}
use Rattle.std.proofs.lemmas.Bool.{leb-false, lt-leb}
use Rattle.plan.specs.Trees.{Leg, Plan}
use Rattle.evaluation.specs.Bounds.{max_begun, max_depth, max_entries}
use Rattle.evaluation.specs.Flight.{Value, v_unit, v_number, Entry, lookup, Ending, in_air, long, deep, full, empty, Readings, State, Out, ended, value, Comp, Need, a_leg, Limits, house, free, gate, and_then, tick, note, bump, set_store, dry_draw, draw, store, start, fly_legs, fly, flight, state_at}
use Rattle.evaluation.specs.Laws.{stores_in, stores_of, Prefix, StillInAir, BudgetsAdd, UnlimitedExtends}
use Rattle.evaluation.proofs.Steps.{apart, Steps, main_evaluation}
use Rattle.evaluation.proofs.Kept.{Ends, Keeps, Passes, at_gate, keeps}

-- The log only grows.

one_entry : (l : List Entry) (e : Entry) (m : List Entry) → Prefix l m → Prefix l (m ++ (e ∷ []))
one_entry l e m h = (h.0 ++ (e ∷ []), ap (λ x. x ++ (e ∷ [])) h.1 ∙ append_assoc l h.0 (e ∷ []))

abbrev Has : List Entry → State → Type 0
Has l s = Prefix l s.log

abbrev Anyhow : Ending → State → Type 0
Anyhow e s = Unit {0}

abbrev Any : ℕ → Type 0
Any b = Unit {0}

abbrev Grows : Comp → Type 0
Grows f = (l : List Entry) → Keeps (Has l) Anyhow f f

passes : (l : List Entry) (o : Option Ending) (s t : State) → Has l t → Passes (Has l) Anyhow o s t
passes l (some e) s t h = tt
passes l none s t h = h

growing : (L : Limits) (l : List Entry) → Steps L L Any (Keeps (Has l) Anyhow)
growing L l = keeps (Has l) Anyhow L L Any record {
  begins = λ d s i. passes l (L.stops s.begun d) s (tick s) i;
  makes = λ k s i. passes l (L.room (length s.log)) s (bump k s) (one_entry l _ s.log i);
  fresh = λ s i. tt;
  looks = λ k b s new i. passes l (L.room (length s.log)) s (note (lookup k b) s) (one_entry l _ s.log i);
  needs = λ q s i. passes l (L.unmet q) s s i;
}

store_grows : (L : Limits) (k i : ℕ) → Grows (store L k i)
store_grows L k i l = record { ends = λ d s h. at_gate (Has l) Anyhow (L.room (length s.log)) s s _ h (passes l (L.room (length s.log)) s s h) (λ h. go (s.left i) s h) }
  where
    dried : (o : Option ℕ) (s : State) → Has l s → Ends (Has l) Anyhow (dry_draw o k i s)
    dried none s h = (h, tt)
    dried (some x) s h = one_entry l (lookup k i) s.log h

    go : (ns : List ℕ) (s : State) → Has l s → Ends (Has l) Anyhow (draw L ns k i s)
    go [] s h = dried L.dry s h
    go (x ∷ xs) s h = one_entry l (lookup k i) s.log h

-- An ending that is open may be passed under the looser limits.
module _ (Open : Ending → Type 0) (p : ℕ) where
  -- The next entry is a lookup of one of the p stores, which has no reading left.
  abbrev Awaits : State → List Entry → Type 0
  Awaits s rest = (k i : ℕ) × (more : List Entry) × (rest ≡ lookup k i ∷ more) × (i < p) × (s.left i ≡ [])

  abbrev Beyond : Ending → State → Out → Type 0
  Beyond e s o = (rest : List Entry) × ((state_at o).log ≡ s.log ++ rest) × (e ≡ empty → Awaits s rest)

  abbrev pub Follows : Out → Out → Type 0
  Follows (value v s) o = o ≡ value v s
  Follows (ended e s) o = (o ≡ ended e s) ⊎ (Open e × Beyond e s o)

  abbrev Looser : Option Ending → Option Ending → Type 0
  Looser a b = (a ≡ b) ⊎ ((e : Ending) × (a ≡ some e) × Open e × (¬ (e ≡ empty)))

  pub record Loosened (L L' : Limits) : Type 0 where
    pub stops : (b d : ℕ) → Looser (L.stops b d) (L'.stops b d)
    pub room : (n : ℕ) → Looser (L.room n) (L'.room n)
    pub unmet : (q : Need) → Looser (L.unmet q) (L'.unmet q)
    pub dry : (L.dry ≡ L'.dry) ⊎ ((L.dry ≡ none) × Open empty)

  pub record Sim (c f : Comp) : Type 0 where
    pub grows : Grows f
    pub follows : (d : ℕ) (s : State) → Follows (c d s) (f d s)

  itself : (o : Out) → Follows o o
  itself (ended e s) = inl refl
  itself (value v s) = refl

  longer : (l : List Entry) (o : Out) → Ends (Has l) Anyhow o → Prefix l (state_at o).log
  longer l (ended e s) h = h.0
  longer l (value v s) h = h

  grown : (f : Comp) → Grows f → (d : ℕ) (s : State) → Prefix s.log (state_at (f d s)).log
  grown f g d s = longer s.log (f d s) ((g s.log).ends d s ([], sym (append-nil s.log)))

  follow_gate : (a b : Option Ending) (s : State) (k h : State → Out) → Looser a b → Prefix s.log (state_at (gate b s h)).log → Follows (k s) (h s) → Follows (gate a s k) (gate b s h)
  follow_gate a b s k h (inl e) g f = subst (λ b. Follows (gate a s k) (gate b s h)) e (go a)
    where
      go : (a : Option Ending) → Follows (gate a s k) (gate a s h)
      go none = f
      go (some e) = inl refl
  follow_gate a b s k h (inr (e, q, may, other)) g f =
      subst (λ a. Follows (gate a s k) (gate b s h)) (sym q) (inr (may, (g.0, g.1, λ z. absurd (other z))))

  follow_then : (o o' : Out) (k h : Value → State → Out) → Follows o o' → ((v : Value) (s : State) → Prefix s.log (state_at (h v s)).log) → ((v : Value) (s : State) → Follows (k v s) (h v s))
      → Follows (and_then o k) (and_then o' h)
  follow_then (value v s) o' k h x g f = subst (λ o. Follows (k v s) (and_then o h)) (sym x) (f v s)
  follow_then (ended e s) o' k h (inl x) g f = inl (ap (λ o. and_then o h) x)
  follow_then (ended e s) o' k h (inr (may, x)) g f = inr (may, go o' x)
    where
      go : (o : Out) → Beyond e s o → Beyond e s (and_then o h)
      go (ended e' t) x = x
      go (value v t) x =
          let y = g v t in (
            x.0 ++ y.0,
            y.1 ∙ ap (λ l. l ++ y.0) x.1 ∙ append_assoc s.log x.0 y.0,
            λ z. let a = x.2 z in (a.0, a.1, a.2 ++ y.0, ap (λ l. l ++ y.0) a.3, a.4, a.5),
          )

  module _ (L L' : Limits) (W : Loosened L L') where
    abbrev G : (l : List Entry) → Steps L' L' Any (Keeps (Has l) Anyhow)
    G l = growing L' l

    -- What grows, and goes as the first does from state to state.
    sim : (c f : Comp) → Grows f → ((d : ℕ) (s : State) → Prefix s.log (state_at (f d s)).log → Follows (c d s) (f d s)) → Sim c f
    sim c f g h = record { grows = g; follows = λ d s. h d s (grown f g d s) }

    steps : Steps L L' Any Sim
    steps = record {
      gives = λ v. sim _ _ (λ l. (G l).gives v) (λ d s g. refl);
      begins = λ c f h. sim _ _ (λ l. (G l).begins f f (h.grows l))
          (λ d s g. follow_gate (L.stops s.begun d) (L'.stops s.begun d) s _ _ (W.stops s.begun d) g (h.follows d (tick s)));
      downs = λ c f h. sim _ _ (λ l. (G l).downs f f (h.grows l)) (λ d s g. h.follows (suc d) s);
      thens = λ c f c' f' h i. sim _ _ (λ l. (G l).thens f f f' f' (h.grows l) (λ v. (i v).grows l))
          (λ d s g. follow_then (c d s) (f d s) _ _ (h.follows d s) (λ v s. grown (f' v) (i v).grows d s) (λ v s. (i v).follows d s));
      makes = λ k c f h. sim _ _ (λ l. (G l).makes k f f (λ b new. (h b new).grows l))
          (λ d s g. follow_gate (L.room (length s.log)) (L'.room (length s.log)) s _ _ (W.room (length s.log)) g ((h s.next tt).follows d (bump k s)));
      looks = λ k b c f new h. sim _ _ (λ l. (G l).looks k b f f new (h.grows l))
          (λ d s g. follow_gate (L.room (length s.log)) (L'.room (length s.log)) s _ _ (W.room (length s.log)) g (h.follows (suc d) (note (lookup k b) s)));
      needs = λ q c f h. sim _ _ (λ l. (G l).needs q f f (h.grows l))
          (λ d s g. follow_gate (L.unmet q) (L'.unmet q) s _ _ (W.unmet q) g (h.follows d s));
    }

    draws : (k i : ℕ) → i < p → Sim (store L k i) (store L' k i)
    draws k i lt =
        sim _ _ (store_grows L' k i)
        (λ d s g. follow_gate (L.room (length s.log)) (L'.room (length s.log)) s _ _ (W.room (length s.log)) g (go (s.left i) s refl))
      where
        dried : (a b : Option ℕ) (s : State) → s.left i ≡ [] → (a ≡ b) ⊎ ((a ≡ none) × Open empty) → Follows (dry_draw a k i s) (dry_draw b k i s)
        dried a b s e (inl q) = subst (λ b. Follows (dry_draw a k i s) (dry_draw b k i s)) q (itself (dry_draw a k i s))
        dried a none s e (inr (q, may)) = subst (λ a. Follows (dry_draw a k i s) (dry_draw none k i s)) (sym q) (inl refl)
        dried a (some x) s e (inr (q, may)) =
            subst (λ a. Follows (dry_draw a k i s) (dry_draw (some x) k i s)) (sym q) (inr (may, (lookup k i ∷ [], refl, λ z. (k, i, [], refl, lt, e))))

        go : (ns : List ℕ) (s : State) → s.left i ≡ ns → Follows (draw L ns k i s) (draw L' ns k i s)
        go [] s e = dried L.dry L'.dry s e W.dry
        go (x ∷ xs) s e = refl

-- The flight of the legs, under both limits.
pub follows : (Open : Ending → Type 0) (L L' : Limits) (gs : List Leg) (r : Readings) → Loosened Open (stores_in gs) L L' → Follows Open (stores_in gs) (fly_legs L gs r) (fly_legs L' gs r)
follows Open L L' [] r W =
    ((steps Open 0 L L' W).needs a_leg _ _ ((steps Open 0 L L' W).gives v_unit)).follows 1 (start 0 0 r)
follows Open L L' (main ∷ below) r W =
    let p = length main.params in
    (main_evaluation L L' Any _ (steps Open p L L' W) main below (draws Open p L L' W)).follows 1 (start main.first p r)

-- One budget and a greater one: only IN AIR is passed.

abbrev IsAir : Ending → Type 0
IsAir e = e ≡ in_air

more : (n m p : ℕ) → Loosened IsAir p (house n) (house (n + m))
more n m p = record {
  stops = λ b d. go b d (leb n b) (leb (n + m) b) refl refl;
  room = λ l. inl refl;
  unmet = λ q. inl refl;
  dry = inl refl;
}
  where
    go : (b d : ℕ) (x y : Bool) → leb n b ≡ x → leb (n + m) b ≡ y
        → Looser IsAir p (cond x (some in_air) (cond (leb max_begun b) (some long) (cond (ltb max_depth d) (some deep) none)))
        (cond y (some in_air) (cond (leb max_begun b) (some long) (cond (ltb max_depth d) (some deep) none)))
    go b d true y e f = inr (in_air, refl, refl, λ q. apart cc)
    go b d false y e f = inl (ap (λ y. cond y (some in_air) (cond (leb max_begun b) (some long) (cond (ltb max_depth d) (some deep) none))) (sym (lt-leb (n + m) b (let a = leb-false n b e in omega arith)) ∙ f))

budget : (n m : ℕ) (p : Plan) (r : Readings) → Follows IsAir (stores_of p) (flight n p r) (flight (n + m) p r)
budget n m p r = follows IsAir (house n) (house (n + m)) (reverse p.legs) r (more n m _)

followed_log : (Open : Ending → Type 0) (p : ℕ) (o o' : Out) → Follows Open p o o' → Prefix (state_at o).log (state_at o').log
followed_log Open p (value v s) o' h = ([], ap (λ o. (state_at o).log) h ∙ sym (append-nil s.log))
followed_log Open p (ended e s) o' (inl h) = ([], ap (λ o. (state_at o).log) h ∙ sym (append-nil s.log))
followed_log Open p (ended e s) o' (inr (may, h)) = (h.0, h.1)

unchanged : (p : ℕ) (o o' : Out) → Follows IsAir p o o' → ¬ StillInAir o → o' ≡ o
unchanged p (value v s) o' h other = h
unchanged p (ended e s) o' (inl h) other = h
unchanged p (ended e s) o' (inr (air, h)) other = absurd (other (s, ap (λ e. ended e s) air))

pub budgets_add : BudgetsAdd
budgets_add = record {
  goes_on = λ n m p r. followed_log IsAir (stores_of p) (flight n p r) (flight (n + m) p r) (budget n m p r);
  stays = λ n m p r. unchanged (stores_of p) (flight n p r) (flight (n + m) p r) (budget n m p r);
}

-- No limits: every ending is passed, and there is a value.

abbrev Gives : Out → Type 0
Gives o = (v : Value) × (s : State) × (o ≡ value v s)

record Total (c f : Comp) : Type 0 where
  gives : (d : ℕ) (s : State) → Gives (f d s)

total_then : (o : Out) (k : Value → State → Out) → Gives o → ((v : Value) (s : State) → Gives (k v s)) → Gives (and_then o k)
total_then o k h g = subst (λ o. Gives (and_then o k)) (sym h.2) (g h.0 h.1)

total : Steps free free Any Total
total = record {
  gives = λ v. record { gives = λ d s. (v, s, refl) };
  begins = λ c f h. record { gives = λ d s. h.gives d (tick s) };
  downs = λ c f h. record { gives = λ d s. h.gives (suc d) s };
  thens = λ c f c' f' h g. record { gives = λ d s. total_then (f d s) _ (h.gives d s) (λ v s. (g v).gives d s) };
  makes = λ k c f h. record { gives = λ d s. (h s.next tt).gives d (bump k s) };
  looks = λ k b c f new h. record { gives = λ d s. h.gives (suc d) (note (lookup k b) s) };
  needs = λ q c f h. record { gives = λ d s. h.gives d s };
}

total_draws : (k i : ℕ) → Total (store free k i) (store free k i)
total_draws k i = record { gives = λ d s. go (s.left i) s }
  where
    go : (ns : List ℕ) (s : State) → Gives (draw free ns k i s)
    go [] s = (v_number 0, note (lookup k i) s, refl)
    go (x ∷ xs) s = (v_number x, note (lookup k i) (set_store i xs s), refl)

total_flight : (gs : List Leg) (r : Readings) → Gives (fly_legs free gs r)
total_flight [] r = (v_unit, start 0 0 r, refl)
total_flight (main ∷ below) r = (main_evaluation free free Any _ total main below (λ k i lt. total_draws k i)).gives 1 (start main.first (length main.params) r)

abbrev All : Ending → Type 0
All e = Unit {0}

unlimited : (n p : ℕ) → Loosened All p (house n) free
unlimited n p = record {
  stops = λ b d. go b d (leb n b) (leb max_begun b) (ltb max_depth d);
  room = λ l. filled (leb max_entries l);
  unmet = λ q. inl refl;
  dry = inr (refl, tt);
}
  where
    go : (b d : ℕ) (x y z : Bool) → Looser All p (cond x (some in_air) (cond y (some long) (cond z (some deep) none))) none
    go b d true y z = inr (in_air, refl, tt, λ q. apart cc)
    go b d false true z = inr (long, refl, tt, λ q. apart cc)
    go b d false false true = inr (deep, refl, tt, λ q. apart cc)
    go b d false false false = inl refl

    filled : (x : Bool) → Looser All p (cond x (some full) none) none
    filled true = inr (full, refl, tt, λ q. apart cc)
    filled false = inl refl

to_free : (n : ℕ) (p : Plan) (r : Readings) → Follows All (stores_of p) (flight n p r) (fly free p r)
to_free n p r = follows All (house n) free (reverse p.legs) r (unlimited n _)

awaited : (p : ℕ) (s : State) (o : Out) → Gives o → Follows All p (ended empty s) o
    → (k i : ℕ) × (rest : List Entry) × ((state_at o).log ≡ s.log ++ (lookup k i ∷ rest)) × (i < p) × (s.left i ≡ [])
awaited p s o g (inl h) = (let q : ended empty s ≡ value g.0 g.1 = sym h ∙ g.2 in apart cc)
awaited p s o g (inr (may, h)) = let a = h.2 refl in (a.0, a.1, a.2, h.1 ∙ ap (λ l. s.log ++ l) a.3, a.4, a.5)

pub unlimited_extends : UnlimitedExtends
unlimited_extends = record {
  gives = λ p r. total_flight (reverse p.legs) r;
  prefix = λ n p r. followed_log All (stores_of p) (flight n p r) (fly free p r) (to_free n p r);
  same = λ n p r v s e. subst (λ o. Follows All (stores_of p) o (fly free p r)) e (to_free n p r);
  awaits = λ n p r s e. awaited (stores_of p) s (fly free p r) (total_flight (reverse p.legs) r) (subst (λ o. Follows All (stores_of p) o (fly free p r)) e (to_free n p r));
}
