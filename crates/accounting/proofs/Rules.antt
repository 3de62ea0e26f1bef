-- The usage of each form of evaluation, from that of its kids. Assumes nothing.
use Rattle.std.proofs.Common.{◌≡◌, ℕ, suc, ◌<◌, ◌≤◌, Bool, true, false, cond, eqb, List, [], ◌∷◌, ◌++◌, length, sym, refl, ap, ◌∙◌, subst, ap₂, le_trans, le_refl, arith}
use Rattle.std.proofs.lemmas.Bool.{eqb-false}
use Rattle.scales.specs.Laws.{Ops, Laws}
use Rattle.evaluation.specs.Flight.{Entry, made, lookup, State, Out, ended, value, Value, v_unit, v_number, v_pair, v_left, v_right, Comp, Scope, at, a_number, a_pair, an_either, Limits, need, and_then, tick, note, bump, begin, make, bound, kept, either_of, numbers}
use Rattle.grading.specs.Grading.{Leq, Above, nothing, one_of, both, scaled, either_one}
use Rattle.grading.proofs.AtMost.{plus_both, times_both}
use Rattle.accounting.proofs.Sums.{total, plus_zero', leq_eq, leq_from, total_le, total_zero, total_add, total_scale, total_one, one_here, one_else}
use Rattle.accounting.proofs.Costs.{After, Ends, Costs, Scoped, Good, gate_good, weaken, still, seq, making, looking}

module _ {G : Type 0} {S : Ops G} (Z : Laws S) (R : ℕ → G) (L : Limits) where
  pub scoped_later : (m n : ℕ) (ρ : Scope) (Us : List (ℕ → G)) → m ≤ n → Scoped S R m ρ Us → Scoped S R n ρ Us
  scoped_later m n [] [] le h = tt
  scoped_later m n [] (U ∷ Us) le h = absurd h
  scoped_later m n (c ∷ ρ) [] le h = absurd h
  scoped_later m n (c ∷ ρ) (U ∷ Us) le h = (
    record {
      ends = λ b k. h.0.ends b (le_trans le k);
      does = λ d s k. h.0.does d s (le_trans le k);
    },
    scoped_later m n ρ Us le h.1,
  )

  pub scoped_length : (m : ℕ) (ρ : Scope) (Us : List (ℕ → G)) → Scoped S R m ρ Us → length ρ ≡ length Us
  scoped_length m [] [] h = refl
  scoped_length m [] (U ∷ Us) h = absurd h
  scoped_length m (c ∷ ρ) [] h = absurd h
  scoped_length m (c ∷ ρ) (U ∷ Us) h = ap suc (scoped_length m ρ Us h.1)

  pub total_ends : (m : ℕ) (ρ : Scope) (Us : List (ℕ → G)) (γ : ℕ → G) → Scoped S R m ρ Us → Ends S m (total S γ Us)
  total_ends m [] [] γ h b k = refl
  total_ends m [] (U ∷ Us) γ h b k = absurd h
  total_ends m (c ∷ ρ) [] γ h b k = absurd h
  total_ends m (c ∷ ρ) (U ∷ Us) γ h b k =
      ap₂ S.plus (total_ends m ρ Us γ h.1 b k) (ap (S.times (γ (length Us))) (h.0.ends b k) ∙ Z.times_zero _)
      ∙ Z.plus_zero S.zero

  pub at_costs : (m : ℕ) (ρ : Scope) (Us : List (ℕ → G)) (o : ℕ → G) (c₀ : Comp) (j : ℕ) → Scoped S R m ρ Us → j < length Us
      → Costs S R m (at o Us j) (at c₀ ρ j)
  at_costs m [] [] o c₀ j h lt = absurd (omega arith)
  at_costs m [] (U ∷ Us) o c₀ j h lt = absurd h
  at_costs m (c ∷ ρ) [] o c₀ j h lt = absurd h
  at_costs m (c ∷ ρ) (U ∷ Us) o c₀ j h lt =
      subst (λ n. Costs S R m (at o (U ∷ Us) j) (cond (eqb j n) c (at c₀ ρ j))) (sym (scoped_length m ρ Us h.1))
      (go (at_costs m ρ Us o c₀ j h.1) (eqb j (length Us)) refl)
    where
      go : (j < length Us → Costs S R m (at o Us j) (at c₀ ρ j)) → (x : Bool) → eqb j (length Us) ≡ x
          → Costs S R m (cond x U (at o Us j)) (cond x c (at c₀ ρ j))
      go ih true e = h.0
      go ih false e = ih (let q : ¬ (j ≡ length Us) = eqb-false j (length Us) e in omega arith)

  pub kept_costs : (m : ℕ) (v : Value) → Costs S R m (λ b. S.zero) (kept v)
  kept_costs m v = record { ends = λ b k. refl; does = λ d s k. still Z R _ v s (λ b. Z.leq_refl _) }

  abbrev looked : ℕ → (ℕ → G) → ℕ → G
  looked c w b = S.plus (one_of S c b) (w b)

  pub bound_costs : (k c m : ℕ) (w : ℕ → G) (run : Comp) → m ≤ c → Costs S R m w run
      → Costs S R (suc c) (looked c w) (bound L k c run)
  bound_costs k c m w run le h = record {
    ends = λ b lt.
        ap₂ S.plus (one_else Z c b (λ e. omega arith)) (h.ends b (omega arith)) ∙ Z.plus_zero _;
    does = λ d s lt.
        gate_good Z R _ _ _ (L.room (length s.log)) s _
        (looking Z R k c _ w s.log s.next _ lt (λ b x. Z.leq_refl _) (h.does (suc d) (note (lookup k c) s) (omega arith)));
  }

  -- A binder k is opened over the scope, beside a usage x of before: n is the new binding, and w what a lookup of it costs beside itself.
  pub bring_more : (k m n : ℕ) (l : List Entry) (ρ : Scope) (Us : List (ℕ → G)) (w ε x u : ℕ → G) (o : Out) → m ≤ n → Scoped S R m ρ Us
      → Ends S n w → Ends S n x → Leq S (ε (length Us)) (R k)
      → ((b : ℕ) → Leq S (S.plus (S.plus (total S ε Us b) (S.times (ε (length Us)) (w b))) (x b)) (u b))
      → After S R (λ b. S.plus (total S ε (looked n w ∷ Us) b) (x b)) (l ++ (made k n ∷ [])) (suc n) o → After S R u l n o
  bring_more k m n l ρ Us w ε x u o le sc z zx r to h =
      making Z R k u (λ b. S.plus (total S ε (looked n w ∷ Us) b) (x b)) l n o
      (leq_from Z _ _ _
      (ap₂ S.plus
      (ap₂ S.plus (total_ends m ρ Us ε sc n le)
      (ap (S.times (ε (length Us))) (ap₂ S.plus (one_here Z n n refl) (z n (le_refl _)) ∙ plus_zero' Z _) ∙ Z.times_one _)
      ∙ Z.plus_zero _)
      (zx n (le_refl _))
      ∙ plus_zero' Z _)
      r)
      (λ b lt. leq_from Z _ _ _
      (ap (λ y. S.plus (S.plus (total S ε Us b) (S.times (ε (length Us)) y)) (x b))
      (ap (λ x. S.plus x (w b)) (one_else Z n b (λ e. omega arith)) ∙ Z.plus_zero _))
      (to b))
      h

  -- the same with no usage of before
  bring : (k m n : ℕ) (l : List Entry) (ρ : Scope) (Us : List (ℕ → G)) (w ε u : ℕ → G) (o : Out) → m ≤ n → Scoped S R m ρ Us
      → Ends S m w → Leq S (ε (length Us)) (R k)
      → ((b : ℕ) → Leq S (S.plus (total S ε Us b) (S.times (ε (length Us)) (w b))) (u b))
      → After S R (total S ε (looked n w ∷ Us)) (l ++ (made k n ∷ [])) (suc n) o → After S R u l n o
  bring k m n l ρ Us w ε u o le sc z r to h =
      bring_more k m n l ρ Us w ε (nothing S) u o le sc (λ b x. z b (le_trans le x)) (λ b x. refl) r (λ b. leq_from Z _ _ _ (plus_zero' Z _) (to b))
      (weaken Z R _ _ _ _ o (λ b x. leq_eq Z _ _ (sym (plus_zero' Z _))) h)

  -- What may stand in a scope with one binding more.
  abbrev pub Opens : ℕ → List (ℕ → G) → (ℕ → G) → (Comp → Comp) → Type 0
  Opens m Us ε E = (n : ℕ) (c : Comp) (U : ℕ → G) → m ≤ n → Costs S R n U c → Costs S R n (total S ε (U ∷ Us)) (E c)

  above_zero : (Us : List (ℕ → G)) (γ : ℕ → G) → Above S (length Us) (nothing S) γ → (b : ℕ) → Leq S S.zero (total S γ Us b)
  above_zero Us γ h b = leq_from Z _ _ _ (sym (total_zero Z Us b)) (total_le Z Us (nothing S) γ b h)

  pub above_add : (Us : List (ℕ → G)) (δ ε γ : ℕ → G) → Above S (length Us) (both S δ ε) γ
      → (b : ℕ) → Leq S (S.plus (total S δ Us b) (total S ε Us b)) (total S γ Us b)
  above_add Us δ ε γ h b = leq_from Z _ _ _ (sym (total_add Z Us δ ε b)) (total_le Z Us (both S δ ε) γ b h)

  -- What comes of a value at once: no entry, no binding, at most an ending.
  abbrev pub Quiet : (Value → State → Out) → Type 0
  Quiet k = (u : ℕ → G) (l : List Entry) (n : ℕ) (v : Value) (s : State) → Good S R u l n s → After S R u l n (k v s)

  finish : (u : ℕ → G) (l : List Entry) (n : ℕ) (o : Out) (k : Value → State → Out) → Quiet k → After S R u l n o → After S R u l n (and_then o k)
  finish u l n (ended e s) k q h = tt
  finish u l n (value v s) k q h = q u l n v s h

  pub numbers_quiet : (op : Value → Value → Value) (v : Value) → Quiet (λ w s. numbers L op v w s)
  numbers_quiet op v u l n w s g = gate_good Z R u l n (L.unmet (a_number v)) s _ (gate_good Z R u l n (L.unmet (a_number w)) s _ g)

  pub rule_leaf : (v : Value) (γ : ℕ → G) (ρ : Scope) (Us : List (ℕ → G)) (m : ℕ) → Scoped S R m ρ Us
      → Above S (length Us) (nothing S) γ → Costs S R m (total S γ Us) (begin L (kept v))
  rule_leaf v γ ρ Us m sc h = record {
    ends = total_ends m ρ Us γ sc;
    does = λ d s k. gate_good Z R _ _ _ (L.stops s.begun d) s _ (still Z R _ v (tick s) (above_zero Us γ h));
  }

  pub rule_name : (c₀ : Comp) (j : ℕ) (γ : ℕ → G) (ρ : Scope) (Us : List (ℕ → G)) (m : ℕ) → Scoped S R m ρ Us → j < length Us
      → Above S (length Us) (one_of S j) γ → Costs S R m (total S γ Us) (begin L (at c₀ ρ j))
  rule_name c₀ j γ ρ Us m sc lt h = record {
    ends = total_ends m ρ Us γ sc;
    does = λ d s k. gate_good Z R _ _ _ (L.stops s.begun d) s _
        (weaken Z R (at (λ b. S.zero) Us j) _ _ _ _
        (λ b x. leq_from Z _ _ _ (sym (total_one Z Us (λ b. S.zero) j b lt)) (total_le Z Us (one_of S j) γ b h))
        ((at_costs m ρ Us (λ b. S.zero) c₀ j sc lt).does d (tick s) k));
  }

  pub rule_let : (k : ℕ) (A : Comp) (E : Comp → Comp) (δ ε γ : ℕ → G) (ρ : Scope) (Us : List (ℕ → G)) (m : ℕ) → Scoped S R m ρ Us
      → Costs S R m (total S δ Us) A → Opens m Us ε E → Leq S (ε (length Us)) (R k)
      → Above S (length Us) (both S (scaled S (R k) δ) ε) γ
      → Costs S R m (total S γ Us) (begin L (λ d s. make L k s (λ b s. E (bound L k b A) (suc d) s)))
  rule_let k A E δ ε γ ρ Us m sc a e r h = record {
    ends = total_ends m ρ Us γ sc;
    does = λ d s le. gate_good Z R _ _ _ (L.stops s.begun d) s _
        (gate_good Z R _ _ _ (L.room (length s.log)) (tick s) _
        (bring k m s.next s.log ρ Us (total S δ Us) ε _ _ le sc a.ends r
        (λ b. Z.leq_trans _ _ _
        (plus_both Z (Z.leq_refl _)
        (Z.leq_trans _ _ _ (times_both Z r (Z.leq_refl _)) (total_scale Z Us (R k) δ b)))
        (leq_from Z _ _ _ (Z.plus_comm _ _) (above_add Us (scaled S (R k) δ) ε γ h b)))
        ((e (suc s.next) (bound L k s.next A) _ (omega arith) (bound_costs k s.next m _ A le a)
        ).does (suc d) (bump k (tick s)) (le_refl _))));
  }

  -- the first kid's value is kept: what opens over it costs as the body without it
  open_kept : (k m : ℕ) (E : Comp → Comp) (v : Value) (ε u : ℕ → G) (ρ : Scope) (Us : List (ℕ → G)) (d : ℕ) (s : State) → m ≤ s.next
      → Scoped S R m ρ Us → Opens m Us ε E → Leq S (ε (length Us)) (R k) → ((b : ℕ) → Leq S (total S ε Us b) (u b))
      → After S R u s.log s.next (make L k s (λ b s. E (bound L k b (kept v)) d s))
  open_kept k m E v ε u ρ Us d s le sc e r to =
      gate_good Z R _ _ _ (L.room (length s.log)) s _
      (bring k m s.next s.log ρ Us (λ b. S.zero) ε u _ le sc (λ b x. refl) r
      (λ b. leq_from Z _ _ _ (ap (S.plus (total S ε Us b)) (Z.times_zero _) ∙ plus_zero' Z _) (to b))
      ((e (suc s.next) (bound L k s.next (kept v)) _ (omega arith)
      (bound_costs k s.next s.next _ (kept v) (le_refl _) (kept_costs s.next v))
      ).does d (bump k s) (le_refl _)))

  pub rule_take : (k : ℕ) (A : Comp) (E : Comp → Comp) (δ ε γ : ℕ → G) (ρ : Scope) (Us : List (ℕ → G)) (m : ℕ) → Scoped S R m ρ Us
      → Costs S R m (total S δ Us) A → Opens m Us ε E → Leq S (ε (length Us)) (R k)
      → Above S (length Us) (both S δ ε) γ
      → Costs S R m (total S γ Us)
      (begin L (λ d s. and_then (A (suc d) s) (λ v s. make L k s (λ b s. E (bound L k b (kept v)) (suc d) s))))
  rule_take k A E δ ε γ ρ Us m sc a e r h = record {
    ends = total_ends m ρ Us γ sc;
    does = λ d s le. gate_good Z R _ _ _ (L.stops s.begun d) s _
        (weaken Z R _ _ _ _ _ (λ b x. above_add Us δ ε γ h b)
        (seq Z R (total S δ Us) (total S ε Us) _ _ (A (suc d) (tick s)) _ (a.does (suc d) (tick s) le)
        (λ b x. total_ends m ρ Us ε sc b (le_trans le x))
        (λ v t x. open_kept k m E v ε _ ρ Us (suc d) t (le_trans le x) sc e r (λ b. Z.leq_refl _))));
  }

  -- two kids, one after the other
  pub rule_two : (k : Value → Value → State → Out) (A B : Comp) (δ ε γ : ℕ → G) (ρ : Scope) (Us : List (ℕ → G)) (m : ℕ) → ((v : Value) → Quiet (k v))
      → Scoped S R m ρ Us → Costs S R m (total S δ Us) A → Costs S R m (total S ε Us) B → Above S (length Us) (both S δ ε) γ
      → Costs S R m (total S γ Us) (begin L (λ d s. and_then (A (suc d) s) (λ v s. and_then (B (suc d) s) (λ w s. k v w s))))
  rule_two k A B δ ε γ ρ Us m q sc a e h = record {
    ends = total_ends m ρ Us γ sc;
    does = λ d s le. gate_good Z R _ _ _ (L.stops s.begun d) s _
        (weaken Z R _ _ _ _ _ (λ b x. above_add Us δ ε γ h b)
        (seq Z R (total S δ Us) (total S ε Us) _ _ (A (suc d) (tick s)) _ (a.does (suc d) (tick s) le)
        (λ b x. total_ends m ρ Us ε sc b (le_trans le x))
        (λ v t x. finish _ _ _ (B (suc d) t) (k v) (q v) (e.does (suc d) t (le_trans le x)))));
  }

  pub rule_one : (f : Value → Value) (A : Comp) (γ : ℕ → G) (ρ : Scope) (Us : List (ℕ → G)) (m : ℕ) → Scoped S R m ρ Us
      → Costs S R m (total S γ Us) A → Costs S R m (total S γ Us) (begin L (λ d s. and_then (A (suc d) s) (λ v s. value (f v) s)))
  rule_one f A γ ρ Us m sc a = record {
    ends = total_ends m ρ Us γ sc;
    does = λ d s le. gate_good Z R _ _ _ (L.stops s.begun d) s _
        (finish _ _ _ (A (suc d) (tick s)) (λ v s. value (f v) s) (λ u l n v s g. g) (a.does (suc d) (tick s) le));
  }

  -- two bindings of kept values
  abbrev pub Opens₂ : ℕ → List (ℕ → G) → (ℕ → G) → (Comp → Comp → Comp) → Type 0
  Opens₂ m Us ε E =
      (n : ℕ) (c e : Comp) (U V : ℕ → G) → m ≤ n → Costs S R n U c → Costs S R n V e → Costs S R n (total S ε (V ∷ U ∷ Us)) (E c e)

  pub rule_split : (k : ℕ) (A : Comp) (E : Comp → Comp → Comp) (f g : Value → Value) (δ ε γ : ℕ → G) (ρ : Scope) (Us : List (ℕ → G)) (m : ℕ)
      → Scoped S R m ρ Us → Costs S R m (total S δ Us) A → Opens₂ m Us ε E → Leq S (ε (length Us)) (R k)
      → Leq S (ε (suc (length Us))) (R (suc k)) → Above S (length Us) (both S δ ε) γ
      → Costs S R m (total S γ Us)
      (begin L (λ d s. and_then (A (suc d) s)
      (λ v s. need L (a_pair v) s (λ s. make L k s (λ b s. make L (suc k) s (λ c s. E (bound L k b (kept (f v))) (bound L (suc k) c (kept (g v))) (suc d) s))))))
  rule_split k A E f g δ ε γ ρ Us m sc a e r q h = record {
    ends = total_ends m ρ Us γ sc;
    does = λ d s le. gate_good Z R _ _ _ (L.stops s.begun d) s _
        (weaken Z R _ _ _ _ _ (λ b x. above_add Us δ ε γ h b)
        (seq Z R (total S δ Us) (total S ε Us) _ _ (A (suc d) (tick s)) _ (a.does (suc d) (tick s) le)
        (λ b x. total_ends m ρ Us ε sc b (le_trans le x))
        (λ v t x. gate_good Z R _ _ _ (L.unmet (a_pair v)) t _
        (open_kept k m (λ c d s. make L (suc k) s (λ i s. E c (bound L (suc k) i (kept (g v))) d s)) (f v) ε _ ρ Us (suc d) t (le_trans le x) sc
        (λ n c U le' o. record {
          ends = total_ends n (c ∷ ρ) (U ∷ Us) ε (o, scoped_later m n ρ Us le' sc);
          does = λ d s y. open_kept (suc k) n (E c) (g v) ε _ (c ∷ ρ) (U ∷ Us) d s y (o, scoped_later m n ρ Us le' sc)
              (λ n' i V z p. e n' c i U V (le_trans le' z) (scoped_later n n' (c ∷ []) (U ∷ []) z (o, tt)).0 p)
              q (λ b. Z.leq_refl _);
        })
        r (λ b. Z.leq_refl _)))));
  }

  after_either : (u : ℕ → G) (l : List Entry) (n : ℕ) (v : Value) (f g : Value → Out) → ((x : Value) → After S R u l n (f x))
      → ((x : Value) → After S R u l n (g x)) → After S R u l n (either_of v f g)
  after_either u l n v_unit f g p q = p v_unit
  after_either u l n (v_number x) f g p q = p v_unit
  after_either u l n (v_pair v w) f g p q = p v_unit
  after_either u l n (v_left v) f g p q = p v
  after_either u l n (v_right v) f g p q = q v

  pub rule_case : (k : ℕ) (A : Comp) (E F : Comp → Comp) (δ ε φ γ : ℕ → G) (ρ : Scope) (Us : List (ℕ → G)) (m : ℕ)
      → Scoped S R m ρ Us → Costs S R m (total S δ Us) A → Opens m Us ε E → Opens m Us φ F → Leq S (ε (length Us)) (R k)
      → Leq S (φ (length Us)) (R (suc k)) → Above S (length Us) (both S δ (either_one S ε φ)) γ
      → Costs S R m (total S γ Us)
      (begin L (λ d s. and_then (A (suc d) s) (λ v s. need L (an_either v) s (λ s. either_of v
      (λ v. make L k s (λ b s. E (bound L k b (kept v)) (suc d) s))
      (λ v. make L (suc k) s (λ b s. F (bound L (suc k) b (kept v)) (suc d) s))))))
  rule_case k A E F δ ε φ γ ρ Us m sc a e f r q h =
      let χ : ℕ → G = either_one S ε φ in
      record {
        ends = total_ends m ρ Us γ sc;
        does = λ d s le. gate_good Z R _ _ _ (L.stops s.begun d) s _
            (weaken Z R _ _ _ _ _ (λ b x. above_add Us δ χ γ h b)
            (seq Z R (total S δ Us) (total S χ Us) _ _ (A (suc d) (tick s)) _ (a.does (suc d) (tick s) le)
            (λ b x. total_ends m ρ Us χ sc b (le_trans le x))
            (λ v t x. gate_good Z R _ _ _ (L.unmet (an_either v)) t _
            (after_either _ _ _ v _ _
            (λ y. open_kept k m E y ε _ ρ Us (suc d) t (le_trans le x) sc e r
            (λ b. total_le Z Us ε χ b (λ l z. Z.join_l _ _)))
            (λ y. open_kept (suc k) m F y φ _ ρ Us (suc d) t (le_trans le x) sc f q
            (λ b. total_le Z Us φ χ b (λ l z. Z.join_r _ _)))))));
      }
