-- The loop of a call. Assumes nothing.
use Rattle.std.proofs.Common.{◌≡◌, ℕ, ◌+◌, ◌-◌, ◌≤◌, true, false, List, [], ◌∷◌, reverse, length, sym, refl, ap, ◌∙◌, subst, arith, ltb-false, ltb-true}
use Rattle.evaluation.specs.Flight.{at}
use Rattle.evaluation.specs.Flight as byname
use Rattle.flight.specs.Nodes.{Runner}
use Rattle.flight.specs.Tables.{Tables}
use Rattle.flight.specs.Means.{value_at, scope_at, unwind, state_of, means, ending_of}
use Rattle.flight.specs.Sound.{Ready, Steps, May, starts}
use Rattle.plan.specs.declared.Leg.{Leg}
use Rattle.flight.specs.declared.machine.Frame.{Frame}
use Rattle.flight.specs.declared.machine.Control.{Control}
use Rattle.flight.specs.declared.machine.Control.TheVariants.{Eval, Return, Draw, Over}
use Rattle.plan.specs.declared.Row.{Row}
use Rattle.flight.proofs.Gates.{begin_air, unwind_ended}
use Rattle.flight.specs.Fly.{goes, shown, AtRest, Flies, EndedAt, Flying, Moves}

pub moves : (t : Tables) (c : Control) (f n : ℕ) → goes t c f n ≡ true → Moves t c
moves t (Eval a) f n e = tt
moves t (Return v) f n e = ltb-true 0 (length t.frames) e
moves t (Draw k i) f n e = tt
moves t (Over x) f n e = cc

ended_stays : (t : Tables) (c : Control) (f n : ℕ) → goes t c f n ≡ true → EndedAt t c → ⊥
ended_stays t (Eval a) f n e h = h
ended_stays t (Return v) f n e h = let l = ltb-true 0 (length t.frames) e in omega arith
ended_stays t (Draw k i) f n e h = h
ended_stays t (Over x) f n e h = cc

may : (t : Tables) (c : Control) (f n k : ℕ) → goes t c f n ≡ true → f ≤ t.begun → f + n ≤ k → May k t c
may t (Eval a) f n k e lo hi = let l = ltb-true (t.begun - f) n e in omega arith
may t (Return v) f n k e lo hi = tt
may t (Draw x i) f n k e lo hi = tt
may t (Over x) f n k e lo hi = tt

starts_low : (t : Tables) (c : Control) (f n : ℕ) → goes t c f n ≡ true → f ≤ t.begun → t.begun ≤ f + n → t.begun + starts c ≤ f + n
starts_low t (Eval a) f n e lo hi = let l = ltb-true (t.begun - f) n e in omega arith
starts_low t (Return v) f n e lo hi = omega arith
starts_low t (Draw x i) f n e lo hi = omega arith
starts_low t (Over x) f n e lo hi = omega arith

module _ (ns : List Row) (gs : List Leg) (n : ℕ) (y : ℕ → List ℕ) (t : Tables) (c : Control) where
  pub fly_start : Ready ns gs t c → Flying ns gs n y t c y t c
  fly_start R = record { ready = R; least = omega arith; most = omega arith; same = λ h. (refl, refl); means = λ E k r le. refl }

  pub fly_again : (y₁ : ℕ → List ℕ) (t₁ : Tables) (c₁ : Control) (y₂ : ℕ → List ℕ) (t₂ : Tables) (c₂ : Control) → Flying ns gs n y t c y₁ t₁ c₁
      → goes t₁ c₁ t.begun n ≡ true → Steps ns gs y₁ t₁ c₁ y₂ t₂ c₂ → Flying ns gs n y t c y₂ t₂ c₂
  fly_again y₁ t₁ c₁ y₂ t₂ c₂ F g S =
      let a = F.least in
      let b = F.most in
      let p = S.least in
      let q = S.most in
      let z = starts_low t₁ c₁ t.begun n g F.least F.most in
      record {
        ready = S.ready;
        least = omega arith;
        most = omega arith;
        same = λ h. absurd (let e = F.same h in ended_stays t₁ c₁ t.begun n g (subst (λ (x : Tables). EndedAt x c₁) (sym e.0) (subst (λ (z : Control). EndedAt t z) (sym e.1) h)));
        means = λ E k r le. S.means E k r (may t₁ c₁ t.begun n k g F.least le) ∙ F.means E k r le;
      }

  pub rest_shows : (E : Runner) (M : ℕ) (y₁ : ℕ → List ℕ) (t₁ : Tables) (c₁ : Control) → AtRest M t₁ c₁ → means E (byname.house M) ns y₁ t₁ c₁ ≡ shown y₁ t₁ c₁
  rest_shows E M y₁ t₁ (Eval a) h =
      ap (unwind E (byname.house M) ns t₁.values t₁.bindings (reverse t₁.frames))
      (begin_air M (E (byname.house M) a.node (scope_at E (byname.house M) t₁.values t₁.bindings a.scope)) a.depth (state_of t₁ y₁) (omega arith))
      ∙ unwind_ended E (byname.house M) ns t₁.values t₁.bindings (reverse t₁.frames) byname.in_air (state_of t₁ y₁)
  rest_shows E M y₁ t₁ (Return v) h =
      ap (λ (fs : List Frame). unwind E (byname.house M) ns t₁.values t₁.bindings (reverse fs) (byname.value (value_at t₁.values v) (state_of t₁ y₁))) (none t₁.frames h)
    where
      none : (fs : List Frame) → length fs ≡ 0 → fs ≡ []
      none [] e = refl
      none (f ∷ fs) e = absurd (omega arith)
  rest_shows E M y₁ t₁ (Draw k i) h = absurd h
  rest_shows E M y₁ t₁ (Over e) h = unwind_ended E (byname.house M) ns t₁.values t₁.bindings (reverse t₁.frames) (ending_of e) (state_of t₁ y₁)

  comes_to_rest : (N : ℕ) (t₁ : Tables) (c₁ : Control) → AtRest N t c → (EndedAt t c → (t₁ ≡ t) × (c₁ ≡ c)) → t.begun ≤ t₁.begun → t₁.begun ≤ t.begun + n
      → goes t₁ c₁ t.begun n ≡ false → AtRest (N + n) t₁ c₁
  comes_to_rest N t₁ (Eval a) h same lo hi g = by c h same
    where
      by : (x : Control) → AtRest N t x → (EndedAt t x → (t₁ ≡ t) × (Eval a ≡ x)) → t₁.begun ≡ N + n
      by (Eval b) h same = let l = ltb-false (t₁.begun - t.begun) n g in omega arith
      by (Return v) h same = absurd (let e = (same h).1 in let z : ◌≡◌ {A = ℕ} 0 1 = cc in omega arith)
      by (Draw k i) h same = absurd h
      by (Over x) h same = absurd (let e = (same tt).1 in let z : ◌≡◌ {A = ℕ} 0 1 = cc in omega arith)
  comes_to_rest N t₁ (Return v) h same lo hi g = let l = ltb-false 0 (length t₁.frames) g in omega arith
  comes_to_rest N t₁ (Draw k i) h same lo hi g = absurd (let z : ⊥ = cc in z)
  comes_to_rest N t₁ (Over x) h same lo hi g = tt

  pub fly_done : (y₁ : ℕ → List ℕ) (t₁ : Tables) (c₁ : Control) → Flying ns gs n y t c y₁ t₁ c₁ → goes t₁ c₁ t.begun n ≡ false → Flies ns gs n y t c y₁ t₁ c₁
  fly_done y₁ t₁ c₁ F g E o N r A =
      let rest = comes_to_rest N t₁ c₁ A.rest F.same F.least F.most g in
      let lo = F.most in
      let am = A.most in
      let m = λ (k : ℕ) (le : N + n ≤ k). F.means E k r (omega arith) ∙ A.means k (omega arith) in
      (record { rest = rest; most = omega arith; means = m }, sym (rest_shows E (N + n) y₁ t₁ c₁ rest) ∙ m (N + n) (omega arith))
