-- Whole steps. Assumes nothing.
use Rattle.std.proofs.Common.{◌≡◌, ℕ, ◌+◌, ◌<◌, ◌≤◌, Bool, true, false, cond, eqb, List, [], ◌∷◌, ◌++◌, reverse, length, sym, refl, ap, ◌∙◌, subst, ap₂, arith, eqb-true, length-append}
use Rattle.std.proofs.lemmas.Bool.{eqb-false}
use Rattle.evaluation.specs.Flight.{at}
use Rattle.evaluation.specs.Flight as byname
use Rattle.flight.specs.Nodes.{kind_at, node_does}
use Rattle.flight.specs.Tables.{Tables, noted, valued, ticked}
use Rattle.flight.specs.Means.{value_at, scope_at, unwind, state_of}
use Rattle.flight.specs.Sound.{Ready, Poised, Leads, node_act, frame_act, Steps}
use Rattle.plan.specs.declared.Leg.{Leg}
use Rattle.flight.specs.declared.machine.Spot.{Spot}
use Rattle.flight.specs.declared.machine.Part.TheVariants.{Num}
use Rattle.flight.specs.declared.machine.Frame.{Frame}
use Rattle.flight.specs.declared.machine.Ending.TheVariants.{Long, Deep, Empty}
use Rattle.flight.specs.Tables.{Lookup}
use Rattle.flight.specs.declared.machine.Control.{Control}
use Rattle.flight.specs.declared.machine.Control.TheVariants.{Eval, Return, Draw, Over}
use Rattle.plan.specs.declared.Row.{Row}
use Rattle.flight.proofs.Decode.{value_new}
use Rattle.flight.proofs.Keeps.{sound_noted, sound_valued, sound_ticked, sound_popped}
use Rattle.flight.proofs.Gates.{begin_room, begin_long, begin_deep, state_ticked, state_noted, reverse_push, unwind_valued}
use Rattle.flight.specs.Calling.{Given}

module _ (ns : List Row) (gs : List Leg) (t : Tables) (spot : Spot) (R : Ready ns gs t (Eval spot)) where
  abbrev q : ℕ
  q = spot.node

  abbrev s : ℕ
  s = spot.scope

  abbrev d : ℕ
  d = spot.depth

  pub poised : t.begun < 2048 → d < 129 → Poised ns gs (ticked t) spot
  poised lb ld =
      let C = R.control in
      let ro = R.sound.room in
      let C2 = C.2 in
      record {
        lv = R.lv;
        lv_is = R.lv_is;
        laid = R.laid;
        sound = sound_ticked ns R.lv t R.sound lb;
        node = C.0;
        scope = C.1;
        deep = C.2;
        least = omega arith;
        slack = omega arith;
      }

  pub begin_works : t.begun < 2048 → d < 129 → (y : ℕ → List ℕ) (t' : Tables) (c' : Control) → Leads ns gs (ticked t) (node_act ns gs (ticked t) spot) t' c'
      → Steps ns gs y t (Eval spot) y t' c'
  begin_works lb ld y t' c' l =
      let f = l.falls in
      let b = l.begun in
      record {
        ready = l.ready;
        means = λ E n r lt. (let L = byname.house n in
            l.means E y n r
            ∙ ap (unwind E L ns t.values t.bindings (reverse t.frames))
            (ap (node_does E L ns gs (kind_at ns q) q (scope_at E L t.values t.bindings s) d) (state_ticked t y)
            ∙ sym (r n q (scope_at E L t.values t.bindings s) d (byname.tick (state_of t y)) R.control.0.0)
            ∙ sym (begin_room n (E L q (scope_at E L t.values t.bindings s)) d (state_of t y) lt lb ld)));
        falls = omega arith;
        least = omega arith;
        most = omega arith;
      }

  pub begin_too_long : 2048 ≤ t.begun → (y : ℕ → List ℕ) → Steps ns gs y t (Eval spot) y t (Over Long)
  begin_too_long ge y =
      record {
        ready = record { lv = R.lv; lv_is = R.lv_is; laid = R.laid; sound = R.sound; control = tt };
        means = λ E n r lt. ap (unwind E (byname.house n) ns t.values t.bindings (reverse t.frames))
            (sym (begin_long n (E (byname.house n) q (scope_at E (byname.house n) t.values t.bindings s)) d (state_of t y) lt ge));
        falls = omega arith;
        least = omega arith;
        most = omega arith;
      }

  pub begin_too_deep : t.begun < 2048 → 129 ≤ d → (y : ℕ → List ℕ) → Steps ns gs y t (Eval spot) y t (Over Deep)
  begin_too_deep lb ge y =
      record {
        ready = record { lv = R.lv; lv_is = R.lv_is; laid = R.laid; sound = R.sound; control = tt };
        means = λ E n r lt. ap (unwind E (byname.house n) ns t.values t.bindings (reverse t.frames))
            (sym (begin_deep n (E (byname.house n) q (scope_at E (byname.house n) t.values t.bindings s)) d (state_of t y) lt lb ge));
        falls = omega arith;
        least = omega arith;
        most = omega arith;
      }

-- the top frame is taken off

abbrev pub popped : List Frame → Tables → Tables
popped fs t = record { frames = fs; bindings = t.bindings; values = t.values; log = t.log; begun = t.begun }

module _ (ns : List Row) (gs : List Leg) (t : Tables) (v : ℕ) (R : Ready ns gs t (Return v)) (fs : List Frame) (f : Frame) (e : t.frames ≡ fs ++ (f ∷ [])) where
  pub given : Given ns gs (popped fs t) f.spot f.first v
  given =
      let p = sound_popped ns R.lv t fs f e R.sound in
      let o = p.1 in
      record {
        poised = record {
          lv = R.lv;
          lv_is = R.lv_is;
          laid = R.laid;
          sound = p.0;
          node = o.node;
          scope = o.scope;
          deep = o.deep;
          least = o.least;
          slack = p.2;
        };
        first = o.first;
        value = R.control;
      }

  pub give_works : (y : ℕ → List ℕ) (t' : Tables) (c' : Control) → Leads ns gs (popped fs t) (frame_act ns (popped fs t) f v) t' c' → Steps ns gs y t (Return v) y t' c'
  give_works y t' c' l =
      let fa = l.falls in
      let b = l.begun in
      let len : length t.frames ≡ length fs + 1 = ap length e ∙ length-append fs (f ∷ []) in
      record {
        ready = l.ready;
        means = λ E n r m. (let L = byname.house n in
            l.means E y n r
            ∙ ap (λ (k : List Frame). unwind E L ns t.values t.bindings k (byname.value (value_at t.values v) (state_of t y))) (sym (ap reverse e ∙ reverse_push E L ns fs f)));
        falls = omega arith;
        least = omega arith;
        most = omega arith;
      }

-- a draw

module _ (ns : List Row) (gs : List Leg) (t : Tables) (k i : ℕ) (R : Ready ns gs t (Draw k i)) (y y' : ℕ → List ℕ) where
  pub draw_none : y i ≡ [] → ((j : ℕ) → y' j ≡ y j) → Steps ns gs y t (Draw k i) y' t (Over Empty)
  draw_none e h =
      record {
        ready = record { lv = R.lv; lv_is = R.lv_is; laid = R.laid; sound = R.sound; control = tt };
        means = λ E n r m. (let L = byname.house n in
            ap (unwind E L ns t.values t.bindings (reverse t.frames))
            ((λ j. byname.ended byname.empty (state_of t (λ x. h x j)))
            ∙ ap (λ l. byname.draw L l k i (state_of t y)) (sym e)));
        falls = omega arith;
        least = omega arith;
        most = omega arith;
      }

  same_bay : (x : ℕ) → y i ≡ x ∷ y' i → ((j : ℕ) → (j ≡ i → ⊥) → y' j ≡ y j) → (j : ℕ) → y' j ≡ cond (eqb j i) (y' i) (y j)
  same_bay x e h j = go (eqb j i) refl
    where
      go : (b : Bool) → eqb j i ≡ b → y' j ≡ cond b (y' i) (y j)
      go true q = ap y' (eqb-true j i q)
      go false q = h j (eqb-false j i q)

  pub draw_some : (x : ℕ) → x < 4294967296 → y i ≡ x ∷ y' i → ((j : ℕ) → (j ≡ i → ⊥) → y' j ≡ y j)
      → Steps ns gs y t (Draw k i) y' (valued (Num x) (noted (Lookup k i) t)) (Return (length t.values))
  draw_some x fits e h =
      let C = R.control in
      let S₁ = sound_noted ns R.lv t (Lookup k i) R.sound C.2 in
      let l : length (t.values ++ (Num x ∷ [])) ≡ length t.values + 1 = length-append t.values (Num x ∷ []) in
      record {
        ready = record { lv = R.lv; lv_is = R.lv_is; laid = R.laid; sound = sound_valued ns R.lv (noted (Lookup k i) t) (Num x) S₁ fits C.1; control = omega arith };
        means = λ E n r m. (let L = byname.house n in
            unwind_valued E L ns R.lv (noted (Lookup k i) t) (Num x) (byname.value (value_at (t.values ++ (Num x ∷ [])) (length t.values)) (state_of (noted (Lookup k i) t) y')) S₁
            ∙ ap (unwind E L ns t.values t.bindings (reverse t.frames))
            (ap₂ byname.value (value_new t.values (Num x)) (state_noted t y' k i)
            ∙ (λ j. byname.value (byname.v_number x) (byname.note (byname.lookup k i) (state_of t (λ z. same_bay x e h z j))))
            ∙ ap (λ l. byname.draw L l k i (state_of t y)) (sym e)));
        falls = omega arith;
        least = omega arith;
        most = omega arith;
      }

pub steps_at : (ns : List Row) (gs : List Leg) (y : ℕ → List ℕ) (t : Tables) (c : Control) (y' : ℕ → List ℕ) (t' t'' : Tables) (c' c'' : Control) → t'' ≡ t' → c'' ≡ c'
    → Steps ns gs y t c y' t' c' → Steps ns gs y t c y' t'' c''
steps_at ns gs y t c y' t' t'' c' c'' p e l =
    subst (λ (x : Tables). Steps ns gs y t c y' x c'') (sym p) (subst (λ (z : Control). Steps ns gs y t c y' t' z) (sym e) l)

-- from one name of the control to another
pub steps_from : (ns : List Row) (gs : List Leg) (y : ℕ → List ℕ) (t : Tables) (c d : Control) (y' : ℕ → List ℕ) (t' : Tables) (c' : Control) → c ≡ d
    → Steps ns gs y t d y' t' c' → Steps ns gs y t c y' t' c'
steps_from ns gs y t c d y' t' c' e h = subst (λ (z : Control). Steps ns gs y t z y' t' c') (sym e) h
