-- The limits, where a test on them is known, and the stack under changes. Assumes nothing.
use Rattle.std.proofs.Common.{◌≡◌, ℕ, suc, ◌<◌, ◌≤◌, Option, Some, None, Bool, true, false, cond, ltb, leb, List, [], ◌∷◌, ◌++◌, map, reverse, length, get_or, sym, refl, ap, ◌∙◌, subst, ap₂, add-one, arith, length-append, le-ltb, lt-ltb}
use Rattle.std.proofs.lemmas.Bool.{le-leb, lt-leb}
use mathlib.Core.List.{map-append, reverse-append}
use mathlib.Core.Option.{some, none}
use lib.ListN.{length-map}
use Rattle.evaluation.specs.Flight as byname
use Rattle.flight.specs.Nodes.{Runner, kind_at, both}
use Rattle.flight.specs.Tables.{Tables, no_binding, no_frame, new_binding, opened, noted, ticked}
use Rattle.flight.specs.Means.{value_at, scopes, scope_at, resumed, frame_means, unwind, entry_of, state_of}
use Rattle.flight.specs.Sound.{WhatOk, FirstOk, Sound}
use Rattle.flight.specs.declared.machine.Part.{Part}
use Rattle.flight.specs.declared.machine.What.{What}
use Rattle.flight.specs.declared.machine.What.TheVariants.{Kept}
use Rattle.flight.specs.declared.machine.Binding.{Binding}
use Rattle.flight.specs.declared.machine.Frame.{Frame}
use Rattle.flight.specs.Tables.{Made, Lookup}
use Rattle.plan.specs.declared.Row.{Row}
use Rattle.flight.proofs.Decode.{value_old, scope_old, scopes_valued}

module _ (n : ℕ) (f : byname.Comp) (d : ℕ) (s : byname.State) where
  stops : (a b c : Bool) → leb n s.begun ≡ a → leb 2048 s.begun ≡ b → ltb 128 d ≡ c
      → byname.begin (byname.house n) f d s
      ≡ byname.gate (cond a (some byname.in_air) (cond b (some byname.long) (cond c (some byname.deep) none))) s (λ s. f d (byname.tick s))
  stops a b c p q r =
      λ i. byname.gate (cond (p i) (some byname.in_air) (cond (q i) (some byname.long) (cond (r i) (some byname.deep) none))) s (λ s. f d (byname.tick s))

  pub begin_room : s.begun < n → s.begun < 2048 → d < 129 → byname.begin (byname.house n) f d s ≡ f d (byname.tick s)
  begin_room a b c = stops false false false (lt-leb n _ a) (lt-leb 2048 _ b) (le-ltb 128 d (omega arith))

  pub begin_long : s.begun < n → 2048 ≤ s.begun → byname.begin (byname.house n) f d s ≡ byname.ended byname.long s
  begin_long a b = stops false true (ltb 128 d) (lt-leb n _ a) (le-leb 2048 _ b) refl

  pub begin_deep : s.begun < n → s.begun < 2048 → 129 ≤ d → byname.begin (byname.house n) f d s ≡ byname.ended byname.deep s
  begin_deep a b c = stops false false true (lt-leb n _ a) (lt-leb 2048 _ b) (lt-ltb 128 d (omega arith))

  pub begin_air : n ≤ s.begun → byname.begin (byname.house n) f d s ≡ byname.ended byname.in_air s
  begin_air a = stops true (leb 2048 s.begun) (ltb 128 d) (le-leb n _ a) refl refl

pub room_yes : (n len : ℕ) → len < 4096 → (byname.house n).room len ≡ none
room_yes n len lt = ap (λ b. cond b (some byname.full) none) (lt-leb 4096 len lt)

pub room_no : (n len : ℕ) → len ≡ 4096 → (byname.house n).room len ≡ some byname.full
room_no n len e = ap (λ b. cond b (some byname.full) none) (le-leb 4096 len (omega arith))

pub make_room : (n k : ℕ) (s : byname.State) (f : ℕ → byname.State → byname.Out) → length s.log < 4096
    → byname.make (byname.house n) k s f ≡ f s.next (byname.bump k s)
make_room n k s f lt = ap (λ o. byname.gate o s (λ s. f s.next (byname.bump k s))) (room_yes n (length s.log) lt)

pub make_full : (n k : ℕ) (s : byname.State) (f : ℕ → byname.State → byname.Out) → length s.log ≡ 4096
    → byname.make (byname.house n) k s f ≡ byname.ended byname.full s
make_full n k s f e = ap (λ o. byname.gate o s (λ s. f s.next (byname.bump k s))) (room_no n (length s.log) e)

-- states

pub log_length : (t : Tables) (y : ℕ → List ℕ) → length (state_of t y).log ≡ length t.log
log_length t y = length-map t.log entry_of

pub state_ticked : (t : Tables) (y : ℕ → List ℕ) → state_of (ticked t) y ≡ byname.tick (state_of t y)
state_ticked t y = ap (λ n. record { begun = n; log = map entry_of t.log; next = length t.bindings; left = y }) (add-one t.begun)

pub state_opened : (t : Tables) (y : ℕ → List ℕ) (k : ℕ) (w : What) (p : ℕ) → state_of (opened k w p t) y ≡ byname.bump k (state_of t y)
state_opened t y k w p = λ i.
    record {
      begun = t.begun;
      log = map-append entry_of t.log (Made k (length t.bindings) ∷ []) i;
      next = (length-append t.bindings (new_binding t.bindings k w p ∷ []) ∙ add-one (length t.bindings)) i;
      left = y;
    }

pub state_noted : (t : Tables) (y : ℕ → List ℕ) (k b : ℕ) → state_of (noted (Lookup k b) t) y ≡ byname.note (byname.lookup k b) (state_of t y)
state_noted t y k b =
    ap (λ l. record { begun = t.begun; log = l; next = length t.bindings; left = y }) (map-append entry_of t.log (Lookup k b ∷ []))

-- the stack

module _ (E : Runner) (L : byname.Limits) (ns : List Row) where
  pub unwind_ended : (ps : List Part) (bs : List Binding) (fs : List Frame) (e : byname.Ending) (s : byname.State)
      → unwind E L ns ps bs fs (byname.ended e s) ≡ byname.ended e s
  unwind_ended ps bs [] e s = refl
  unwind_ended ps bs (f ∷ fs) e s = unwind_ended ps bs fs e s

  pub reverse_push : (fs : List Frame) (f : Frame) → reverse (fs ++ (f ∷ [])) ≡ f ∷ reverse fs
  reverse_push fs f = reverse-append fs (f ∷ [])

  unwind_snoc : (ps : List Part) (bs : List Binding) (fs gs : List Frame) (o : byname.Out)
      → unwind E L ns ps bs (fs ++ gs) o ≡ unwind E L ns ps bs gs (unwind E L ns ps bs fs o)
  unwind_snoc ps bs [] gs o = refl
  unwind_snoc ps bs (f ∷ fs) gs o = unwind_snoc ps bs fs gs (byname.and_then o (frame_means E L ns ps bs f))

  abbrev Same : List Part → List Binding → List Part → List Binding → List Frame → Type 0
  Same ps bs qs cs fs = (i : ℕ) → i < length fs → frame_means E L ns qs cs (get_or fs i no_frame) ≡ frame_means E L ns ps bs (get_or fs i no_frame)

  -- frames that mean the same
  pub unwind_same : (ps : List Part) (bs : List Binding) (qs : List Part) (cs : List Binding) (fs : List Frame) (o : byname.Out) → Same ps bs qs cs fs
      → unwind E L ns qs cs (reverse fs) o ≡ unwind E L ns ps bs (reverse fs) o
  unwind_same ps bs qs cs [] o h = refl
  unwind_same ps bs qs cs (f ∷ fs) o h =
      ap (λ l. unwind E L ns qs cs l o) (reverse-append (f ∷ []) fs)
      ∙ unwind_snoc qs cs (reverse fs) (f ∷ []) o
      ∙ ap₂ byname.and_then (unwind_same ps bs qs cs fs o (λ i lt. h (suc i) (omega arith))) (h 0 (omega arith))
      ∙ sym (unwind_snoc ps bs (reverse fs) (f ∷ []) o)
      ∙ ap (λ l. unwind E L ns ps bs l o) (sym (reverse-append (f ∷ []) fs))

  first_same : (val wal : ℕ → byname.Value) (vs : ℕ) (f : Frame) (ρ : byname.Scope) (p : Option ℕ) → FirstOk vs p → ((i : ℕ) → i < vs → wal i ≡ val i)
      → resumed E L ns wal f ρ p ≡ resumed E L ns val f ρ p
  first_same val wal vs f ρ None ok h = refl
  first_same val wal vs f ρ (Some u) ok h = ap (λ x. λ v s. byname.value (both (kind_at ns f.spot.node) x v) s) (h u ok)

  -- one more binding
  pub unwind_opened : (lv : ℕ → ℕ) (t : Tables) (b : Binding) (o : byname.Out) → Sound ns lv t
      → unwind E L ns t.values (t.bindings ++ (b ∷ [])) (reverse t.frames) o ≡ unwind E L ns t.values t.bindings (reverse t.frames) o
  unwind_opened lv t b o s =
      unwind_same t.values t.bindings t.values (t.bindings ++ (b ∷ [])) t.frames o
      (λ i lt. ap (λ ρ. resumed E L ns (value_at t.values) (get_or t.frames i no_frame) ρ (get_or t.frames i no_frame).first)
      (scope_old E L t.values t.bindings b (get_or t.frames i no_frame).spot.scope (s.frames i lt).scope))

  kept_low : (lv : ℕ → ℕ) (t : Tables) → Sound ns lv t → (i : ℕ) → i < length t.bindings → (v : ℕ) → (get_or t.bindings i no_binding).what ≡ Kept v
      → v < length t.values
  kept_low lv t s i lt v e = subst (WhatOk ns lv t.bindings (length t.values) i) e (s.bindings i lt).what

  pub scopes_same : (lv : ℕ → ℕ) (t : Tables) (p : Part) → Sound ns lv t
      → scopes E L (value_at (t.values ++ (p ∷ []))) t.bindings ≡ scopes E L (value_at t.values) t.bindings
  scopes_same lv t p s = scopes_valued E L t.values p t.bindings (kept_low lv t s)

  -- one more value
  pub unwind_valued : (lv : ℕ → ℕ) (t : Tables) (p : Part) (o : byname.Out) → Sound ns lv t
      → unwind E L ns (t.values ++ (p ∷ [])) t.bindings (reverse t.frames) o ≡ unwind E L ns t.values t.bindings (reverse t.frames) o
  unwind_valued lv t p o s =
      unwind_same t.values t.bindings (t.values ++ (p ∷ [])) t.bindings t.frames o
      (λ i lt. (let f = get_or t.frames i no_frame in
      ap (λ es. resumed E L ns (value_at (t.values ++ (p ∷ []))) f (get_or es f.spot.scope []) f.first) (scopes_same lv t p s)
      ∙ first_same (value_at t.values) (value_at (t.values ++ (p ∷ []))) (length t.values) f (scope_at E L t.values t.bindings f.spot.scope) f.first (s.frames i lt).first
      (λ j l. value_old t.values p j l)))
