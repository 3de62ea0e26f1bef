-- Each change of the tables keeps them sound. Assumes nothing.
use Rattle.std.proofs.Common.{◌≡◌, ℕ, zero, suc, ◌+◌, ◌<◌, ◌≤◌, ◌⊎◌, Option, Some, None, List, [], ◌∷◌, ◌++◌, length, get_or, sym, refl, ap, ◌∙◌, subst, inl, inr, eq-or-lt_of_le, arith, length-append}
use lib.ListN.{get_or-append}
use lib.Seq.{get_or-append_seam}
use Rattle.flight.specs.Tables.{Tables, no_binding, no_frame, size_at, new_binding, opened, noted, valued, pushed, ticked}
use Rattle.flight.specs.Sound.{WhatOk, BindingOk, PartOk, FirstOk, FrameOk, Sound, IsNothing, IsLeft, IsRight}
use Rattle.flight.specs.declared.machine.Part.{Part}
use Rattle.flight.specs.declared.machine.Part.TheVariants.{Nothing, Num, Both, InLeft, InRight}
use Rattle.flight.specs.declared.machine.What.{What}
use Rattle.flight.specs.declared.machine.What.TheVariants.{Thunk, Kept, Store}
use Rattle.flight.specs.declared.machine.Binding.{Binding}
use Rattle.flight.specs.declared.machine.Frame.{Frame}
use Rattle.flight.specs.declared.machine.Entry.{Entry}
use Rattle.plan.specs.declared.Row.{Row}

-- what holds at each place of a list, and of one more item
pub each_more : {X : Type 0} (P : ℕ → X → Type 0) (d : X) (xs : List X) (x : X)
    → ((i : ℕ) → i < length xs → P i (get_or xs i d)) → P (length xs) x → (i : ℕ) → i < length (xs ++ (x ∷ [])) → P i (get_or (xs ++ (x ∷ [])) i d)
each_more P d xs x h k i lt = go (eq-or-lt_of_le le)
  where
    le : i ≤ length xs
    le = let e : length (xs ++ (x ∷ [])) ≡ length xs + 1 = length-append xs (x ∷ []) in omega arith

    go : (i ≡ length xs) ⊎ (i < length xs) → P i (get_or (xs ++ (x ∷ [])) i d)
    go (inl e) = subst (λ j. P j (get_or (xs ++ (x ∷ [])) j d)) (sym e) (subst (P (length xs)) (sym (get_or-append_seam xs x [] d)) k)
    go (inr l) = subst (P i) (sym (get_or-append xs (x ∷ []) d i l)) (h i l)

pub size_more : (bs : List Binding) (b : Binding) (p : ℕ) → p ≤ length bs → size_at (bs ++ (b ∷ [])) p ≡ size_at bs p
size_more bs b zero le = refl
size_more bs b (suc i) le = ap (λ (x : Binding). suc x.level) (get_or-append bs (b ∷ []) no_binding i (omega arith))

-- a scope has no more names than there are bindings up to it
pub size_low : (bs : List Binding) → ((i : ℕ) → i < length bs → (get_or bs i no_binding).level ≤ i) → (p : ℕ) → p ≤ length bs → size_at bs p ≤ p
size_low bs low zero le = omega arith
size_low bs low (suc i) le = let o = low i (omega arith) in omega arith

module _ (ns : List Row) (lv : ℕ → ℕ) where
  what_more : (bs : List Binding) (b : Binding) (vs ws i : ℕ) (w : What) → i ≤ length bs → vs ≤ ws → WhatOk ns lv bs vs i w
      → WhatOk ns lv (bs ++ (b ∷ [])) ws i w
  what_more bs b vs ws i (Thunk q s) le v h = (h.0, (h.1.0, h.1.1 ∙ sym (size_more bs b s (let p = h.0 in omega arith))))
  what_more bs b vs ws i (Kept u) le v h = omega arith
  what_more bs b vs ws i Store le v h = h

  what_wide : (bs : List Binding) (vs ws i : ℕ) (w : What) → vs ≤ ws → WhatOk ns lv bs vs i w → WhatOk ns lv bs ws i w
  what_wide bs vs ws i (Thunk q s) v h = h
  what_wide bs vs ws i (Kept u) v h = omega arith
  what_wide bs vs ws i Store v h = h

  first_wide : (vs ws : ℕ) (p : Option ℕ) → vs ≤ ws → FirstOk vs p → FirstOk ws p
  first_wide vs ws None le h = tt
  first_wide vs ws (Some u) le h = omega arith

  binding_more : (bs : List Binding) (b : Binding) (vs i : ℕ) (x : Binding) → i ≤ length bs → BindingOk ns lv bs vs i x
      → BindingOk ns lv (bs ++ (b ∷ [])) vs i x
  binding_more bs b vs i x le o =
      record {
        older = o.older;
        level = o.level ∙ sym (size_more bs b x.parent (let p = o.older in omega arith));
        low = o.low;
        what = what_more bs b vs vs i x.what le (omega arith) o.what;
      }

  frame_more : (bs : List Binding) (b : Binding) (vs i : ℕ) (f : Frame) → FrameOk ns lv bs vs i f → FrameOk ns lv (bs ++ (b ∷ [])) vs i f
  frame_more bs b vs i f o =
      let e : length (bs ++ (b ∷ [])) ≡ length bs + 1 = length-append bs (b ∷ []) in
      let s = o.scope in
      record {
        node = (o.node.0, o.node.1 ∙ sym (size_more bs b f.spot.scope o.scope));
        scope = omega arith;
        deep = o.deep;
        least = o.least;
        first = o.first;
      }

  pub sound_opened : (t : Tables) (k : ℕ) (w : What) (p : ℕ) → Sound ns lv t → length t.log < 4096 → p ≤ length t.bindings
      → WhatOk ns lv t.bindings (length t.values) (length t.bindings) w → Sound ns lv (opened k w p t)
  sound_opened t k w p s lt le ok =
      let bs = t.bindings in
      let b = new_binding bs k w p in
      let vs = length t.values in
      let e : length (bs ++ (b ∷ [])) ≡ length bs + 1 = length-append bs (b ∷ []) in
      let l : length (opened k w p t).log ≡ length t.log + 1 = length-append t.log _ in
      let m = s.made in
      record {
        bindings = each_more (BindingOk ns lv (bs ++ (b ∷ [])) vs) no_binding bs b
            (λ i h. binding_more bs b vs i (get_or bs i no_binding) (omega arith) (s.bindings i h))
            (binding_more bs b vs (length bs) b (omega arith) (record {
              older = le;
              level = refl;
              low = (let z = size_low bs (λ i h. (s.bindings i h).low) p le in omega arith);
              what = ok;
            }));
        values = s.values;
        frames = λ i h. frame_more bs b vs i (get_or t.frames i no_frame) (s.frames i h);
        made = omega arith;
        log = omega arith;
        begun = s.begun;
        room = s.room;
        high = s.high;
        three = s.three;
        nothing = s.nothing;
        yes = s.yes;
        not = s.not;
      }

  pub sound_noted : (t : Tables) (e : Entry) → Sound ns lv t → length t.log < 4096 → Sound ns lv (noted e t)
  sound_noted t e s lt =
      let l : length (t.log ++ (e ∷ [])) ≡ length t.log + 1 = length-append t.log _ in
      let m = s.made in
      record {
        bindings = s.bindings;
        values = s.values;
        frames = s.frames;
        made = omega arith;
        log = omega arith;
        begun = s.begun;
        room = s.room;
        high = s.high;
        three = s.three;
        nothing = s.nothing;
        yes = s.yes;
        not = s.not;
      }

  pub sound_valued : (t : Tables) (p : Part) → Sound ns lv t → PartOk (length t.values) p
      → length t.values + length t.frames + 1 ≤ 3 + t.begun → Sound ns lv (valued p t)
  sound_valued t p s ok room =
      let vs = t.values in
      let l : length (vs ++ (p ∷ [])) ≡ length vs + 1 = length-append vs _ in
      let th = s.three in
      record {
        bindings = λ i h. (let o = s.bindings i h in record {
          older = o.older;
          level = o.level;
          low = o.low;
          what = what_wide t.bindings (length vs) (length (vs ++ (p ∷ []))) i (get_or t.bindings i no_binding).what (omega arith) o.what;
        });
        values = each_more PartOk Nothing vs p s.values ok;
        frames = λ i h. (let o = s.frames i h in record {
          node = o.node;
          scope = o.scope;
          deep = o.deep;
          least = o.least;
          first = first_wide (length vs) (length (vs ++ (p ∷ []))) (get_or t.frames i no_frame).first (omega arith) o.first;
        });
        made = s.made;
        log = s.log;
        begun = s.begun;
        room = omega arith;
        high = s.high;
        three = omega arith;
        nothing = subst IsNothing (sym (get_or-append vs (p ∷ []) Nothing 0 (omega arith))) s.nothing;
        yes = subst IsLeft (sym (get_or-append vs (p ∷ []) Nothing 1 (omega arith))) s.yes;
        not = subst IsRight (sym (get_or-append vs (p ∷ []) Nothing 2 (omega arith))) s.not;
      }

  pub sound_pushed : (t : Tables) (f : Frame) → Sound ns lv t → FrameOk ns lv t.bindings (length t.values) (length t.frames) f
      → length t.frames < 128 → length t.values + length t.frames + 1 ≤ 3 + t.begun → Sound ns lv (pushed f t)
  sound_pushed t f s ok high room =
      let l : length (t.frames ++ (f ∷ [])) ≡ length t.frames + 1 = length-append t.frames _ in
      record {
        bindings = s.bindings;
        values = s.values;
        frames = each_more (FrameOk ns lv t.bindings (length t.values)) no_frame t.frames f s.frames ok;
        made = s.made;
        log = s.log;
        begun = s.begun;
        room = omega arith;
        high = omega arith;
        three = s.three;
        nothing = s.nothing;
        yes = s.yes;
        not = s.not;
      }

  pub sound_ticked : (t : Tables) → Sound ns lv t → t.begun < 2048 → Sound ns lv (ticked t)
  sound_ticked t s lt =
      let r = s.room in
      record {
        bindings = s.bindings;
        values = s.values;
        frames = s.frames;
        made = s.made;
        log = s.log;
        begun = omega arith;
        room = omega arith;
        high = s.high;
        three = s.three;
        nothing = s.nothing;
        yes = s.yes;
        not = s.not;
      }

  -- the tables without the top frame
  pub sound_popped : (t : Tables) (fs : List Frame) (f : Frame) → t.frames ≡ fs ++ (f ∷ []) → Sound ns lv t
      → Sound ns lv (record { frames = fs; bindings = t.bindings; values = t.values; log = t.log; begun = t.begun })
      × FrameOk ns lv t.bindings (length t.values) (length fs) f
      × (length t.values + length fs + 1 ≤ 3 + t.begun)
      × (length fs < 128)
  sound_popped t fs f e s =
      let l : length (fs ++ (f ∷ [])) ≡ length fs + 1 = length-append fs _ in
      let m : length t.frames ≡ length (fs ++ (f ∷ [])) = ap length e in
      let r = s.room in
      let h = s.high in (
        record {
          bindings = s.bindings;
          values = s.values;
          frames = λ i h. subst (FrameOk ns lv t.bindings (length t.values) i)
              (ap (λ l. get_or l i no_frame) e ∙ get_or-append fs (f ∷ []) no_frame i h) (s.frames i (omega arith));
          made = s.made;
          log = s.log;
          begun = s.begun;
          room = omega arith;
          high = omega arith;
          three = s.three;
          nothing = s.nothing;
          yes = s.yes;
          not = s.not;
        },
        subst (FrameOk ns lv t.bindings (length t.values) (length fs)) (ap (λ l. get_or l (length fs) no_frame) e ∙ get_or-append_seam fs f [] no_frame)
            (s.frames (length fs) (omega arith)),
        omega arith,
        omega arith,
      )

pub nothing_is : (p : Part) → IsNothing p → p ≡ Nothing
nothing_is Nothing h = refl
nothing_is (Num n) h = absurd h
nothing_is (Both u v) h = absurd h
nothing_is (InLeft u) h = absurd h
nothing_is (InRight u) h = absurd h

pub left_part : (p : Part) → IsLeft p → p ≡ InLeft 0
left_part Nothing h = absurd h
left_part (Num n) h = absurd h
left_part (Both u v) h = absurd h
left_part (InLeft u) h = ap InLeft h
left_part (InRight u) h = absurd h

pub right_part : (p : Part) → IsRight p → p ≡ InRight 0
right_part Nothing h = absurd h
right_part (Num n) h = absurd h
right_part (Both u v) h = absurd h
right_part (InLeft u) h = absurd h
right_part (InRight u) h = ap InRight h
