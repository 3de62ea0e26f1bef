-- Where each kind of node leads. Assumes nothing.
use Rattle.std.proofs.Common.{◌≡◌, ℕ, suc, ◌+◌, ◌<◌, ◌≤◌, Option, List, [], ◌∷◌, ◌++◌, reverse, length, get_or, sym, refl, ap, ◌∙◌, subst, ap₂, add-one, arith, length-append}
use lib.Seq.{get_or-append_seam}
use Rattle.evaluation.specs.Flight.{at}
use Rattle.evaluation.specs.Flight as byname
use Rattle.flight.specs.Nodes.{Runner}
use Rattle.flight.specs.Tables.{Tables, the_spot, no_binding, size_at, new_binding, opened, noted, valued, pushed}
use Rattle.flight.specs.Means.{value_at, part_of, lookup_of, scopes, scope_at, resumed, unwind, state_of}
use Rattle.flight.specs.Grow.{grow}
use Rattle.flight.specs.Sound.{Under, WhatOk, PartOk, FirstOk, Poised, Act, Leads, bind_act, Finds, name_act}
use Rattle.plan.specs.declared.Leg.{Leg}
use Rattle.flight.specs.declared.machine.Spot.{Spot}
use Rattle.flight.specs.declared.machine.Part.{Part}
use Rattle.flight.specs.declared.machine.What.{What}
use Rattle.flight.specs.declared.machine.What.TheVariants.{Thunk, Kept, Store}
use Rattle.flight.specs.declared.machine.Binding.{Binding}
use Rattle.flight.specs.declared.machine.Frame.{Frame}
use Rattle.flight.specs.declared.machine.Ending.TheVariants.{Full}
use Rattle.flight.specs.Tables.{Lookup}
use Rattle.flight.specs.declared.machine.Control.{Control}
use Rattle.flight.specs.declared.machine.Control.TheVariants.{Eval, Return, Draw, Over}
use Rattle.plan.specs.declared.Row.{Row}
use Rattle.flight.proofs.Decode.{value_new, scope_new}
use Rattle.flight.proofs.Keeps.{sound_opened, sound_noted, sound_valued, sound_pushed}
use Rattle.flight.proofs.Gates.{room_yes, room_no, make_room, make_full, log_length, state_opened, state_noted, reverse_push, unwind_opened, unwind_valued}

-- the same act under another name
pub leads_as : (ns : List Row) (gs : List Leg) (t : Tables) (f g : Act) (t' : Tables) (c' : Control)
    → ((E : Runner) (L : byname.Limits) (st : byname.State) → f E L st ≡ g E L st) → Leads ns gs t f t' c' → Leads ns gs t g t' c'
leads_as ns gs t f g t' c' h l =
    record {
      ready = l.ready;
      means = λ E y n r. l.means E y n r ∙ ap (unwind E (byname.house n) ns t.values t.bindings (reverse t.frames)) (h E (byname.house n) (state_of t y));
      falls = l.falls;
      begun = l.begun;
    }

pub leads_at : (ns : List Row) (gs : List Leg) (t : Tables) (f : Act) (t' t'' : Tables) (c' c'' : Control) → t'' ≡ t' → c'' ≡ c'
    → Leads ns gs t f t' c' → Leads ns gs t f t'' c''
leads_at ns gs t f t' t'' c' c'' p e l =
    subst (λ (x : Tables). Leads ns gs t f x c'') (sym p) (subst (λ (c : Control). Leads ns gs t f t' c) (sym e) l)

module _ (ns : List Row) (gs : List Leg) (t : Tables) (spot : Spot) (P : Poised ns gs t spot) where
  abbrev q : ℕ
  q = spot.node

  abbrev s : ℕ
  s = spot.scope

  abbrev d : ℕ
  d = spot.depth

  abbrev V : List Part
  V = t.values

  abbrev B : List Binding
  B = t.bindings

  abbrev K : List Frame
  K = reverse t.frames

  -- a value that is there already
  pub give_leads : (f : Act) (v : ℕ) → v < length V → ((E : Runner) (L : byname.Limits) (st : byname.State) → byname.value (value_at V v) st ≡ f E L st)
      → Leads ns gs t f t (Return v)
  give_leads f v lt h =
      record {
        ready = record { lv = P.lv; lv_is = P.lv_is; laid = P.laid; sound = P.sound; control = lt };
        means = λ E y n r. ap (unwind E (byname.house n) ns V B K) (h E (byname.house n) (state_of t y));
        falls = omega arith;
        begun = refl;
      }

  -- a new value
  pub value_leads : (f : Act) (p : Part) → PartOk (length V) p
      → ((E : Runner) (L : byname.Limits) (st : byname.State) → byname.value (part_of (grow part_of [] V) p) st ≡ f E L st)
      → Leads ns gs t f (valued p t) (Return (length V))
  value_leads f p ok h =
      let e : length (V ++ (p ∷ [])) ≡ length V + 1 = length-append V (p ∷ []) in
      record {
        ready = record { lv = P.lv; lv_is = P.lv_is; laid = P.laid; sound = sound_valued ns P.lv t p P.sound ok P.slack; control = omega arith };
        means = λ E y n r.
            unwind_valued E (byname.house n) ns P.lv t p (byname.value (value_at (V ++ (p ∷ [])) (length V)) (state_of t y)) P.sound
            ∙ ap (unwind E (byname.house n) ns V B K) (ap (λ v. byname.value v (state_of t y)) (value_new V p) ∙ h E (byname.house n) (state_of t y));
        falls = omega arith;
        begun = refl;
      }

  -- a kid is worked out first
  pub wait_leads : (f : Act) (p : Option ℕ) (k : ℕ) → FirstOk (length V) p → Under ns P.lv k (size_at B s)
      → ((E : Runner) (L : byname.Limits) (st : byname.State)
      → byname.and_then (byname.begin L (E L k (scope_at E L V B s)) (d + 1) st) (resumed E L ns (value_at V) (record { spot = spot; first = p }) (scope_at E L V B s) p) ≡ f E L st)
      → Leads ns gs t f (pushed (record { spot = spot; first = p }) t) (Eval (the_spot k s (d + 1)))
  wait_leads f p k ok u h =
      let fr : Frame = record { spot = spot; first = p } in
      let e : length (t.frames ++ (fr ∷ [])) ≡ length t.frames + 1 = length-append t.frames (fr ∷ []) in
      let dp = P.deep in
      let ls = P.least in
      record {
        ready = record {
          lv = P.lv;
          lv_is = P.lv_is;
          laid = P.laid;
          sound = sound_pushed ns P.lv t fr P.sound (record { node = P.node; scope = P.scope; deep = dp; least = ls; first = ok }) (omega arith) P.slack;
          control = (u, P.scope, omega arith, omega arith);
        };
        means = λ E y n r.
            ap (λ l. unwind E (byname.house n) ns V B l (byname.begin (byname.house n) (E (byname.house n) k (scope_at E (byname.house n) V B s)) (d + 1) (state_of t y)))
            (reverse_push E (byname.house n) ns t.frames fr)
            ∙ ap (unwind E (byname.house n) ns V B K) (h E (byname.house n) (state_of t y));
        falls = omega arith;
        begun = refl;
      }

  -- no room for an entry
  pub full_leads : (f : Act) → ((E : Runner) (n : ℕ) (st : byname.State) → length st.log ≡ 4096 → f E (byname.house n) st ≡ byname.ended byname.full st)
      → length t.log ≡ 4096 → Leads ns gs t f t (Over Full)
  full_leads f h e =
      record {
        ready = record { lv = P.lv; lv_is = P.lv_is; laid = P.laid; sound = P.sound; control = tt };
        means = λ E y n r. ap (unwind E (byname.house n) ns V B K) (sym (h E n (state_of t y) (log_length t y ∙ e)));
        falls = omega arith;
        begun = refl;
      }

  -- a binding, and then a node with it in scope
  pub bind_leads : (k : ℕ) (w : What) (b : ℕ) → length t.log < 4096 → WhatOk ns P.lv B (length V) (length B) w
      → Under ns P.lv b (suc (size_at B s))
      → Leads ns gs t (bind_act t k w b spot) (opened k w s t) (Eval (the_spot b (length B + 1) (d + 1)))
  bind_leads k w b lt ok u =
      let nb = new_binding B k w s in
      let e : length (B ++ (nb ∷ [])) ≡ length B + 1 = length-append B (nb ∷ []) in
      let dp = P.deep in
      let ls = P.least in
      let z : size_at (B ++ (nb ∷ [])) (length B + 1) ≡ suc (size_at B s)
      = ap (size_at (B ++ (nb ∷ []))) (add-one (length B)) ∙ ap (λ (x : Binding). suc x.level) (get_or-append_seam B nb [] no_binding) in
      record {
        ready = record {
          lv = P.lv;
          lv_is = P.lv_is;
          laid = P.laid;
          sound = sound_opened ns P.lv t k w s P.sound lt P.scope ok;
          control = ((u.0, u.1 ∙ sym z), omega arith, omega arith, omega arith);
        };
        means = λ E y n r. (let L = byname.house n in
            unwind_opened E L ns P.lv t nb
            (byname.begin L (E L b (scope_at E L V (B ++ (nb ∷ [])) (length B + 1))) (d + 1) (state_of (opened k w s t) y)) P.sound
            ∙ ap (unwind E L ns V B K)
            (ap₂ (λ (ρ : byname.Scope) (st : byname.State). byname.begin L (E L b ρ) (d + 1) st) (scope_new E L V B nb) (state_opened t y k w s)
            ∙ sym (make_room n k (state_of t y)
            (λ c st. byname.begin L (E L b (lookup_of E L (value_at V) (scopes E L (value_at V) B) k c w ∷ scope_at E L V B s)) (d + 1) st)
            (subst (λ m. m < 4096) (sym (log_length t y)) lt))));
        falls = omega arith;
        begun = refl;
      }

  -- lookups

  full_gate : (n : ℕ) (st : byname.State) (f : byname.State → byname.Out) → length st.log ≡ 4096
      → byname.gate ((byname.house n).room (length st.log)) st f ≡ byname.ended byname.full st
  full_gate n st f e = ap (λ o. byname.gate o st f) (room_no n (length st.log) e)

  room_gate : (n : ℕ) (st : byname.State) (f : byname.State → byname.Out) → length st.log < 4096
      → byname.gate ((byname.house n).room (length st.log)) st f ≡ f st
  room_gate n st f e = ap (λ o. byname.gate o st f) (room_yes n (length st.log) e)

  full_look : (E : Runner) (es : List byname.Scope) (k b : ℕ) (w : What) (n : ℕ) (st : byname.State) → length st.log ≡ 4096
      → lookup_of E (byname.house n) (value_at V) es k b w d st ≡ byname.ended byname.full st
  full_look E es k b (Thunk x z) n st e =
      full_gate n st (λ s. byname.begin (byname.house n) (E (byname.house n) x (get_or es z [])) (suc d) (byname.note (byname.lookup k b) s)) e
  full_look E es k b (Kept v) n st e = full_gate n st (λ s. byname.value (value_at V v) (byname.note (byname.lookup k b) s)) e
  full_look E es k b Store n st e = full_gate n st (λ s. byname.draw (byname.house n) (s.left b) k b s) e

  abbrev found_act : ℕ → ℕ → What → Act
  found_act k b w E L st = lookup_of E L (value_at V) (scopes E L (value_at V) B) k b w d st

  pub look_full : (k b : ℕ) (w : What) → length t.log ≡ 4096 → Leads ns gs t (found_act k b w) t (Over Full)
  look_full k b w e = full_leads (found_act k b w) (λ E n st l. full_look E (scopes E (byname.house n) (value_at V) B) k b w n st l) e

  pub look_later : (k b x z : ℕ) → length t.log < 4096 → Under ns P.lv x (size_at B z) → z ≤ length B
      → Leads ns gs t (found_act k b (Thunk x z)) (noted (Lookup k b) t) (Eval (the_spot x z (d + 1)))
  look_later k b x z lt u le =
      let dp = P.deep in
      let ls = P.least in
      record {
        ready = record {
          lv = P.lv;
          lv_is = P.lv_is;
          laid = P.laid;
          sound = sound_noted ns P.lv t (Lookup k b) P.sound lt;
          control = (u, le, omega arith, omega arith);
        };
        means = λ E y n r. ap (unwind E (byname.house n) ns V B K)
            (ap₂ (byname.begin (byname.house n) (E (byname.house n) x (scope_at E (byname.house n) V B z))) (add-one d) (state_noted t y k b)
            ∙ sym (room_gate n (state_of t y) (λ s. byname.begin (byname.house n) (E (byname.house n) x (scope_at E (byname.house n) V B z)) (suc d) (byname.note (byname.lookup k b) s))
            (subst (λ m. m < 4096) (sym (log_length t y)) lt)));
        falls = omega arith;
        begun = refl;
      }

  pub look_kept : (k b v : ℕ) → length t.log < 4096 → v < length V → Leads ns gs t (found_act k b (Kept v)) (noted (Lookup k b) t) (Return v)
  look_kept k b v lt u =
      record {
        ready = record { lv = P.lv; lv_is = P.lv_is; laid = P.laid; sound = sound_noted ns P.lv t (Lookup k b) P.sound lt; control = u };
        means = λ E y n r. ap (unwind E (byname.house n) ns V B K)
            (ap (byname.value (value_at V v)) (state_noted t y k b)
            ∙ sym (room_gate n (state_of t y) (λ s. byname.value (value_at V v) (byname.note (byname.lookup k b) s)) (subst (λ m. m < 4096) (sym (log_length t y)) lt)));
        falls = omega arith;
        begun = refl;
      }

  pub look_store : (k b : ℕ) → length t.log < 4096 → b < 8 → Leads ns gs t (found_act k b Store) t (Draw k b)
  look_store k b lt u =
      let sl = P.slack in
      record {
        ready = record { lv = P.lv; lv_is = P.lv_is; laid = P.laid; sound = P.sound; control = (u, sl, lt) };
        means = λ E y n r. ap (unwind E (byname.house n) ns V B K)
            (sym (room_gate n (state_of t y) (λ s. byname.draw (byname.house n) (s.left b) k b s) (subst (λ m. m < 4096) (sym (log_length t y)) lt)));
        falls = omega arith;
        begun = refl;
      }

  pub bind_full : (k : ℕ) (w : What) (b : ℕ) → length t.log ≡ 4096 → Leads ns gs t (bind_act t k w b spot) t (Over Full)
  bind_full k w b e =
      full_leads (bind_act t k w b spot)
      (λ E n st l. make_full n k st
      (λ c st. byname.begin (byname.house n) (E (byname.house n) b (lookup_of E (byname.house n) (value_at V) (scopes E (byname.house n) (value_at V) B) k c w ∷ scope_at E (byname.house n) V B s)) (d + 1) st) l) e

  -- a name, once its binding is found
  module _ (l r : ℕ) (b : Binding) (F : Finds t s l r) (x : b ≡ get_or B r no_binding) where
    named : (w : What) → b.what ≡ w → (t' : Tables) (c' : Control) → Leads ns gs t (found_act b.binder r w) t' c' → Leads ns gs t (name_act t l spot) t' c'
    named w e t' c' h =
        leads_as ns gs t (found_act b.binder r w) (name_act t l spot) t' c'
        (λ E L st.
        ap₂ (λ (k : ℕ) (u : What). lookup_of E L (value_at V) (scopes E L (value_at V) B) k r u d st) (ap (λ (y : Binding). y.binder) x) (sym e ∙ ap (λ (y : Binding). y.what) x)
        ∙ ap (λ (f : byname.Comp). f d st) (sym (F.1 E L))) h

    ok : (w : What) → b.what ≡ w → WhatOk ns P.lv B (length V) r w
    ok w e = subst (WhatOk ns P.lv B (length V) r) (ap (λ (y : Binding). y.what) (sym x) ∙ e) (P.sound.bindings r F.0).what

    pub name_full : length t.log ≡ 4096 → Leads ns gs t (name_act t l spot) t (Over Full)
    name_full e = named b.what refl t (Over Full) (look_full b.binder r b.what e)

    pub name_later : (k z : ℕ) → b.what ≡ Thunk k z → length t.log < 4096
        → Leads ns gs t (name_act t l spot) (noted (Lookup b.binder r) t) (Eval (the_spot k z (d + 1)))
    name_later k z e lt =
        let o = ok (Thunk k z) e in
        let p = o.0 in
        let q = F.0 in
        named (Thunk k z) e _ _ (look_later b.binder r k z lt o.1 (omega arith))

    pub name_kept : (v : ℕ) → b.what ≡ Kept v → length t.log < 4096 → Leads ns gs t (name_act t l spot) (noted (Lookup b.binder r) t) (Return v)
    name_kept v e lt = named (Kept v) e _ _ (look_kept b.binder r v lt (ok (Kept v) e))

    pub name_store : b.what ≡ Store → length t.log < 4096 → Leads ns gs t (name_act t l spot) t (Draw b.binder r)
    name_store e lt = named Store e _ _ (look_store b.binder r lt (ok Store e))
