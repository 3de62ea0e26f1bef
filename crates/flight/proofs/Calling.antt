-- The arguments of a call. Assumes nothing.
use Rattle.std.proofs.Common.{◌≡◌, ℕ, suc, ◌+◌, ◌-◌, ◌<◌, ◌≤◌, List, [], ◌∷◌, ◌++◌, reverse, length, sym, refl, ap, ◌∙◌, subst, add-one, arith, length-append}
use lib.Seq.{get_or-append_seam}
use Rattle.evaluation.specs.Flight.{at}
use Rattle.evaluation.specs.Flight as byname
use Rattle.flight.specs.Nodes.{end_at, bind_kids}
use Rattle.flight.specs.Tables.{Tables, the_spot, no_binding, size_at, new_binding, opened}
use Rattle.flight.specs.Means.{scope_at, unwind, state_of}
use Rattle.flight.specs.Sound.{Under, Args, Poised, Leads}
use Rattle.plan.specs.declared.Leg.{Leg}
use Rattle.flight.specs.declared.machine.Spot.{Spot}
use Rattle.flight.specs.declared.machine.What.{What}
use Rattle.flight.specs.declared.machine.What.TheVariants.{Thunk}
use Rattle.flight.specs.declared.machine.Binding.{Binding}
use Rattle.flight.specs.declared.machine.Ending.TheVariants.{Full}
use Rattle.flight.specs.declared.machine.Control.TheVariants.{Eval, Over}
use Rattle.plan.specs.declared.Row.{Row}
use Rattle.flight.proofs.Decode.{scope_old, scope_new, scope_none}
use Rattle.flight.proofs.Keeps.{size_more, sound_opened}
use Rattle.flight.proofs.Gates.{make_room, make_full, log_length, state_opened, unwind_opened}
use Rattle.flight.specs.Calling.{call_act, Calls, Calling}

module _ (ns : List Row) (gs : List Leg) (t₀ : Tables) (g : Leg) (m : ℕ) (spot : Spot) where
  abbrev q : ℕ
  q = spot.node

  abbrev s : ℕ
  s = spot.scope

  abbrev d : ℕ
  d = spot.depth

  pub call_start : Calls ns gs t₀ g m spot → Calling ns gs t₀ t₀ g m spot 0 (q + 1) 0
  call_start C =
      let e : m - 0 ≡ m = omega arith in
      let f : g.binder.index + 0 ≡ g.binder.index = omega arith in
      record {
        poised = C.poised;
        upto = omega arith;
        args = subst (λ (c : ℕ). Args ns C.poised.lv c (q + 1) (C.poised.lv q)) (sym e) C.args;
        leg = C.leg;
        fits = C.fits;
        inner = omega arith;
        size = refl;
        begun = refl;
        frames = refl;
        means = λ E y n. (let L = byname.house n in
            ap (unwind E L ns t₀.values t₀.bindings (reverse t₀.frames))
            (λ i. bind_kids E L ns (e i) (q + 1) (f i) (scope_at E L t₀.values t₀.bindings s) (scope_none E L t₀.values t₀.bindings i)
            (λ σ. byname.begin L (E L g.first σ)) (d + 1) (state_of t₀ y)));
      }

  module _ (t : Tables) (k x i : ℕ) (C : Calling ns gs t₀ t g m spot k x i) where
    abbrev P : Poised ns gs t spot
    P = C.poised

    abbrev B : List Binding
    B = t.bindings

    pub one_less : k < m → m - k ≡ suc (m - (k + 1))
    one_less lt = omega arith

    next_arg : k < m → Under ns P.lv x (P.lv q) × Args ns P.lv (m - (k + 1)) (end_at ns x) (P.lv q)
    next_arg lt = subst (λ (c : ℕ). Args ns P.lv c x (P.lv q)) (one_less lt) C.args

    pub kid_there : k < m → x < length ns
    kid_there lt = (next_arg lt).0.0

    pub call_step : k < m → length t.log < 4096
        → Calling ns gs t₀ (opened (g.binder.index + k) (Thunk x s) i t) g m spot (k + 1) (end_at ns x) (length B + 1)
    call_step lt room =
        let w : What = Thunk x s in
        let nb = new_binding B (g.binder.index + k) w i in
        let e : length (B ++ (nb ∷ [])) ≡ length B + 1 = length-append B (nb ∷ []) in
        let a = next_arg lt in
        let sc = P.scope in
        record {
          poised = record {
            lv = P.lv;
            lv_is = P.lv_is;
            laid = P.laid;
            sound = sound_opened ns P.lv t (g.binder.index + k) w i P.sound room C.inner (sc, (a.0.0, a.0.1 ∙ P.node.1));
            node = (P.node.0, P.node.1 ∙ sym (size_more B nb s sc));
            scope = omega arith;
            deep = P.deep;
            least = P.least;
            slack = P.slack;
          };
          upto = omega arith;
          args = a.1;
          leg = C.leg;
          fits = C.fits;
          inner = omega arith;
          size = ap (size_at (B ++ (nb ∷ []))) (add-one (length B)) ∙ ap (λ (z : Binding). suc z.level) (get_or-append_seam B nb [] no_binding) ∙ ap suc C.size ∙ sym (add-one k);
          begun = C.begun;
          frames = C.frames;
          means = λ E y n. (let L = byname.house n in
              let f : byname.Scope → byname.Comp = (λ σ. byname.begin L (E L g.first σ)) in
              let ρ = scope_at E L t.values B s in
              let σ = scope_at E L t.values B i in
              let kk : g.binder.index + (k + 1) ≡ (g.binder.index + k) + 1 = omega arith in
              unwind_opened E L ns P.lv t nb _ P.sound
              ∙ ap (unwind E L ns t.values B (reverse t.frames))
              ((λ j. bind_kids E L ns (m - (k + 1)) (end_at ns x) (kk j) (scope_old E L t.values B nb s sc j) (scope_new E L t.values B nb j) f (d + 1)
              (state_opened t y (g.binder.index + k) w i j))
              ∙ sym (make_room n (g.binder.index + k) (state_of t y)
              (λ b st. bind_kids E L ns (m - (k + 1)) (end_at ns x) ((g.binder.index + k) + 1) ρ (byname.bound L (g.binder.index + k) b (byname.begin L (E L x ρ)) ∷ σ) f (d + 1) st)
              (subst (λ (z : ℕ). z < 4096) (sym (log_length t y)) room))
              ∙ (λ j. bind_kids E L ns (sym (one_less lt) j) x (g.binder.index + k) ρ σ f (d + 1) (state_of t y)))
              ∙ C.means E y n);
        }

    pub call_full : k < m → length t.log ≡ 4096 → Leads ns gs t₀ (call_act ns t₀ g m spot) t (Over Full)
    call_full lt full =
        let fr = C.frames in
        let bg = C.begun in
        record {
          ready = record { lv = P.lv; lv_is = P.lv_is; laid = P.laid; sound = P.sound; control = tt };
          means = λ E y n r. (let L = byname.house n in
              let f : byname.Scope → byname.Comp = (λ σ. byname.begin L (E L g.first σ)) in
              let ρ = scope_at E L t.values B s in
              let σ = scope_at E L t.values B i in
              ap (unwind E L ns t.values B (reverse t.frames))
              (sym (make_full n (g.binder.index + k) (state_of t y)
              (λ b st. bind_kids E L ns (m - (k + 1)) (end_at ns x) ((g.binder.index + k) + 1) ρ (byname.bound L (g.binder.index + k) b (byname.begin L (E L x ρ)) ∷ σ) f (d + 1) st)
              (log_length t y ∙ full))
              ∙ (λ j. bind_kids E L ns (sym (one_less lt) j) x (g.binder.index + k) ρ σ f (d + 1) (state_of t y)))
              ∙ C.means E y n);
          falls = omega arith;
          begun = C.begun;
        }

    pub call_done : m ≤ k → Leads ns gs t₀ (call_act ns t₀ g m spot) t (Eval (the_spot g.first i (d + 1)))
    call_done ge =
        let up = C.upto in
        let e : 0 ≡ m - k = omega arith in
        let f : k ≡ m = omega arith in
        let dp = P.deep in
        let ls = P.least in
        let fr = C.frames in
        let bg = C.begun in
        record {
          ready = record {
            lv = P.lv;
            lv_is = P.lv_is;
            laid = P.laid;
            sound = P.sound;
            control = ((C.leg.0, C.leg.1 ∙ sym f ∙ sym C.size), C.inner, omega arith, omega arith);
          };
          means = λ E y n r. (let L = byname.house n in
              ap (unwind E L ns t.values B (reverse t.frames))
              (λ j. bind_kids E L ns (e j) x (g.binder.index + k) (scope_at E L t.values B s) (scope_at E L t.values B i) (λ σ. byname.begin L (E L g.first σ)) (d + 1) (state_of t y))
              ∙ C.means E y n);
          falls = omega arith;
          begun = C.begun;
        }

  pub calling_at : (t t' : Tables) (k x i i' : ℕ) → t' ≡ t → i' ≡ i → Calling ns gs t₀ t g m spot k x i → Calling ns gs t₀ t' g m spot k x i'
  calling_at t t' k x i i' p e C =
      subst (λ (u : Tables). Calling ns gs t₀ u g m spot k x i') (sym p) (subst (λ (j : ℕ). Calling ns gs t₀ t g m spot k x j) (sym e) C)
