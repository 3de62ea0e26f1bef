-- A value is given to a frame. Assumes nothing.
use Rattle.std.proofs.Common.{◌≡◌, ℕ, suc, ◌+◌, ◌<◌, ◌≤◌, ◌⊎◌, min, cond, Option, Some, List, [], ◌∷◌, ◌++◌, reverse, length, get_or, sym, refl, ap, ◌∙◌, subst, ap₂, ⊎_elim, add-one, arith, length-append, le-ltb, lt-ltb}
use lib.Seq.{get_or-append_seam}
use Rattle.evaluation.specs.Flight.{at}
use Rattle.evaluation.specs.Flight as byname
use Rattle.flight.specs.Nodes.{Runner, kind_at, kid2, kid3, after, second, both}
use Rattle.flight.specs.Tables.{Tables, the_spot, no_binding, size_at, new_binding, opened, valued}
use Rattle.flight.specs.Means.{value_at, part_of, scope_at, resumed, unwind, state_of}
use Rattle.flight.specs.Grow.{grow}
use Rattle.flight.specs.Sound.{Under, PartOk, IsNothing, Poised, Leads, bind_act, frame_act, Binds}
use Rattle.plan.specs.declared.Node.{Node}
use Rattle.plan.specs.declared.Binder.{Binder}
use Rattle.plan.specs.declared.TypeId.{TypeId}
use Rattle.plan.specs.Trees.{the_binder}
use Rattle.plan.specs.declared.Node.TheVariants.{Unit as k_unit, Number, Name, Let, Take, Pair, Split, Left, Right, Case, Call, Add, Less}
use Rattle.plan.specs.declared.Leg.{Leg}
use Rattle.flight.specs.declared.machine.Spot.{Spot}
use Rattle.flight.specs.declared.machine.Part.{Part}
use Rattle.flight.specs.declared.machine.Part.TheVariants.{Nothing, Num, Both, InLeft, InRight}
use Rattle.flight.specs.declared.machine.What.TheVariants.{Kept}
use Rattle.flight.specs.declared.machine.Binding.{Binding}
use Rattle.flight.specs.declared.machine.Frame.{Frame}
use Rattle.flight.specs.declared.machine.Ending.TheVariants.{Full}
use Rattle.flight.specs.declared.machine.Control.{Control}
use Rattle.flight.specs.declared.machine.Control.TheVariants.{Eval, Return, Over}
use Rattle.plan.specs.declared.Row.{Row}
use Rattle.flight.proofs.Decode.{value_here, scope_new}
use Rattle.flight.proofs.Keeps.{nothing_is, left_part, right_part, sound_opened}
use Rattle.flight.proofs.Gates.{make_room, make_full, log_length, state_opened, unwind_opened}
use Rattle.flight.specs.Calling.{wait_act, Waits, split_act, Splits, Halves, case_act, join_act, after_act}
use Rattle.flight.proofs.Leads.{leads_as, give_leads, value_leads, full_leads}
use Rattle.flight.proofs.Working.{laid_as}

-- the parts of values

as_rest : (vs : List byname.Value) (p : Part) → ((x : ℕ) → p ≡ Num x → ⊥) → 0 ≡ byname.as_number (part_of vs p)
as_rest vs Nothing h = refl
as_rest vs (Num n) h = absurd (h n refl)
as_rest vs (Both a b) h = refl
as_rest vs (InLeft a) h = refl
as_rest vs (InRight a) h = refl

first_rest : (vs : List byname.Value) (p : Part) → ((x y : ℕ) → p ≡ Both x y → ⊥) → byname.v_unit ≡ byname.first_of (part_of vs p)
first_rest vs Nothing h = refl
first_rest vs (Num n) h = refl
first_rest vs (Both a b) h = absurd (h a b refl)
first_rest vs (InLeft a) h = refl
first_rest vs (InRight a) h = refl

second_rest : (vs : List byname.Value) (p : Part) → ((x y : ℕ) → p ≡ Both x y → ⊥) → byname.v_unit ≡ byname.second_of (part_of vs p)
second_rest vs Nothing h = refl
second_rest vs (Num n) h = refl
second_rest vs (Both a b) h = absurd (h a b refl)
second_rest vs (InLeft a) h = refl
second_rest vs (InRight a) h = refl

either_rest : (vs : List byname.Value) (p : Part) {A : Type 0} (f g : byname.Value → A) → ((x : ℕ) → p ≡ InLeft x → ⊥) → ((x : ℕ) → p ≡ InRight x → ⊥)
    → f byname.v_unit ≡ byname.either_of (part_of vs p) f g
either_rest vs Nothing f g h k = refl
either_rest vs (Num n) f g h k = refl
either_rest vs (Both a b) f g h k = refl
either_rest vs (InLeft a) f g h k = absurd (h a refl)
either_rest vs (InRight a) f g h k = absurd (k a refl)

module _ (t : Tables) (values : (i : ℕ) → i < length t.values → PartOk i (get_or t.values i Nothing)) (nothing : IsNothing (get_or t.values 0 Nothing)) where
  pub value_is : (v : ℕ) (p : Part) → v < length t.values → p ≡ get_or t.values v Nothing → value_at t.values v ≡ part_of (grow part_of [] t.values) p
  value_is v p lt e = value_here t.values v lt (values v lt) ∙ ap (part_of (grow part_of [] t.values)) (sym e)

  pub part_there : (v : ℕ) (p : Part) → v < length t.values → p ≡ get_or t.values v Nothing → PartOk v p
  part_there v p lt e = subst (PartOk v) (sym e) (values v lt)

  pub unit_is : 0 < length t.values → value_at t.values 0 ≡ byname.v_unit
  unit_is some = value_is 0 Nothing some (sym (nothing_is (get_or t.values 0 Nothing) nothing))

  pub number_num : (v : ℕ) (p : Part) (x : ℕ) → v < length t.values → p ≡ get_or t.values v Nothing → p ≡ Num x → x ≡ byname.as_number (value_at t.values v)
  number_num v p x lt e i = sym (ap byname.as_number (value_is v p lt e ∙ ap (part_of (grow part_of [] t.values)) i))

  pub number_rest : (v : ℕ) (p : Part) → v < length t.values → p ≡ get_or t.values v Nothing → ((x : ℕ) → p ≡ Num x → ⊥) → 0 ≡ byname.as_number (value_at t.values v)
  number_rest v p lt e h = as_rest (grow part_of [] t.values) p h ∙ ap byname.as_number (sym (value_is v p lt e))

  pub halves_both : (v : ℕ) (p : Part) (a b : ℕ) → v < length t.values → p ≡ get_or t.values v Nothing → p ≡ Both a b → Halves t v a b
  halves_both v p a b lt e i =
      let o = subst (PartOk v) i (part_there v p lt e) in
      let o1 = o.0 in
      let o2 = o.1 in
      let f = value_is v p lt e ∙ ap (part_of (grow part_of [] t.values)) i in
      record { one = omega arith; two = omega arith; first = sym (ap byname.first_of f); second = sym (ap byname.second_of f) }

  pub halves_rest : (v : ℕ) (p : Part) → v < length t.values → p ≡ get_or t.values v Nothing → ((x y : ℕ) → p ≡ Both x y → ⊥) → Halves t v 0 0
  halves_rest v p lt e h =
      record {
        one = omega arith;
        two = omega arith;
        first = unit_is (omega arith) ∙ first_rest (grow part_of [] t.values) p h ∙ ap byname.first_of (sym (value_is v p lt e));
        second = unit_is (omega arith) ∙ second_rest (grow part_of [] t.values) p h ∙ ap byname.second_of (sym (value_is v p lt e));
      }

module _ (ns : List Row) (gs : List Leg) (t : Tables) (spot : Spot) (P : Poised ns gs t spot) where
  abbrev q : ℕ
  q = spot.node

  abbrev s : ℕ
  s = spot.scope

  abbrev d : ℕ
  d = spot.depth

  abbrev V : List Part
  V = t.values

  abbrev B : List Binding
  B = t.bindings

  abbrev K : List Frame
  K = reverse t.frames

  -- both values
  pub join_pair : (u v : ℕ) → u < length V → v < length V → Leads ns gs t (join_act t Pair u v) (valued (Both u v) t) (Return (length V))
  join_pair u v a b = value_leads ns gs t spot P (join_act t Pair u v) (Both u v) (a, b) (λ E L st. refl)

  pub join_add : (u v x : ℕ) → x ≡ min (byname.as_number (value_at V u) + byname.as_number (value_at V v)) 4294967295
      → Leads ns gs t (join_act t Add u v) (valued (Num x) t) (Return (length V))
  join_add u v x e = value_leads ns gs t spot P (join_act t Add u v) (Num x) (omega arith) (λ E L st. ap (λ n. byname.value (byname.v_number n) st) e)

  left_is : value_at V 1 ≡ byname.v_left byname.v_unit
  left_is = let th = P.sound.three in value_is t P.sound.values P.sound.nothing 1 (InLeft 0) (omega arith) (sym (left_part (get_or V 1 Nothing) P.sound.yes)) ∙ ap byname.v_left (unit_is t P.sound.values P.sound.nothing (omega arith))

  right_is : value_at V 2 ≡ byname.v_right byname.v_unit
  right_is = let th = P.sound.three in value_is t P.sound.values P.sound.nothing 2 (InRight 0) (omega arith) (sym (right_part (get_or V 2 Nothing) P.sound.not)) ∙ ap byname.v_right (unit_is t P.sound.values P.sound.nothing (omega arith))

  pub join_less : (u v : ℕ) → byname.as_number (value_at V u) < byname.as_number (value_at V v) → Leads ns gs t (join_act t Less u v) t (Return 1)
  join_less u v lt =
      let th = P.sound.three in
      give_leads ns gs t spot P (join_act t Less u v) 1 (omega arith)
      (λ E L st. ap (λ x. byname.value x st) (left_is ∙ ap (λ b. cond b (byname.v_left byname.v_unit) (byname.v_right byname.v_unit)) (sym (lt-ltb _ _ lt))))

  pub join_more : (u v : ℕ) → byname.as_number (value_at V v) ≤ byname.as_number (value_at V u) → Leads ns gs t (join_act t Less u v) t (Return 2)
  join_more u v le =
      let th = P.sound.three in
      give_leads ns gs t spot P (join_act t Less u v) 2 (omega arith)
      (λ E L st. ap (λ x. byname.value x st) (right_is ∙ ap (λ b. cond b (byname.v_left byname.v_unit) (byname.v_right byname.v_unit)) (sym (le-ltb _ _ le))))

  both_rest : (k : Node) (x y : byname.Value) → (k ≡ Pair → ⊥) → (k ≡ Add → ⊥) → (k ≡ Less → ⊥) → y ≡ both k x y
  both_rest k_unit x y a b c = refl
  both_rest (Number n) x y a b c = refl
  both_rest (Name n) x y a b c = refl
  both_rest (Let n) x y a b c = refl
  both_rest (Take n) x y a b c = refl
  both_rest Pair x y a b c = absurd (a refl)
  both_rest (Split n) x y a b c = refl
  both_rest (Left z) x y a b c = refl
  both_rest (Right z) x y a b c = refl
  both_rest (Case n) x y a b c = refl
  both_rest (Call n m) x y a b c = refl
  both_rest Add x y a b c = absurd (b refl)
  both_rest Less x y a b c = absurd (c refl)

  pub join_rest : (k : Node) (u v : ℕ) → v < length V → (k ≡ Pair → ⊥) → (k ≡ Add → ⊥) → (k ≡ Less → ⊥) → Leads ns gs t (join_act t k u v) t (Return v)
  join_rest k u v lt a b c = give_leads ns gs t spot P (join_act t k u v) v lt (λ E L st. ap (λ x. byname.value x st) (both_rest k (value_at V u) (value_at V v) a b c))

  -- a pair's parts
  module _ (k a b x : ℕ) (la : a < length V) (lb : b < length V) (u : Under ns P.lv x (suc (suc (size_at B s)))) where
    pub split_none : length t.log ≡ 4096 → Leads ns gs t (split_act t k a b x spot) t (Over Full)
    split_none e = full_leads ns gs t spot P (split_act t k a b x spot) (λ E n st l. make_full n k st
        (λ m st. byname.make (byname.house n) (k + 1) st
        (λ c st. byname.begin (byname.house n) (E (byname.house n) x (byname.bound (byname.house n) (k + 1) c (byname.kept (value_at V b)) ∷ byname.bound (byname.house n) k m (byname.kept (value_at V a)) ∷ scope_at E (byname.house n) V B s)) (d + 1) st)) l) e

    abbrev t₁ : Tables
    t₁ = opened k (Kept a) s t

    abbrev inner : Runner → ℕ → ℕ → byname.State → byname.Out
    inner E n m st =
        byname.make (byname.house n) (k + 1) st
        (λ c st. byname.begin (byname.house n) (E (byname.house n) x (byname.bound (byname.house n) (k + 1) c (byname.kept (value_at V b)) ∷ byname.bound (byname.house n) k m (byname.kept (value_at V a)) ∷ scope_at E (byname.house n) V B s)) (d + 1) st)

    -- the first binding is made
    halfway : (E : Runner) (y : ℕ → List ℕ) (n : ℕ) → length t.log < 4096
        → unwind E (byname.house n) ns V t₁.bindings K (inner E n (length B) (state_of t₁ y))
        ≡ unwind E (byname.house n) ns V B K (split_act t k a b x spot E (byname.house n) (state_of t y))
    halfway E y n lt =
        unwind_opened E (byname.house n) ns P.lv t (new_binding B k (Kept a) s) _ P.sound
        ∙ ap (unwind E (byname.house n) ns V B K)
        (ap (inner E n (length B)) (state_opened t y k (Kept a) s)
        ∙ sym (make_room n k (state_of t y) (inner E n) (subst (λ m. m < 4096) (sym (log_length t y)) lt)))

    pub split_half : length t.log < 4096 → length t₁.log ≡ 4096 → Leads ns gs t (split_act t k a b x spot) t₁ (Over Full)
    split_half lt e =
        record {
          ready = record { lv = P.lv; lv_is = P.lv_is; laid = P.laid; sound = sound_opened ns P.lv t k (Kept a) s P.sound lt P.scope la; control = tt };
          means = λ E y n r.
              ap (unwind E (byname.house n) ns V t₁.bindings K)
              (sym (make_full n (k + 1) (state_of t₁ y)
              (λ c st. byname.begin (byname.house n) (E (byname.house n) x (byname.bound (byname.house n) (k + 1) c (byname.kept (value_at V b)) ∷ byname.bound (byname.house n) k (length B) (byname.kept (value_at V a)) ∷ scope_at E (byname.house n) V B s)) (d + 1) st)
              (log_length t₁ y ∙ e)))
              ∙ halfway E y n lt;
          falls = omega arith;
          begun = refl;
        }

    pub split_both : length t.log < 4096 → length t₁.log < 4096
        → Leads ns gs t (split_act t k a b x spot) (opened (k + 1) (Kept b) (length B + 1) t₁) (Eval (the_spot x (length t₁.bindings + 1) (d + 1)))
    split_both lt lt₁ =
        let nb = new_binding B k (Kept a) s in
        let B₁ = t₁.bindings in
        let nc = new_binding B₁ (k + 1) (Kept b) (length B + 1) in
        let S₁ = sound_opened ns P.lv t k (Kept a) s P.sound lt P.scope la in
        let e : length B₁ ≡ length B + 1 = length-append B (nb ∷ []) in
        let e₂ : length (B₁ ++ (nc ∷ [])) ≡ length B₁ + 1 = length-append B₁ (nc ∷ []) in
        let dp = P.deep in
        let ls = P.least in
        let z : size_at B₁ (length B + 1) ≡ suc (size_at B s) = ap (size_at B₁) (add-one (length B)) ∙ ap (λ (o : Binding). suc o.level) (get_or-append_seam B nb [] no_binding) in
        let z₂ : size_at (B₁ ++ (nc ∷ [])) (length B₁ + 1) ≡ suc (suc (size_at B s))
        = ap (size_at (B₁ ++ (nc ∷ []))) (add-one (length B₁)) ∙ ap (λ (o : Binding). suc o.level) (get_or-append_seam B₁ nc [] no_binding) ∙ ap suc z in
        record {
          ready = record {
            lv = P.lv;
            lv_is = P.lv_is;
            laid = P.laid;
            sound = sound_opened ns P.lv t₁ (k + 1) (Kept b) (length B + 1) S₁ lt₁ (omega arith) lb;
            control = ((u.0, u.1 ∙ sym z₂), omega arith, omega arith, omega arith);
          };
          means = λ E y n r. (let L = byname.house n in
              unwind_opened E L ns P.lv t₁ nc _ S₁
              ∙ ap (unwind E L ns V B₁ K)
              (ap₂ (λ (ρ : byname.Scope) (st : byname.State). byname.begin L (E L x ρ) (d + 1) st)
              (scope_new E L V B₁ nc ∙ ap (λ (ρ : byname.Scope). byname.bound L (k + 1) (length B₁) (byname.kept (value_at V b)) ∷ ρ) (scope_new E L V B nb))
              (state_opened t₁ y (k + 1) (Kept b) (length B + 1))
              ∙ sym (make_room n (k + 1) (state_of t₁ y)
              (λ c st. byname.begin L (E L x (byname.bound L (k + 1) c (byname.kept (value_at V b)) ∷ byname.bound L k (length B) (byname.kept (value_at V a)) ∷ scope_at E L V B s)) (d + 1) st)
              (subst (λ m. m < 4096) (sym (log_length t₁ y)) lt₁)))
              ∙ halfway E y n lt);
          falls = omega arith;
          begun = refl;
        }

  -- a branch
  module _ (k v : ℕ) (lt : v < length V) (e : kind_at ns q ≡ Case (the_binder k)) where
    binds_left : (u : ℕ) → u < length V → Binds ns gs t (Kept u) (kid2 ns q) spot
    binds_left u h = let l = laid_as ns gs t spot P (Case (the_binder k)) e in record { poised = P; what = h; body = (l.1.0, l.1.1 ∙ ap suc P.node.1) }

    binds_right : (u : ℕ) → u < length V → Binds ns gs t (Kept u) (kid3 ns q) spot
    binds_right u h = let l = laid_as ns gs t spot P (Case (the_binder k)) e in record { poised = P; what = h; body = (l.2.0, l.2.1 ∙ ap suc P.node.1) }

    abbrev on_left : Runner → byname.Limits → byname.State → byname.Value → byname.Out
    on_left E L st v = byname.make L k st (λ b st. byname.begin L (E L (kid2 ns q) (byname.bound L k b (byname.kept v) ∷ scope_at E L V B s)) (d + 1) st)

    abbrev on_right : Runner → byname.Limits → byname.State → byname.Value → byname.Out
    on_right E L st v = byname.make L (k + 1) st (λ b st. byname.begin L (E L (kid3 ns q) (byname.bound L (k + 1) b (byname.kept v) ∷ scope_at E L V B s)) (d + 1) st)

    pub case_left : (p : Part) (u : ℕ) (t' : Tables) (c' : Control) → p ≡ get_or V v Nothing → p ≡ InLeft u
        → (Binds ns gs t (Kept u) (kid2 ns q) spot → Leads ns gs t (bind_act t k (Kept u) (kid2 ns q) spot) t' c') → Leads ns gs t (case_act ns t k v spot) t' c'
    case_left p u t' c' x i h =
        let low : u < v = subst (PartOk v) i (part_there t P.sound.values P.sound.nothing v p lt x) in
        leads_as ns gs t (bind_act t k (Kept u) (kid2 ns q) spot) (case_act ns t k v spot) t' c'
        (λ E L st. ap (λ z. byname.either_of z (on_left E L st) (on_right E L st)) (sym (value_is t P.sound.values P.sound.nothing v p lt x ∙ ap (part_of (grow part_of [] V)) i))) (h (binds_left u (omega arith)))

    pub case_right : (p : Part) (u : ℕ) (t' : Tables) (c' : Control) → p ≡ get_or V v Nothing → p ≡ InRight u
        → (Binds ns gs t (Kept u) (kid3 ns q) spot → Leads ns gs t (bind_act t (k + 1) (Kept u) (kid3 ns q) spot) t' c') → Leads ns gs t (case_act ns t k v spot) t' c'
    case_right p u t' c' x i h =
        let low : u < v = subst (PartOk v) i (part_there t P.sound.values P.sound.nothing v p lt x) in
        leads_as ns gs t (bind_act t (k + 1) (Kept u) (kid3 ns q) spot) (case_act ns t k v spot) t' c'
        (λ E L st. ap (λ z. byname.either_of z (on_left E L st) (on_right E L st)) (sym (value_is t P.sound.values P.sound.nothing v p lt x ∙ ap (part_of (grow part_of [] V)) i))) (h (binds_right u (omega arith)))

    pub case_rest : (p : Part) (t' : Tables) (c' : Control) → p ≡ get_or V v Nothing → ((x : ℕ) → p ≡ InLeft x → ⊥) → ((x : ℕ) → p ≡ InRight x → ⊥)
        → (Binds ns gs t (Kept 0) (kid2 ns q) spot → Leads ns gs t (bind_act t k (Kept 0) (kid2 ns q) spot) t' c') → Leads ns gs t (case_act ns t k v spot) t' c'
    case_rest p t' c' x a b h =
        leads_as ns gs t (bind_act t k (Kept 0) (kid2 ns q) spot) (case_act ns t k v spot) t' c'
        (λ E L st. ap (on_left E L st) (unit_is t P.sound.values P.sound.nothing (omega arith))
        ∙ either_rest (grow part_of [] V) p (on_left E L st) (on_right E L st) a b
        ∙ ap (λ z. byname.either_of z (on_left E L st) (on_right E L st)) (sym (value_is t P.sound.values P.sound.nothing v p lt x))) (h (binds_left 0 (omega arith)))

  -- after the first kid
  pub after_as : (k : Node) (v : ℕ) → kind_at ns q ≡ k → (t' : Tables) (c' : Control)
      → Leads ns gs t (λ E L st. after E L ns k q (scope_at E L V B s) d (value_at V v) st) t' c' → Leads ns gs t (after_act ns t spot v) t' c'
  after_as k v e t' c' h =
      leads_as ns gs t (λ E L st. after E L ns k q (scope_at E L V B s) d (value_at V v) st) (after_act ns t spot v) t' c'
      (λ E L st. ap (λ (x : Node). after E L ns x q (scope_at E L V B s) d (value_at V v) st) (sym e)) h

  pub take_binds : (k : Binder) (v : ℕ) → kind_at ns q ≡ Take k → v < length V → Binds ns gs t (Kept v) (kid2 ns q) spot
  take_binds k v e h = let l = laid_as ns gs t spot P (Take k) e in record { poised = P; what = h; body = (l.1.0, l.1.1 ∙ ap suc P.node.1) }

  pub splits : (k : Binder) (a : ℕ) → kind_at ns q ≡ Split k → a < length V → Splits ns gs t k.index a (kid2 ns q) spot
  splits k a e h =
      let l = laid_as ns gs t spot P (Split k) e in
      record { poised = P; value = h; body = (l.1.0, l.1.1 ∙ ap (λ x. suc (suc x)) P.node.1); fits = l.2 }

  pub split_as : (k : Binder) (v a b : ℕ) → kind_at ns q ≡ Split k → Halves t v a b → (t' : Tables) (c' : Control)
      → Leads ns gs t (split_act t k.index a b (kid2 ns q) spot) t' c' → Leads ns gs t (after_act ns t spot v) t' c'
  split_as k v a b e H t' c' h =
      after_as (Split k) v e t' c'
      (leads_as ns gs t (split_act t k.index a b (kid2 ns q) spot) (λ E L st. after E L ns (Split k) q (scope_at E L V B s) d (value_at V v) st) t' c'
      (λ E L st i. byname.make L k.index st (λ m st. byname.make L (k.index + 1) st
      (λ c st. byname.begin L (E L (kid2 ns q) (byname.bound L (k.index + 1) c (byname.kept (H.second i)) ∷ byname.bound L k.index m (byname.kept (H.first i)) ∷ scope_at E L V B s)) (d + 1) st))) h)

  abbrev Two : Node → Type 0
  Two k = (E : Runner) (L : byname.Limits) (ρ : byname.Scope) (v : byname.Value) (st : byname.State) → second E L k ns q ρ d v st ≡ after E L ns k q ρ d v st

  second_waits : (v : ℕ) → v < length V → Under ns P.lv (kid2 ns q) (P.lv q) → Waits ns gs t spot (Some v) (kid2 ns q)
  second_waits v h u = record { poised = P; first = h; kid = (u.0, u.1 ∙ P.node.1) }

  second_as : (k : Node) (v : ℕ) → kind_at ns q ≡ k → Two k → (t' : Tables) (c' : Control)
      → Leads ns gs t (wait_act ns t spot (Some v) (kid2 ns q)) t' c' → Leads ns gs t (after_act ns t spot v) t' c'
  second_as k v e two t' c' h =
      after_as k v e t' c'
      (leads_as ns gs t (wait_act ns t spot (Some v) (kid2 ns q)) (λ E L st. after E L ns k q (scope_at E L V B s) d (value_at V v) st) t' c'
      (λ E L st. ap (λ (x : Node). byname.and_then (byname.begin L (E L (kid2 ns q) (scope_at E L V B s)) (d + 1) st) (λ w st. byname.value (both x (value_at V v) w) st)) e
      ∙ two E L (scope_at E L V B s) (value_at V v) st) h)

  -- the kinds with two kids and no binder
  abbrev pub Joined : Node → Type 0
  Joined k = (k ≡ Pair) ⊎ ((k ≡ Add) ⊎ (k ≡ Less))

  pub joined_waits : (v : ℕ) → v < length V → Joined (kind_at ns q) → Waits ns gs t spot (Some v) (kid2 ns q)
  joined_waits v h e =
      let l = laid_as ns gs t spot P in
      second_waits v h (⊎_elim (λ p. (l Pair p).1) (⊎_elim (λ p. (l Add p).1) (λ p. (l Less p).1)) e)

  pub joined_as : (v : ℕ) → Joined (kind_at ns q) → (t' : Tables) (c' : Control)
      → Leads ns gs t (wait_act ns t spot (Some v) (kid2 ns q)) t' c' → Leads ns gs t (after_act ns t spot v) t' c'
  joined_as v e t' c' h =
      ⊎_elim (λ p. second_as Pair v p (λ E L ρ v st. refl) t' c' h)
      (⊎_elim (λ p. second_as Add v p (λ E L ρ v st. refl) t' c' h) (λ p. second_as Less v p (λ E L ρ v st. refl) t' c' h)) e

  pub left_leads : (z : TypeId) (v : ℕ) → kind_at ns q ≡ Left z → v < length V → Leads ns gs t (after_act ns t spot v) (valued (InLeft v) t) (Return (length V))
  left_leads z v e h = after_as (Left z) v e _ _ (value_leads ns gs t spot P _ (InLeft v) h (λ E L st. refl))

  pub right_leads : (z : TypeId) (v : ℕ) → kind_at ns q ≡ Right z → v < length V → Leads ns gs t (after_act ns t spot v) (valued (InRight v) t) (Return (length V))
  right_leads z v e h = after_as (Right z) v e _ _ (value_leads ns gs t spot P _ (InRight v) h (λ E L st. refl))

  after_rest : (E : Runner) (L : byname.Limits) (k : Node) (ρ : byname.Scope) (v : byname.Value) (st : byname.State)
      → ((x : Binder) → k ≡ Take x → ⊥) → ((x : Binder) → k ≡ Split x → ⊥) → ((x : TypeId) → k ≡ Left x → ⊥) → ((x : TypeId) → k ≡ Right x → ⊥) → ((x : Binder) → k ≡ Case x → ⊥) → (k ≡ Pair → ⊥) → (k ≡ Add → ⊥) → (k ≡ Less → ⊥)
      → byname.value v st ≡ after E L ns k q ρ d v st
  after_rest E L k_unit ρ v st h1 h2 h3 h4 h5 h6 h7 h8 = refl
  after_rest E L (Number x) ρ v st h1 h2 h3 h4 h5 h6 h7 h8 = refl
  after_rest E L (Name x) ρ v st h1 h2 h3 h4 h5 h6 h7 h8 = refl
  after_rest E L (Let x) ρ v st h1 h2 h3 h4 h5 h6 h7 h8 = refl
  after_rest E L (Take x) ρ v st h1 h2 h3 h4 h5 h6 h7 h8 = absurd (h1 x refl)
  after_rest E L Pair ρ v st h1 h2 h3 h4 h5 h6 h7 h8 = absurd (h6 refl)
  after_rest E L (Split x) ρ v st h1 h2 h3 h4 h5 h6 h7 h8 = absurd (h2 x refl)
  after_rest E L (Left z) ρ v st h1 h2 h3 h4 h5 h6 h7 h8 = absurd (h3 z refl)
  after_rest E L (Right z) ρ v st h1 h2 h3 h4 h5 h6 h7 h8 = absurd (h4 z refl)
  after_rest E L (Case x) ρ v st h1 h2 h3 h4 h5 h6 h7 h8 = absurd (h5 x refl)
  after_rest E L (Call x m) ρ v st h1 h2 h3 h4 h5 h6 h7 h8 = refl
  after_rest E L Add ρ v st h1 h2 h3 h4 h5 h6 h7 h8 = absurd (h7 refl)
  after_rest E L Less ρ v st h1 h2 h3 h4 h5 h6 h7 h8 = absurd (h8 refl)

  pub rest_leads : (v : ℕ) → v < length V → (let k = kind_at ns q in
      ((x : Binder) → k ≡ Take x → ⊥) → ((x : Binder) → k ≡ Split x → ⊥) → ((x : TypeId) → k ≡ Left x → ⊥) → ((x : TypeId) → k ≡ Right x → ⊥) → ((x : Binder) → k ≡ Case x → ⊥) → (k ≡ Pair → ⊥) → (k ≡ Add → ⊥) → (k ≡ Less → ⊥)
      → Leads ns gs t (after_act ns t spot v) t (Return v))
  rest_leads v lt h1 h2 h3 h4 h5 h6 h7 h8 =
      give_leads ns gs t spot P (after_act ns t spot v) v lt (λ E L st. after_rest E L (kind_at ns q) (scope_at E L V B s) (value_at V v) st h1 h2 h3 h4 h5 h6 h7 h8)

  pub join_as : (k k' : Node) (u v : ℕ) → k ≡ k' → (t' : Tables) (c' : Control) → Leads ns gs t (join_act t k' u v) t' c' → Leads ns gs t (join_act t k u v) t' c'
  join_as k k' u v e t' c' h = subst (λ (x : Node). Leads ns gs t (join_act t x u v) t' c') (sym e) h

pub frame_as : (ns : List Row) (gs : List Leg) (t : Tables) (f : Frame) (v : ℕ) (p : Option ℕ) → f.first ≡ p → (t' : Tables) (c' : Control)
    → Leads ns gs t (λ E L st. resumed E L ns (value_at t.values) f (scope_at E L t.values t.bindings f.spot.scope) p (value_at t.values v) st) t' c'
    → Leads ns gs t (frame_act ns t f v) t' c'
frame_as ns gs t f v p e t' c' h =
    leads_as ns gs t (λ E L st. resumed E L ns (value_at t.values) f (scope_at E L t.values t.bindings f.spot.scope) p (value_at t.values v) st) (frame_act ns t f v) t' c'
    (λ E L st. ap (λ (x : Option ℕ). resumed E L ns (value_at t.values) f (scope_at E L t.values t.bindings f.spot.scope) x (value_at t.values v) st) (sym e)) h
