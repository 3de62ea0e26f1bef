-- What holds between steps has one proof at most. Assumes nothing.
use Rattle.std.proofs.Common.{ℕ, zero, suc, Option, Some, None, List, length, get_or, refl, subst}
use mathlib.Core.HLevel.{Π_prop, →_prop, ×_prop, ⊥_prop, Unit-prop}
use mathlib.Core.Logic.{∥∥₁_elim}
use native.Mathlib.Nat.{ℕ_set}
use native.Mathlib.Bridge.{le_prop}
use Rattle.flight.specs.Nodes.{kind_at, end_at, level_of}
use Rattle.flight.specs.Tables.{Tables, size_at, no_binding, no_frame}
use Rattle.flight.specs.Sound.{Under, Args, Laid, LaidNode, WhatOk, BindingOk, FirstOk, FrameOk, Sound, ControlOk, Ready, Fine, IsLeft, IsRight}
use Rattle.plan.specs.declared.Node.{Node}
use Rattle.plan.specs.declared.Node.TheVariants.{Unit as k_unit, Number, Name, Let, Take, Pair, Split, Left, Right, Case, Call, Add, Less}
use Rattle.plan.specs.declared.Leg.{Leg}
use Rattle.flight.specs.declared.machine.Part.{Part}
use Rattle.flight.specs.declared.machine.Part.TheVariants.{Nothing, Num, Both, InLeft, InRight}
use Rattle.flight.specs.declared.machine.What.{What}
use Rattle.flight.specs.declared.machine.What.TheVariants.{Thunk, Kept, Store}
use Rattle.flight.specs.declared.machine.Binding.{Binding}
use Rattle.flight.specs.declared.machine.Frame.{Frame}
use Rattle.flight.specs.declared.machine.Control.{Control}
use Rattle.flight.specs.declared.machine.Control.TheVariants.{Eval, Return, Draw, Over}
use Rattle.plan.specs.declared.Row.{Row}
use Rattle.plan.specs.Plans.{params_of}
use Rattle.flight.specs.Spelled.{Main, MainPlain}
use Rattle.flight.proofs.Links.{part_prop, nothing_prop}

module _ (ns : List Row) (gs : List Leg) (lv : ℕ → ℕ) where
  under_prop : (q n : ℕ) → IsProp (Under ns lv q n)
  under_prop q n = ×_prop le_prop (ℕ_set (lv q) n)

  args_prop : (c q n : ℕ) → IsProp (Args ns lv c q n)
  args_prop zero q n = Unit-prop
  args_prop (suc c) q n = ×_prop (under_prop q n) (args_prop c (end_at ns q) n)

  node_prop : (k : Node) (i : ℕ) → IsProp (LaidNode ns gs lv k i)
  node_prop k_unit i = Unit-prop
  node_prop (Number n) i = le_prop
  node_prop (Name l) i = le_prop
  node_prop (Let k) i = ×_prop (under_prop _ _) (under_prop _ _)
  node_prop (Take k) i = ×_prop (under_prop _ _) (under_prop _ _)
  node_prop Pair i = ×_prop (under_prop _ _) (under_prop _ _)
  node_prop (Split k) i = λ u v j. (under_prop _ _ u.0 v.0 j, under_prop _ _ u.1 v.1 j, le_prop u.2 v.2 j)
  node_prop (Left z) i = under_prop _ _
  node_prop (Right z) i = under_prop _ _
  node_prop (Case k) i = λ u v j. (under_prop _ _ u.0 v.0 j, under_prop _ _ u.1 v.1 j, under_prop _ _ u.2 v.2 j, le_prop u.3 v.3 j)
  node_prop (Call g m) i = λ u v j. (le_prop u.0 v.0 j, args_prop _ _ _ u.1 v.1 j, under_prop _ _ u.2 v.2 j, le_prop u.3 v.3 j)
  node_prop Add i = ×_prop (under_prop _ _) (under_prop _ _)
  node_prop Less i = ×_prop (under_prop _ _) (under_prop _ _)

  laid_prop : IsProp (Laid ns gs lv)
  laid_prop u v = λ j. record { few = le_prop u.few v.few j; each = Π_prop (λ i. →_prop (node_prop (kind_at ns i) i)) u.each v.each j }

  what_prop : (bs : List Binding) (vs i : ℕ) (w : What) → IsProp (WhatOk ns lv bs vs i w)
  what_prop bs vs i (Thunk q s) = ×_prop le_prop (under_prop q (size_at bs s))
  what_prop bs vs i (Kept v) = le_prop
  what_prop bs vs i Store = le_prop

  binding_prop : (bs : List Binding) (vs i : ℕ) (b : Binding) → IsProp (BindingOk ns lv bs vs i b)
  binding_prop bs vs i b u v = λ j.
      record {
        older = le_prop u.older v.older j;
        level = ℕ_set _ _ u.level v.level j;
        low = le_prop u.low v.low j;
        what = what_prop bs vs i b.what u.what v.what j;
      }

  first_prop : (vs : ℕ) (p : Option ℕ) → IsProp (FirstOk vs p)
  first_prop vs None = Unit-prop
  first_prop vs (Some u) = le_prop

  frame_prop : (bs : List Binding) (vs i : ℕ) (f : Frame) → IsProp (FrameOk ns lv bs vs i f)
  frame_prop bs vs i f u v = λ j.
      record {
        node = under_prop _ _ u.node v.node j;
        scope = le_prop u.scope v.scope j;
        deep = le_prop u.deep v.deep j;
        least = le_prop u.least v.least j;
        first = first_prop vs f.first u.first v.first j;
      }

  left_prop : (p : Part) → IsProp (IsLeft p)
  left_prop Nothing = ⊥_prop
  left_prop (Num n) = ⊥_prop
  left_prop (Both u v) = ⊥_prop
  left_prop (InLeft u) = ℕ_set _ _
  left_prop (InRight u) = ⊥_prop

  right_prop : (p : Part) → IsProp (IsRight p)
  right_prop Nothing = ⊥_prop
  right_prop (Num n) = ⊥_prop
  right_prop (Both u v) = ⊥_prop
  right_prop (InLeft u) = ⊥_prop
  right_prop (InRight u) = ℕ_set _ _

  sound_prop : (t : Tables) → IsProp (Sound ns lv t)
  sound_prop t u v = λ j.
      record {
        bindings = Π_prop (λ i. →_prop (binding_prop t.bindings (length t.values) i (get_or t.bindings i no_binding))) u.bindings v.bindings j;
        values = Π_prop (λ i. →_prop (part_prop i (get_or t.values i Nothing))) u.values v.values j;
        frames = Π_prop (λ i. →_prop (frame_prop t.bindings (length t.values) i (get_or t.frames i no_frame))) u.frames v.frames j;
        made = le_prop u.made v.made j;
        log = le_prop u.log v.log j;
        begun = le_prop u.begun v.begun j;
        room = le_prop u.room v.room j;
        high = le_prop u.high v.high j;
        three = le_prop u.three v.three j;
        nothing = nothing_prop (get_or t.values 0 Nothing) u.nothing v.nothing j;
        yes = left_prop (get_or t.values 1 Nothing) u.yes v.yes j;
        not = right_prop (get_or t.values 2 Nothing) u.not v.not j;
      }

  control_prop : (t : Tables) (c : Control) → IsProp (ControlOk ns lv t c)
  control_prop t (Eval a) = λ u v j. (under_prop _ _ u.0 v.0 j, le_prop u.1 v.1 j, le_prop u.2 v.2 j, le_prop u.3 v.3 j)
  control_prop t (Return v) = le_prop
  control_prop t (Draw k i) = λ u v j. (le_prop u.0 v.0 j, le_prop u.1 v.1 j, le_prop u.2 v.2 j)
  control_prop t (Over e) = Unit-prop

module _ (ns : List Row) (gs : List Leg) (t : Tables) (c : Control) where
  fine_prop : IsProp (Fine ns gs t c)
  fine_prop u v = λ j.
      record {
        laid = laid_prop ns gs (level_of ns gs) u.laid v.laid j;
        sound = sound_prop ns gs (level_of ns gs) t u.sound v.sound j;
        control = control_prop ns gs (level_of ns gs) t c u.control v.control j;
      }

  fine : Ready ns gs t c → Fine ns gs t c
  fine r =
      record {
        laid = subst (λ (l : ℕ → ℕ). Laid ns gs l) r.lv_is r.laid;
        sound = subst (λ (l : ℕ → ℕ). Sound ns l t) r.lv_is r.sound;
        control = subst (λ (l : ℕ → ℕ). ControlOk ns l t c) r.lv_is r.control;
      }

  -- what a ghost field keeps is there for a call
  pub ready_of : ∥ Ready ns gs t c ∥₁ → Ready ns gs t c
  ready_of e =
      let f = ∥∥₁_elim e fine_prop fine in
      record { lv = level_of ns gs; lv_is = refl; laid = f.laid; sound = f.sound; control = f.control }

module _ (ns : List Row) (gs : List Leg) (g : Leg) where
  plain_prop : IsProp (MainPlain ns gs g)
  plain_prop u v = λ j.
      record {
        laid = laid_prop ns gs (level_of ns gs) u.laid v.laid j;
        node = under_prop ns gs (level_of ns gs) _ _ u.node v.node j;
        few = le_prop u.few v.few j;
        fits = le_prop u.fits v.fits j;
      }

  plain : Main ns gs g → MainPlain ns gs g
  plain r =
      record {
        laid = subst (λ (l : ℕ → ℕ). Laid ns gs l) r.lv_is r.laid;
        node = subst (λ (l : ℕ → ℕ). Under ns l g.first (length (params_of g))) r.lv_is r.node;
        few = r.few;
        fits = r.fits;
      }

  pub main_of : ∥ Main ns gs g ∥₁ → Main ns gs g
  main_of e =
      let f = ∥∥₁_elim e plain_prop plain in
      record { lv = level_of ns gs; lv_is = refl; laid = f.laid; node = f.node; few = f.few; fits = f.fits }
