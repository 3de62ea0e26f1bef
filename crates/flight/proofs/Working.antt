-- The nodes, by kind. Assumes nothing.
use Rattle.std.proofs.Common.{◌≡◌, ℕ, suc, ◌+◌, None, List, [], length, get_or, sym, refl, ap, ◌∙◌, subst, arith}
use Rattle.evaluation.specs.Flight.{at}
use Rattle.evaluation.specs.Flight as byname
use Rattle.flight.specs.Nodes.{Runner, kind_at, kid2, first, node_does, no_leg}
use Rattle.flight.specs.Tables.{Tables, valued}
use Rattle.flight.specs.Means.{part_of, scope_at}
use Rattle.flight.specs.Grow.{grow}
use Rattle.flight.specs.Sound.{Under, LaidNode, Poised, Leads, node_act, Binds}
use Rattle.plan.specs.declared.Node.{Node}
use Rattle.plan.specs.declared.Level.{Level}
use Rattle.plan.specs.declared.Binder.{Binder}
use Rattle.plan.specs.declared.LegId.{LegId}
use Rattle.plan.specs.declared.Node.TheVariants.{Unit as k_unit, Number, Name, Let, Take, Pair, Split, Left, Right, Case, Call, Add, Less}
use Rattle.plan.specs.declared.Leg.{Leg}
use Rattle.flight.specs.declared.machine.Spot.{Spot}
use Rattle.flight.specs.declared.machine.Part.{Part}
use Rattle.flight.specs.declared.machine.Part.TheVariants.{Nothing, Num}
use Rattle.flight.specs.declared.machine.What.TheVariants.{Thunk}
use Rattle.flight.specs.declared.machine.Binding.{Binding}
use Rattle.flight.specs.declared.machine.Control.{Control}
use Rattle.flight.specs.declared.machine.Control.TheVariants.{Return}
use Rattle.plan.specs.declared.Row.{Row}
use Rattle.flight.proofs.Decode.{value_here}
use Rattle.flight.proofs.Keeps.{nothing_is}
use Rattle.flight.specs.Calling.{Calls, wait_act, Waits}
use Rattle.flight.proofs.Leads.{leads_as, give_leads, value_leads}

abbrev pub Strict : Node → Type 0
Strict k_unit = ⊥
Strict (Number n) = ⊥
Strict (Name l) = ⊥
Strict (Let k) = ⊥
Strict (Take k) = Unit {0}
Strict Pair = Unit {0}
Strict (Split k) = Unit {0}
Strict (Left z) = Unit {0}
Strict (Right z) = Unit {0}
Strict (Case k) = Unit {0}
Strict (Call g m) = ⊥
Strict Add = Unit {0}
Strict Less = Unit {0}

pub strict_of : (k : Node) → (k ≡ k_unit → ⊥) → ((x : ℕ) → k ≡ Number x → ⊥) → ((x : Level) → k ≡ Name x → ⊥) → ((x : Binder) → k ≡ Let x → ⊥)
    → ((x : LegId) (m : ℕ) → k ≡ Call x m → ⊥) → Strict k
strict_of k_unit a b c d e = a refl
strict_of (Number n) a b c d e = b n refl
strict_of (Name l) a b c d e = c l refl
strict_of (Let k) a b c d e = d k refl
strict_of (Take k) a b c d e = tt
strict_of Pair a b c d e = tt
strict_of (Split k) a b c d e = tt
strict_of (Left z) a b c d e = tt
strict_of (Right z) a b c d e = tt
strict_of (Case k) a b c d e = tt
strict_of (Call g m) a b c d e = e g m refl
strict_of Add a b c d e = tt
strict_of Less a b c d e = tt

strict_does : (E : Runner) (L : byname.Limits) (ns : List Row) (gs : List Leg) (k : Node) (i : ℕ) (ρ : byname.Scope) (d : ℕ) (st : byname.State) → Strict k
    → first E L ns k i ρ d st ≡ node_does E L ns gs k i ρ d st
strict_does E L ns gs k_unit i ρ d st h = absurd h
strict_does E L ns gs (Number n) i ρ d st h = absurd h
strict_does E L ns gs (Name l) i ρ d st h = absurd h
strict_does E L ns gs (Let k) i ρ d st h = absurd h
strict_does E L ns gs (Take k) i ρ d st h = refl
strict_does E L ns gs Pair i ρ d st h = refl
strict_does E L ns gs (Split k) i ρ d st h = refl
strict_does E L ns gs (Left z) i ρ d st h = refl
strict_does E L ns gs (Right z) i ρ d st h = refl
strict_does E L ns gs (Case k) i ρ d st h = refl
strict_does E L ns gs (Call g m) i ρ d st h = absurd h
strict_does E L ns gs Add i ρ d st h = refl
strict_does E L ns gs Less i ρ d st h = refl

strict_kid : (ns : List Row) (gs : List Leg) (lv : ℕ → ℕ) (k : Node) (i : ℕ) → Strict k → LaidNode ns gs lv k i → Under ns lv (i + 1) (lv i)
strict_kid ns gs lv k_unit i h l = absurd h
strict_kid ns gs lv (Number n) i h l = absurd h
strict_kid ns gs lv (Name j) i h l = absurd h
strict_kid ns gs lv (Let k) i h l = absurd h
strict_kid ns gs lv (Take k) i h l = l.0
strict_kid ns gs lv Pair i h l = l.0
strict_kid ns gs lv (Split k) i h l = l.0
strict_kid ns gs lv (Left z) i h l = l
strict_kid ns gs lv (Right z) i h l = l
strict_kid ns gs lv (Case k) i h l = l.0
strict_kid ns gs lv (Call g m) i h l = absurd h
strict_kid ns gs lv Add i h l = l.0
strict_kid ns gs lv Less i h l = l.0

module _ (ns : List Row) (gs : List Leg) (t : Tables) (spot : Spot) (P : Poised ns gs t spot) where
  abbrev q : ℕ
  q = spot.node

  abbrev s : ℕ
  s = spot.scope

  abbrev d : ℕ
  d = spot.depth

  abbrev V : List Part
  V = t.values

  abbrev B : List Binding
  B = t.bindings

  pub laid_as : (k : Node) → kind_at ns q ≡ k → LaidNode ns gs P.lv k q
  laid_as k e = subst (λ (x : Node). LaidNode ns gs P.lv x q) e (P.laid.each q P.node.0)

  pub kind_leads : (k : Node) → kind_at ns q ≡ k → (t' : Tables) (c' : Control)
      → Leads ns gs t (λ E L st. node_does E L ns gs k q (scope_at E L V B s) d st) t' c' → Leads ns gs t (node_act ns gs t spot) t' c'
  kind_leads k e t' c' h =
      leads_as ns gs t (λ E L st. node_does E L ns gs k q (scope_at E L V B s) d st) (node_act ns gs t spot) t' c'
      (λ E L st. ap (λ (x : Node). node_does E L ns gs x q (scope_at E L V B s) d st) (sym e)) h

  pub let_binds : (k : Binder) → kind_at ns q ≡ Let k → Binds ns gs t (Thunk (q + 1) s) (kid2 ns q) spot
  let_binds k e =
      let l = laid_as (Let k) e in
      record {
        poised = P;
        what = (P.scope, (l.0.0, l.0.1 ∙ P.node.1));
        body = (l.1.0, l.1.1 ∙ ap suc P.node.1);
      }

  pub calls : (g : LegId) (m : ℕ) → kind_at ns q ≡ Call g m → Calls ns gs t (get_or gs g.index no_leg) m spot
  calls g m e = let l = laid_as (Call g m) e in record { poised = P; args = l.1; leg = l.2; fits = l.3 }

  pub waits : Strict (kind_at ns q) → Waits ns gs t spot None (q + 1)
  waits h =
      let k = strict_kid ns gs P.lv (kind_at ns q) q h (P.laid.each q P.node.0) in
      record { poised = P; first = tt; kid = (k.0, k.1 ∙ P.node.1) }

  pub wait_as : Strict (kind_at ns q) → (t' : Tables) (c' : Control) → Leads ns gs t (wait_act ns t spot None (q + 1)) t' c'
      → Leads ns gs t (node_act ns gs t spot) t' c'
  wait_as h t' c' l =
      leads_as ns gs t (wait_act ns t spot None (q + 1)) (node_act ns gs t spot) t' c'
      (λ E L st. strict_does E L ns gs (kind_at ns q) q (scope_at E L V B s) d st h) l

  pub unit_leads : kind_at ns q ≡ k_unit → Leads ns gs t (node_act ns gs t spot) t (Return 0)
  unit_leads e =
      let th = P.sound.three in
      kind_leads k_unit e t (Return 0)
      (give_leads ns gs t spot P _ 0 (omega arith)
      (λ E L st. ap (λ v. byname.value v st) (value_here V 0 (omega arith) (P.sound.values 0 (omega arith)) ∙ ap (part_of (grow part_of [] V)) (nothing_is (get_or V 0 Nothing) P.sound.nothing))))

  pub number_leads : (x : ℕ) → kind_at ns q ≡ Number x → Leads ns gs t (node_act ns gs t spot) (valued (Num x) t) (Return (length V))
  number_leads x e = kind_leads (Number x) e _ _ (value_leads ns gs t spot P _ (Num x) (laid_as (Number x) e) (λ E L st. refl))
