-- Flying in several calls. Assumes nothing.
use Rattle.std.specs.Prelude.{◌≡◌, ℕ, ◌+◌, ◌-◌, ◌<◌, ◌≤◌, Bool, true, false, List, length, nat_lt}
use Rattle.evaluation.specs.Flight as byname
use Rattle.flight.specs.Nodes.{Runner, Runs}
use Rattle.flight.specs.Tables.{Tables}
use Rattle.flight.specs.Means.{means, value_at, state_of, ending_of}
use Rattle.flight.specs.Sound.{Ready}
use Rattle.plan.specs.declared.Row.{Row}
use Rattle.plan.specs.declared.Leg.{Leg}
use Rattle.flight.specs.declared.machine.Control.{Control}
use Rattle.flight.specs.declared.machine.Control.TheVariants.{Eval, Return, Draw, Over}
use Rattle.flight.specs.declared.machine.Outcome.{Outcome}
use Rattle.flight.specs.declared.machine.Outcome.TheVariants.{InAir, Ended, Done}

-- there is a step to make, in a call for n evaluations that began at f
abbrev pub goes : Tables → Control → ℕ → ℕ → Bool
goes t (Eval a) f n = nat_lt (t.begun - f) n
goes t (Return v) f n = nat_lt 0 (length t.frames)
goes t (Draw k i) f n = true
goes t (Over e) f n = false

-- what the state at rest comes to
abbrev pub shown : (ℕ → List ℕ) → Tables → Control → byname.Out
shown y t (Eval a) = byname.ended byname.in_air (state_of t y)
shown y t (Return v) = byname.value (value_at t.values v) (state_of t y)
shown y t (Draw k i) = byname.ended byname.in_air (state_of t y)
shown y t (Over e) = byname.ended (ending_of e) (state_of t y)

abbrev pub at_end : Control → Bool
at_end (Eval a) = false
at_end (Return v) = true
at_end (Draw k i) = false
at_end (Over e) = true

-- what a caller is told
abbrev pub told : Tables → Control → Outcome
told t (Eval a) = InAir
told t (Return v) = Done (byname.as_number (value_at t.values v))
told t (Draw k i) = InAir
told t (Over e) = Ended e

-- At rest, where N evaluations were granted so far: the next one is not begun for want of budget, or all is over.
abbrev pub AtRest : ℕ → Tables → Control → Type 0
AtRest N t (Eval a) = t.begun ≡ N
AtRest N t (Return v) = length t.frames ≡ 0
AtRest N t (Draw k i) = ⊥
AtRest N t (Over e) = Unit {0}

-- The flight o, of which N evaluations were granted, stands in (y, t, c).
pub record Aloft (ns : List Row) (E : Runner) (o : ℕ → byname.Out) (N : ℕ) (y : ℕ → List ℕ) (t : Tables) (c : Control) : Type 0 where
  pub rest : AtRest N t c
  pub most : t.begun ≤ N
  pub means : (n : ℕ) → N ≤ n → means E (byname.house n) ns y t c ≡ o n

-- One call: whatever flight stands in the state before, after n more evaluations granted stands in the state after, which shows it.
abbrev pub Flies : List Row → List Leg → ℕ → (ℕ → List ℕ) → Tables → Control → (ℕ → List ℕ) → Tables → Control → Type 0
Flies ns gs n y t c y' t' c' =
    (E : Runner) (o : ℕ → byname.Out) (N : ℕ) → Runs ns gs E → Aloft ns E o N y t c
    → Aloft ns E o (N + n) y' t' c' × (shown y' t' c' ≡ o (N + n))

abbrev pub EndedAt : Tables → Control → Type 0
EndedAt t (Eval a) = ⊥
EndedAt t (Return v) = length t.frames ≡ 0
EndedAt t (Draw k i) = ⊥
EndedAt t (Over e) = Unit {0}

-- between steps of a call that began in (y, t, c)
pub record Flying (ns : List Row) (gs : List Leg) (n : ℕ) (y : ℕ → List ℕ) (t : Tables) (c : Control) (y' : ℕ → List ℕ) (t' : Tables) (c' : Control) : Type 0 where
  pub ready : Ready ns gs t' c'
  pub least : t.begun ≤ t'.begun
  pub most : t'.begun ≤ t.begun + n
  pub same : EndedAt t c → (t' ≡ t) × (c' ≡ c)
  pub means : (E : Runner) (k : ℕ) → Runs ns gs E → t.begun + n ≤ k → means E (byname.house k) ns y' t' c' ≡ means E (byname.house k) ns y t c

-- a step can be made
abbrev pub Moves : Tables → Control → Type 0
Moves t (Eval a) = Unit {0}
Moves t (Return v) = 0 < length t.frames
Moves t (Draw k i) = Unit {0}
Moves t (Over e) = ⊥
