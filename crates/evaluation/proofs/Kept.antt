-- What each single step keeps of a state, every flight keeps. Assumes nothing.
use mathlib.Core.Option.{Option, some, none}
use Rattle.std.proofs.Common.{ℕ, suc, length}
use Rattle.evaluation.specs.Flight.{Value, lookup, Ending, State, Out, ended, value, Comp, Need, Limits, gate, and_then, tick, note, bump}
use Rattle.evaluation.proofs.Steps.{Steps}

-- I holds of a state; E e of one in which an ending e comes.
module _ (I : State → Type 0) (E : Ending → State → Type 0) where
  abbrev pub Ends : Out → Type 0
  Ends (ended e s) = I s × E e s
  Ends (value v s) = I s

  -- The first evaluation plays no part.
  pub record Keeps (c f : Comp) : Type 0 where
    pub ends : (d : ℕ) (s : State) → I s → Ends (f d s)

  -- at a limit: the ending, or the state behind it
  abbrev pub Passes : Option Ending → State → State → Type 0
  Passes (some e) s t = E e s
  Passes none s t = I t

  pub record Invariant (L : Limits) (Fresh : ℕ → Type 0) : Type 0 where
    pub begins : (d : ℕ) (s : State) → I s → Passes (L.stops s.begun d) s (tick s)
    pub makes : (k : ℕ) (s : State) → I s → Passes (L.room (length s.log)) s (bump k s)
    pub fresh : (s : State) → I s → Fresh s.next
    pub looks : (k b : ℕ) (s : State) → Fresh b → I s → Passes (L.room (length s.log)) s (note (lookup k b) s)
    pub needs : (q : Need) (s : State) → I s → Passes (L.unmet q) s s

  pub at_gate : (o : Option Ending) (s t : State) (k : State → Out) → I s → Passes o s t → (I t → Ends (k s)) → Ends (gate o s k)
  at_gate (some e) s t k i p h = (i, p)
  at_gate none s t k i p h = h p

  at_then : (o : Out) (k : Value → State → Out) → Ends o → ((v : Value) (s : State) → I s → Ends (k v s)) → Ends (and_then o k)
  at_then (ended e s) k i h = i
  at_then (value v s) k i h = h v s i

  pub keeps : (L L' : Limits) (Fresh : ℕ → Type 0) → Invariant L' Fresh → Steps L L' Fresh Keeps
  keeps L L' Fresh V = record {
    gives = λ v. record { ends = λ d s i. i };
    begins = λ c f h. record { ends = λ d s i. at_gate (L'.stops s.begun d) s (tick s) _ i (V.begins d s i) (h.ends d (tick s)) };
    downs = λ c f h. record { ends = λ d s i. h.ends (suc d) s i };
    thens = λ c f c' f' h g. record { ends = λ d s i. at_then (f d s) _ (h.ends d s i) (λ v s i. (g v).ends d s i) };
    makes = λ k c f h. record { ends = λ d s i. at_gate (L'.room (length s.log)) s (bump k s) _ i (V.makes k s i) ((h s.next (V.fresh s i)).ends d (bump k s)) };
    looks = λ k b c f new h. record {
      ends = λ d s i.
          at_gate (L'.room (length s.log)) s (note (lookup k b) s) _ i (V.looks k b s new i) (h.ends (suc d) (note (lookup k b) s));
    };
    needs = λ q c f h. record { ends = λ d s i. at_gate (L'.unmet q) s s _ i (V.needs q s i) (h.ends d s) };
  }
