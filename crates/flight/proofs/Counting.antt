-- Counting lookups. Assumes nothing.
use Rattle.std.proofs.Common.{◌≡◌, ℕ, suc, ◌+◌, Bool, cond, ◌&&◌, eqb, List, ◌∷◌, map, count_by, refl, ap, arith}
use Rattle.std.proofs.lemmas.List.Recursion.{is_count_by}
use Rattle.evaluation.specs.Flight.{lookups}
use Rattle.flight.specs.declared.machine.Entry.{Entry}
use Rattle.flight.specs.declared.machine.Event.{Event}
use Rattle.flight.specs.declared.machine.Event.TheVariants.{Made, Lookup}
use Rattle.flight.specs.contracts.machine.EventPartialEq.TheImpl.{ghosts as derived}
use Rattle.flight.specs.Means.{told_as, entry_of}

abbrev pub looks_up : ℕ → Entry → Bool
looks_up b e = derived.eq e.event Lookup && eqb b e.binding

pub counted : (b : ℕ) (log : List Entry) → lookups b (map entry_of log) ≡ count_by (looks_up b) log
counted b = is_count_by (λ log. lookups b (map entry_of log)) (looks_up b) refl step
  where
    more : (e : Event) (k c : ℕ) (l : List Entry)
        → lookups b (told_as e k c ∷ map entry_of l) ≡ cond (derived.eq e Lookup && eqb b c) (1 + lookups b (map entry_of l)) (lookups b (map entry_of l))
    more Made k c l = refl
    more Lookup k c l = let n : suc (lookups b (map entry_of l)) ≡ 1 + lookups b (map entry_of l) = omega arith in ap (λ (m : ℕ). cond (eqb b c) m (lookups b (map entry_of l))) n

    step : (e : Entry) (l : List Entry) → lookups b (map entry_of (e ∷ l)) ≡ cond (looks_up b e) (1 + lookups b (map entry_of l)) (lookups b (map entry_of l))
    step e l = more e.event e.binder e.binding l
