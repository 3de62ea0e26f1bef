-- What the tables hold at each place has one proof at most, and each change keeps it. Assumes nothing.
use Rattle.std.proofs.Common.{◌≡◌, ℕ, zero, suc, ◌+◌, ◌<◌, ◌≤◌, List, [], ◌∷◌, ◌++◌, length, get_or, sym, ◌∙◌, subst, arith, length-append}
use mathlib.Core.HLevel.{Π_prop, →_prop, ×_prop, ⊥_prop, Unit-prop}
use mathlib.Core.Logic.{∥∥₁_elim}
use native.Mathlib.Nat.{ℕ_set}
use native.Mathlib.Bridge.{le_prop}
use lib.ListN.{get_or-append}
use Rattle.flight.specs.Tables.{new_binding}
use Rattle.flight.specs.Links.{no_binding, PartOk, IsNothing, OnOlder, Linked}
use Rattle.flight.specs.Spelled.{blank}
use Rattle.flight.specs.declared.machine.Part.{Part}
use Rattle.flight.specs.declared.machine.Part.TheVariants.{Nothing, Num, Both, InLeft, InRight}
use Rattle.flight.specs.declared.machine.What.{What}
use Rattle.flight.specs.declared.machine.Binding.{Binding}
use Rattle.flight.specs.declared.machine.Entry.{Entry}
use Rattle.flight.proofs.Keeps.{each_more, size_more, size_low}

pub part_prop : (i : ℕ) (p : Part) → IsProp (PartOk i p)
part_prop i Nothing = Unit-prop
part_prop i (Num n) = le_prop
part_prop i (Both u v) = ×_prop le_prop le_prop
part_prop i (InLeft u) = le_prop
part_prop i (InRight u) = le_prop

pub nothing_prop : (p : Part) → IsProp (IsNothing p)
nothing_prop Nothing = Unit-prop
nothing_prop (Num n) = ⊥_prop
nothing_prop (Both u v) = ⊥_prop
nothing_prop (InLeft u) = ⊥_prop
nothing_prop (InRight u) = ⊥_prop

older_prop : (bs : List Binding) (i : ℕ) (b : Binding) → IsProp (OnOlder bs i b)
older_prop bs i b u v = λ j. record { older = le_prop u.older v.older j; level = ℕ_set _ _ u.level v.level j; low = le_prop u.low v.low j }

pub parts_blank : (i : ℕ) → i < 3 → PartOk i (get_or blank.values i Nothing)
parts_blank zero lt = tt
parts_blank (suc zero) lt = omega arith
parts_blank (suc (suc zero)) lt = omega arith
parts_blank (suc (suc (suc i))) lt = absurd (omega arith)

pub linked_blank : Linked [] blank.values []
linked_blank = record { bindings = λ i lt. absurd (omega arith); values = parts_blank; some = omega arith; nothing = tt; made = omega arith; log = omega arith }

module _ (bs : List Binding) (vs : List Part) (log : List Entry) where
  linked_prop : IsProp (Linked bs vs log)
  linked_prop u v = λ j.
      record {
        bindings = Π_prop (λ i. →_prop (older_prop bs i (get_or bs i no_binding))) u.bindings v.bindings j;
        values = Π_prop (λ i. →_prop (part_prop i (get_or vs i Nothing))) u.values v.values j;
        some = le_prop u.some v.some j;
        nothing = nothing_prop (get_or vs 0 Nothing) u.nothing v.nothing j;
        made = le_prop u.made v.made j;
        log = le_prop u.log v.log j;
      }

  -- what the machine keeps is there for a call
  pub linked_of : ∥ Linked bs vs log ∥₁ → Linked bs vs log
  linked_of e = ∥∥₁_elim e linked_prop (λ h. h)

  module _ (h : Linked bs vs log) where
    pub linked_opened : (k : ℕ) (w : What) (p : ℕ) (e : Entry) → length log < 4096 → p ≤ length bs
        → Linked (bs ++ (new_binding bs k w p ∷ [])) vs (log ++ (e ∷ []))
    linked_opened k w p e lt le =
        let b = new_binding bs k w p in
        let m : length (bs ++ (b ∷ [])) ≡ length bs + 1 = length-append bs (b ∷ []) in
        let l : length (log ++ (e ∷ [])) ≡ length log + 1 = length-append log (e ∷ []) in
        let made = h.made in
        record {
          bindings = each_more (OnOlder (bs ++ (b ∷ []))) no_binding bs b
              (λ i lt. (let o = h.bindings i lt in
              let p = o.older in record {
                older = o.older;
                level = o.level ∙ sym (size_more bs b (get_or bs i no_binding).parent (omega arith));
                low = o.low;
              }))
              (record {
                older = le;
                level = sym (size_more bs b p le);
                low = (let z = size_low bs (λ i lt. (h.bindings i lt).low) p le in omega arith);
              });
          values = h.values;
          some = h.some;
          nothing = h.nothing;
          made = omega arith;
          log = omega arith;
        }

    pub linked_noted : (e : Entry) → length log < 4096 → Linked bs vs (log ++ (e ∷ []))
    linked_noted e lt =
        let l : length (log ++ (e ∷ [])) ≡ length log + 1 = length-append log (e ∷ []) in
        let made = h.made in
        record { bindings = h.bindings; values = h.values; some = h.some; nothing = h.nothing; made = omega arith; log = omega arith }

    pub linked_valued : (p : Part) → PartOk (length vs) p → Linked bs (vs ++ (p ∷ [])) log
    linked_valued p ok =
        let l : length (vs ++ (p ∷ [])) ≡ length vs + 1 = length-append vs (p ∷ []) in
        let s = h.some in
        record {
          bindings = h.bindings;
          values = each_more PartOk Nothing vs p h.values ok;
          some = omega arith;
          nothing = subst IsNothing (sym (get_or-append vs (p ∷ []) Nothing 0 h.some)) h.nothing;
          made = h.made;
          log = h.log;
        }
