use Rattle.std.proofs.Common.{List, vec_items, sym, subst}
use Rattle.flight.specs.Links.{Linked}
use Rattle.flight.specs.declared.machine.Part.{Part}
use Rattle.flight.proofs.Links.{linked_of, linked_valued}
use Rattle.flight.proofs.machine.Machine.value.Goals as goal

pub invariant_of-self-clause-linked : goal.invariant_of-self-clause-linked
invariant_of-self-clause-linked c =
    let s = c.args.self.now in
    ∣ subst (λ (ps : List Part). Linked (vec_items s.bindings) ps (vec_items s.log)) (sym c.push_reserved.ensures.items)
    (linked_valued _ _ _ (linked_of _ _ _ s.linked) _ c.requires.places) ∣₁
