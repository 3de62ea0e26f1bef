use Rattle.std.proofs.Common.{List, vec_items, sym, subst}
use Rattle.flight.specs.Links.{Linked}
use Rattle.flight.specs.declared.machine.Entry.{Entry}
use Rattle.flight.proofs.Links.{linked_of, linked_noted}
use Rattle.flight.proofs.machine.Machine.note_lookup.Goals as goal

pub invariant_of-self-clause-linked : goal.invariant_of-self-clause-linked
invariant_of-self-clause-linked c =
    let s = c.args.self.now in
    ∣ subst (λ (es : List Entry). Linked (vec_items s.bindings) (vec_items s.values) es) (sym c.push_reserved.ensures.items)
    (linked_noted _ _ _ (linked_of _ _ _ s.linked) _ c.requires) ∣₁
