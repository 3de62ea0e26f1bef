use Rattle.std.proofs.Common.{◌≡◌, ℕ, List, [], ◌∷◌, ◌++◌, length, vec_items, sym, ap, ◌∙◌, subst₂, arith, rules}
use Rattle.flight.specs.Links.{Linked}
use Rattle.flight.specs.declared.machine.Binding.{Binding}
use Rattle.flight.specs.declared.machine.Entry.{Entry}
use Rattle.flight.proofs.Links.{linked_of, linked_opened}
use Rattle.flight.proofs.machine.Machine.open.Goals as goal

pub invariant_of-self-clause-linked : goal.invariant_of-self-clause-linked
invariant_of-self-clause-linked c =
    let s = c.args.self.now in
    let e = c.push_reserved.ensures.items ∙ ap (λ (n : ℕ). (let b : Binding = record { binder = c.args.binder; level = n; parent = c.args.parent; what = c.args.what } in vec_items s.bindings ++ (b ∷ []))) c.size-level.ensures in
    ∣ subst₂ (λ (bs : List Binding) (es : List Entry). Linked bs (vec_items s.values) es) (sym e) (sym c.push_reserved-2.ensures.items)
    (linked_opened _ _ _ (linked_of _ _ _ s.linked) c.args.binder c.args.what c.args.parent _ c.requires.room c.requires.within) ∣₁

pub overflow_add-result : goal.overflow_add-result
overflow_add-result c =
    let made = (linked_of _ _ _ c.args.self.now.linked).made in
    let room = c.requires.room in
    let n : c.len-number.result ≡ length (vec_items c.args.self.now.bindings) = search rules in
    omega arith
