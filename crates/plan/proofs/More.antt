-- A table of whole expressions, and more of them behind it. Assumes nothing.
use Rattle.std.proofs.Common.{◌≡◌, ℕ, ◌+◌, ◌<◌, ◌≤◌, List, ◌++◌, length, drop, sym, ap, ◌∙◌, inl, inr, arith}
use mathlib.Core.Option.{some}
use Rattle.std.proofs.lemmas.List.{drop_at, drop-append-le}
use Rattle.std.proofs.lemmas.Bool.{cases_lt}
use Rattle.plan.specs.declared.Node.{Node}
use Rattle.plan.specs.declared.Row.{Row}
use Rattle.plan.specs.Trees.{Term, stack}
use Rattle.plan.specs.Table.{nodes_of, top, term_at, row_at, node_size, Standing, Ended}
use Rattle.plan.proofs.Stacks.{stack_append}
use Rattle.plan.proofs.Ends.{nodes_length, here}
use Rattle.plan.proofs.Walks.{stack_from}

module _ (before after : List Row) (os : List Node) (s : Standing 0 before) (t : Standing (length before) after) (e : nodes_of after ≡ nodes_of before ++ os)
    (kept : (i : ℕ) → i < length before → row_at after i ≡ row_at before i) where
  behind : stack os ≡ some t.whole.0
  behind = ap stack (sym (ap (drop (length before)) e ∙ drop_at (nodes_of before) os (length before) (nodes_length before))) ∙ t.whole.1

  joined : (i : ℕ) → i ≤ length before → (ts : List Term) → stack (drop i (nodes_of before)) ≡ some ts → stack (drop i (nodes_of after)) ≡ some (ts ++ t.whole.0)
  joined i le ts q =
      let l = nodes_length before in
      ap (λ x. stack (drop i x)) e ∙ ap stack (drop-append-le i (nodes_of before) os (omega arith)) ∙ stack_append (drop i (nodes_of before)) os ts t.whole.0 q behind

  -- The expressions of the table before stay what they were.
  pub trees_kept : (i : ℕ) → i < length before → term_at after i ≡ term_at before i
  trees_kept i lt =
      let f = stack_from (nodes_of before) i s.whole.0 s.whole.1 in
      let h = here before i f.0 lt f.1 in
      ap top (joined i (omega arith) f.0 f.1) ∙ ap (λ ts. top (some (ts ++ t.whole.0))) h.is ∙ sym h.at_place

  ended : Ended 0 after
  ended i z lt =
      elim (cases_lt i (length before)) [
        | inl h ↦ ap (λ n. n.end) (kept i h) ∙ s.ended i z h ∙ ap (λ x. i + node_size x) (sym (trees_kept i h))
        | inr h ↦ t.ended i h lt
      ]

  pub standing_more : Standing 0 after
  standing_more = record { whole = (s.whole.0 ++ t.whole.0, joined 0 (omega arith) s.whole.0 s.whole.1); ended = ended }
