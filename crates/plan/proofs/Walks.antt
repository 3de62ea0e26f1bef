-- Expressions at places of the table. Assumes nothing.
use Rattle.std.proofs.Common.{◌≡◌, ℕ, zero, suc, ◌+◌, ◌<◌, ◌≤◌, ◌⊎◌, List, [], ◌∷◌, length, drop, sym, refl, ap, ◌∙◌, inl, inr, arith}
use mathlib.Core.Option.{some, none}
use Rattle.std.proofs.lemmas.Bool.{cases_lt}
use Rattle.plan.specs.declared.Node.{Node}
use Rattle.plan.specs.declared.Row.{Row}
use Rattle.plan.specs.Trees.{Term, stack, Stack, on_some}
use Rattle.plan.specs.Table.{nodes_of, term_at, row_at, node_size, Standing}
use Rattle.plan.proofs.Ends.{here, past}

-- whole expressions stand from every place on
pub stack_from : (os : List Node) (i : ℕ) (ts : List Term) → stack os ≡ some ts → (us : List Term) × (stack (drop i os) ≡ some us)
stack_from os zero ts e = (ts, e)
stack_from [] (suc i) ts e = (ts, e)
stack_from (o ∷ os) (suc i) ts e = go (stack os) refl e (stack_from os i)
  where
    go : (s : Stack) → stack os ≡ s → on_some o s ≡ some ts → ((ts : List Term) → stack os ≡ some ts → (us : List Term) × (stack (drop i os) ≡ some us)) → (us : List Term) × (stack (drop i os) ≡ some us)
    go none q e h = absurd (let z : ◌≡◌ {A = ℕ} 0 1 = cc in omega arith)
    go (some vs) q e h = h vs q

-- An expression at a place, and what stands behind it.
pub record Kid (ns : List Row) (p : ℕ) (a : Term) (rest : List Term) : Type 0 where
  pub within : p < length ns
  pub tree : term_at ns p ≡ a
  pub ends : (row_at ns p).end ≡ p + node_size a
  pub behind : stack (drop (row_at ns p).end (nodes_of ns)) ≡ some rest

pub kid : (ns : List Row) → Standing 0 ns → (p : ℕ) (a : Term) (rest : List Term) → stack (drop p (nodes_of ns)) ≡ some (a ∷ rest) → Kid ns p a rest
kid ns s p a rest e =
    let lt : p < length ns = inside (cases_lt p (length ns)) in
    let h = here ns p (a ∷ rest) lt e in
    let ta : h.tree ≡ a = sym (ap (λ l. elim l [ [] ↦ a | x ∷ xs ↦ x ]) h.is) in
    let ra : h.rest ≡ rest = sym (ap (λ l. elim l [ [] ↦ rest | x ∷ xs ↦ xs ]) h.is) in
    let end_is : (row_at ns p).end ≡ p + node_size h.tree = s.ended p (omega arith) lt ∙ ap (λ t. p + node_size t) h.at_place in
    record {
      within = lt;
      tree = h.at_place ∙ ta;
      ends = end_is ∙ ap (λ t. p + node_size t) ta;
      behind = ap (λ k. stack (drop k (nodes_of ns))) end_is ∙ h.after ∙ ap some ra;
    }
  where
    inside : (p < length ns) ⊎ (length ns ≤ p) → p < length ns
    inside (inl h) = h
    inside (inr h) = absurd (let q : a ∷ rest ≡ [] = past ns p (a ∷ rest) h e in let z : ◌≡◌ {A = ℕ} 0 1 = cc in omega arith)
