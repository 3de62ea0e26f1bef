-- A table of whole expressions spells them. Assumes nothing.
use Rattle.std.proofs.Common.{◌≡◌, ℕ, zero, suc, ◌+◌, ◌<◌, ◌≤◌, List, [], ◌∷◌, ◌++◌, length, take, drop, sym, refl, ap, ◌∙◌, subst, ap₂, append_assoc, append-nil, arith, length-append}
use mathlib.Core.Option.{some}
use Rattle.std.proofs.lemmas.List.{take_at}
use Rattle.plan.specs.declared.Node.{Node}
use Rattle.plan.specs.declared.Row.{Row}
use Rattle.plan.specs.Kinds.{kids_of}
use Rattle.plan.specs.Trees.{Term, t_unit, t_number, t_name, t_let, t_take, t_pair, t_split, t_left, t_right, t_case, t_call, t_add, t_less, Terms, t_none, t_more, how_many, flat, flats, head, arguments, kids, stack}
use Rattle.plan.specs.Table.{nodes_of, term_at, row_at, node_size, Standing, Stand, Spells}
use Rattle.plan.proofs.Stacks.{flat_all, stack_back}
use Rattle.plan.proofs.Ends.{here, some_nodes, drop_nodes, stack_of_all}
use Rattle.plan.proofs.Walks.{kid, stack_from}

two_flat : (o : Node) (a b : Term) → o ∷ (flat a ++ flat b) ≡ o ∷ flat_all (a ∷ b ∷ [])
two_flat o a b = ap (λ l. o ∷ (flat a ++ l)) (sym (append-nil (flat b)))

one_flat : (o : Node) (a : Term) → o ∷ flat a ≡ o ∷ flat_all (a ∷ [])
one_flat o a = ap (λ l. o ∷ l) (sym (append-nil (flat a)))

flats_all : (ts : Terms) → flats ts ≡ flat_all (arguments ts)
flats_all t_none = refl
flats_all (t_more a ts) = ap (λ l. flat a ++ l) (flats_all ts)

-- a node, then its kids
pub flat_head : (t : Term) → flat t ≡ head t ∷ flat_all (kids t)
flat_head t_unit = refl
flat_head (t_number n) = refl
flat_head (t_name l) = refl
flat_head (t_let k a b) = two_flat (head (t_let k a b)) a b
flat_head (t_take k a b) = two_flat (head (t_take k a b)) a b
flat_head (t_pair a b) = two_flat (head (t_pair a b)) a b
flat_head (t_split k a b) = two_flat (head (t_split k a b)) a b
flat_head (t_left y a) = one_flat (head (t_left y a)) a
flat_head (t_right y a) = one_flat (head (t_right y a)) a
flat_head (t_case k a b c) = ap (λ l. head (t_case k a b c) ∷ (flat a ++ (flat b ++ l))) (sym (append-nil (flat c)))
flat_head (t_call l ts) = ap (λ x. head (t_call l ts) ∷ x) (flats_all ts)
flat_head (t_add a b) = two_flat (head (t_add a b)) a b
flat_head (t_less a b) = two_flat (head (t_less a b)) a b

how_many_is : (ts : Terms) → how_many ts ≡ length (arguments ts)
how_many_is t_none = refl
how_many_is (t_more a ts) = ap suc (how_many_is ts)

-- as many as the table of kinds says
pub kids_counted : (t : Term) → kids_of (head t) ≡ length (kids t)
kids_counted t_unit = refl
kids_counted (t_number n) = refl
kids_counted (t_name l) = refl
kids_counted (t_let k a b) = refl
kids_counted (t_take k a b) = refl
kids_counted (t_pair a b) = refl
kids_counted (t_split k a b) = refl
kids_counted (t_left y a) = refl
kids_counted (t_right y a) = refl
kids_counted (t_case k a b c) = refl
kids_counted (t_call l ts) = how_many_is ts
kids_counted (t_add a b) = refl
kids_counted (t_less a b) = refl

flat_all_append : (ts us : List Term) → flat_all (ts ++ us) ≡ flat_all ts ++ flat_all us
flat_all_append [] us = refl
flat_all_append (t ∷ ts) us = ap (λ l. flat t ++ l) (flat_all_append ts us) ∙ sym (append_assoc (flat t) (flat_all ts) (flat_all us))

module _ (ns : List Row) (s : Standing 0 ns) where
  stand : (p : ℕ) (ts us : List Term) → stack (drop p (nodes_of ns)) ≡ some (ts ++ us) → Stand ns p ts
  stand p [] us e = tt
  stand p (t ∷ ts) us e =
      let k = kid ns s p t (ts ++ us) e in
      (k.within, k.tree, k.ends, stand (row_at ns p).end ts us k.behind)

  pub spells : Spells ns
  spells i lt =
      let f = stack_from (nodes_of ns) i s.whole.0 s.whole.1 in
      let h = here ns i f.0 lt f.1 in
      let t = h.tree in
      let back : drop i (nodes_of ns) ≡ flat t ++ flat_all h.rest = stack_back (drop i (nodes_of ns)) f.0 f.1 ∙ ap flat_all h.is in
      let cons : (row_at ns i).node ∷ drop (suc i) (nodes_of ns) ≡ head t ∷ (flat_all (kids t) ++ flat_all h.rest) =
      sym (drop_nodes ns i lt) ∙ back ∙ ap (λ l. l ++ flat_all h.rest) (flat_head t) in
      let first : (row_at ns i).node ≡ head t = cc in
      let others : drop (suc i) (nodes_of ns) ≡ flat_all (kids t) ++ flat_all h.rest = cc in
      let behind : stack (drop (i + 1) (nodes_of ns)) ≡ some (kids t ++ h.rest) =
      ap (λ k. stack (drop k (nodes_of ns))) (let e : i + 1 ≡ suc i = omega arith in e)
      ∙ ap stack (others ∙ sym (flat_all_append (kids t) h.rest)) ∙ stack_of_all (kids t ++ h.rest) in
      subst (λ x. ((row_at ns i).node ≡ head x) × Stand ns (i + 1) (kids x)) (sym h.at_place) (first, stand (i + 1) (kids t) h.rest behind)

-- ---- the nodes of an expression in the table

module _ (ns : List Row) (s : Spells ns) where
  abbrev os : List Node
  os = nodes_of ns

  abbrev Found : ℕ → Type 0
  Found i = drop i os ≡ flat (term_at ns i) ++ drop (i + node_size (term_at ns i)) os

  flats_here : (n p : ℕ) (ts : List Term) → ((i : ℕ) → node_size (term_at ns i) ≤ n → i < length ns → Found i) → length (flat_all ts) ≤ n → Stand ns p ts
      → drop p os ≡ flat_all ts ++ drop (p + length (flat_all ts)) os
  flats_here n p [] ih le h = ap (λ k. drop k os) (let e : p ≡ p + 0 = omega arith in e)
  flats_here n p (t ∷ ts) ih le h =
      let split = length-append (flat t) (flat_all ts) in
      let size = ap node_size h.1 in
      let first = ih p (omega arith) h.0 in
      let ends = h.2 in
      let others = flats_here n (row_at ns p).end ts ih (omega arith) h.3 in
      first ∙ ap₂ (λ x k. flat x ++ drop k os) h.1 (let e : p + node_size (term_at ns p) ≡ (row_at ns p).end = omega arith in e)
      ∙ ap (λ l. flat t ++ l) (others ∙ ap (λ k. flat_all ts ++ drop k os) (let e : (row_at ns p).end + length (flat_all ts) ≡ p + length (flat t ++ flat_all ts) = omega arith in e))
      ∙ sym (append_assoc (flat t) (flat_all ts) (drop (p + length (flat t ++ flat_all ts)) os))

  -- by the number of nodes that are still to be found
  flat_here : (n i : ℕ) → node_size (term_at ns i) ≤ n → i < length ns → Found i
  flat_here zero i le lt = absurd (let h = some_nodes (term_at ns i) in omega arith)
  flat_here (suc n) i le lt =
      let t = term_at ns i in
      let size_is = ap length (flat_head t) in
      let here = s i lt in
      let more = flats_here n (i + 1) (kids t) (flat_here n) (omega arith) here.1 in
      drop_nodes ns i lt ∙ ap₂ (λ o k. o ∷ drop k os) here.0 (let e : suc i ≡ i + 1 = omega arith in e)
      ∙ ap (λ l. head t ∷ l) (more ∙ ap (λ k. flat_all (kids t) ++ drop k os) (let e : i + 1 + length (flat_all (kids t)) ≡ i + node_size t = omega arith in e))
      ∙ ap (λ l. l ++ drop (i + node_size t) os) (sym (flat_head t))

  nodes_drop : (xs : List Row) (i : ℕ) → nodes_of (drop i xs) ≡ drop i (nodes_of xs)
  nodes_drop xs zero = refl
  nodes_drop [] (suc i) = refl
  nodes_drop (x ∷ xs) (suc i) = nodes_drop xs i

  nodes_take : (xs : List Row) (i : ℕ) → nodes_of (take i xs) ≡ take i (nodes_of xs)
  nodes_take xs zero = refl
  nodes_take [] (suc i) = refl
  nodes_take (x ∷ xs) (suc i) = ap (λ l. x.node ∷ l) (nodes_take xs i)

  -- the rows of an expression are its nodes
  pub rows_here : (i : ℕ) → i < length ns → nodes_of (take (node_size (term_at ns i)) (drop i ns)) ≡ flat (term_at ns i)
  rows_here i lt =
      nodes_take (drop i ns) (node_size (term_at ns i)) ∙ ap (take (node_size (term_at ns i))) (nodes_drop ns i ∙ flat_here (node_size (term_at ns i)) i (omega arith) lt)
      ∙ take_at (flat (term_at ns i)) (drop (i + node_size (term_at ns i)) os) (node_size (term_at ns i)) refl

  -- and the nodes of the table from there on begin with them
  pub nodes_here : (i : ℕ) → i < length ns → drop i (nodes_of ns) ≡ flat (term_at ns i) ++ drop (i + node_size (term_at ns i)) (nodes_of ns)
  nodes_here i lt = flat_here (node_size (term_at ns i)) i (omega arith) lt
