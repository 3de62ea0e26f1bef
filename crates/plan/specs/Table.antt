-- What a table of nodes in prefix order means. Assumes nothing.
use Rattle.std.specs.Prelude.{◌≡◌, ℕ, zero, suc, ◌+◌, ◌<◌, ◌≤◌, Bool, true, false, List, [], ◌∷◌, length, drop, Some, None, Option as Maybe, slice_index_or}
use Rattle.std.proofs.Math.Option.{some, none}
use Rattle.plan.specs.declared.Node.{Node}
use Rattle.plan.specs.declared.Node.TheVariants.{Unit as Unit'}
use Rattle.plan.specs.declared.Row.{Row}
use Rattle.plan.specs.declared.Leg.{Leg as FlatLeg}
use Rattle.plan.specs.Limits.{max_params}
use Rattle.plan.specs.Trees.{Term, t_unit, head, kids, flat, stack, Stack}

abbrev pub nodes_of : List Row → List Node
nodes_of [] = []
nodes_of (n ∷ ns) = n.node ∷ nodes_of ns

abbrev pub top : Stack → Term
top none = t_unit
top (some []) = t_unit
top (some (t ∷ ts)) = t

-- The expression that begins at a node.
abbrev pub term_at : List Row → ℕ → Term
term_at ns i = top (stack (drop i (nodes_of ns)))

abbrev pub no_row : Row
no_row = record { node = Unit'; end = 0 }

abbrev pub row_at : List Row → ℕ → Row
row_at ns i = slice_index_or ns i no_row

abbrev pub node_size : Term → ℕ
node_size t = length (flat t)

-- Where the expressions end, so many of them from a place on.
abbrev pub skipped : ℕ → ℕ → List Term → Maybe ℕ
skipped at zero ts = Some at
skipped at (suc n) [] = None
skipped at (suc n) (t ∷ ts) = skipped (at + node_size t) n ts

-- Every node from a place on knows where its expression ends.
abbrev pub Ended : ℕ → List Row → Type 0
Ended from ns = (i : ℕ) → from ≤ i → i < length ns → (row_at ns i).end ≡ i + node_size (term_at ns i)

-- The nodes from a place on are whole expressions.
abbrev pub Whole : ℕ → List Row → Type 0
Whole from ns = (ts : List Term) × (stack (drop from (nodes_of ns)) ≡ some ts)

-- A table of whole expressions whose nodes know their ends.
pub record Standing (from : ℕ) (ns : List Row) : Type 0 where
  pub whole : Whole from ns
  pub ended : Ended from ns

-- Expressions stand one behind the other from a place on, each up to where its node says that it ends.
abbrev pub Stand : List Row → ℕ → List Term → Type 0
Stand ns p [] = Unit {0}
Stand ns p (t ∷ ts) = (p < length ns) × (term_at ns p ≡ t) × ((row_at ns p).end ≡ p + node_size t) × Stand ns (row_at ns p).end ts

-- The table spells its expressions: each node is the head of the one that begins there, and the kids of that stand behind it.
abbrev pub Spells : List Row → Type 0
Spells ns = (i : ℕ) → i < length ns → ((row_at ns i).node ≡ head (term_at ns i)) × Stand ns (i + 1) (kids (term_at ns i))

-- The bodies of the legs stand one behind the other from a place on, to the table's end.
abbrev pub InOrder : ℕ → List Row → List FlatLeg → Type 0
InOrder p ns [] = p ≡ length ns
InOrder p ns (g ∷ gs) = (g.first ≡ p) × (p < length ns) × (length g.params.items ≤ max_params) × InOrder (p + node_size (term_at ns p)) ns gs

abbrev pub is_one : Stack → Bool
is_one none = false
is_one (some []) = false
is_one (some (t ∷ [])) = true
is_one (some (t ∷ u ∷ ts)) = false

-- what closing the nodes from a place on leaves
pub record Closed (from : ℕ) (before after : List Row) (r : Bool) : Type 0 where
  pub same_nodes : nodes_of after ≡ nodes_of before
  pub one : r ≡ is_one (stack (drop from (nodes_of before)))
  pub kept : (i : ℕ) → i < from → row_at after i ≡ row_at before i
  pub stands : r ≡ true → Standing from after
