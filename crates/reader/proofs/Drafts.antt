-- The same reader at an equal length of the input and equal tables. Assumes nothing.
use Rattle.std.proofs.Common.{◌≡◌, ℕ, List, vec_items, vec_len, sym, ap, ◌∙◌, subst}
use Rattle.plan.specs.declared.Node.{Node}
use Rattle.plan.specs.declared.Leg.{Leg as FlatLeg}
use Rattle.plan.specs.declared.Row.{Row}
use Rattle.plan.specs.Trees.{Leg}
use Rattle.plan.specs.Written.{Before}
use Rattle.plan.specs.declared.Type.{«Type» as Shape}
use Rattle.reader.specs.declared.draft.Draft.{Draft}
use Rattle.reader.specs.Reading.{Got, read_node, read_entry, read_leg}
use Rattle.reader.specs.Replies.{arities_of, node_in, LegRead}

pub node_same : (d e : Draft) (a b : ℕ) (bs : List ℕ) (g : Got Node) → e.types ≡ d.types → e.legs ≡ d.legs → a ≡ b → node_in e a bs ≡ g → read_node b (vec_len d.types) (arities_of (vec_items d.legs)) e.next bs ≡ g
node_same d e a b bs g et el ea h =
    sym (ap (λ x. read_node x (vec_len e.types) (arities_of (vec_items e.legs)) e.next bs) ea ∙ ap (λ t. read_node b (vec_len t) (arities_of (vec_items e.legs)) e.next bs) et ∙ ap (λ l. read_node b (vec_len d.types) (arities_of (vec_items l)) e.next bs) el) ∙ h

pub entry_same : (ts us : List Shape) (a b : ℕ) (bs : List ℕ) (g : Got Shape) → ts ≡ us → a ≡ b → read_entry a ts bs ≡ g → read_entry b us bs ≡ g
entry_same ts us a b bs g et ea h = sym (ap (λ x. read_entry x ts bs) ea ∙ ap (λ t. read_entry b t bs) et) ∙ h

pub leg_same : (s : Before) (a b t u : ℕ) (bs : List ℕ) (g : Got Leg) → a ≡ b → t ≡ u → read_leg a t s bs ≡ g → read_leg b u s bs ≡ g
leg_same s a b t u bs g ea et h = sym (ap (λ x. read_leg x t s bs) ea ∙ ap (λ x. read_leg b x s bs) et) ∙ h

pub leg_read_same : (a b t u : ℕ) (gs : List FlatLeg) (k : ℕ) (bs : List ℕ) (before after : List Row) (g : FlatLeg) (next : ℕ) (rest : List ℕ) → a ≡ b → t ≡ u → LegRead a t gs k bs before after g next rest → LegRead b u gs k bs before after g next rest
leg_read_same a b t u gs k bs before after g next rest ea et h = subst (λ x. LegRead b x gs k bs before after g next rest) et (subst (λ x. LegRead x t gs k bs before after g next rest) ea h)
