-- What the reader's functions answer, beside what is defined. Assumes nothing.
use Rattle.std.specs.Prelude.{◌≡◌, ℕ, ◌-◌, ◌<◌, ◌≤◌, List, [], ◌∷◌, ◌++◌, length, drop, Ok, Err, Result, Option as Maybe, ◌≢◌, vec_items, vec_len}
use Rattle.plan.specs.declared.faults.ReadFault.{ReadFault}
use Rattle.plan.specs.declared.faults.ReadFault.TheVariants.{Cut}
use Rattle.plan.specs.declared.faults.PlanFault.{PlanFault}
use Rattle.plan.specs.declared.faults.PlanFault.TheVariants.{Read, Typing, Memory}
use Rattle.plan.specs.declared.Plan.{Plan as FlatPlan}
use Rattle.plan.specs.declared.Leg.{Leg as FlatLeg}
use Rattle.plan.specs.declared.Row.{Row}
use Rattle.plan.specs.declared.Node.{Node}
use Rattle.plan.specs.declared.kinds.NodeKind.{NodeKind}
use Rattle.plan.specs.Params.{Params}
use Rattle.plan.specs.declared.Type.{«Type» as Shape}
use Rattle.reader.specs.declared.input.Input.{Input}
use Rattle.reader.specs.declared.draft.Draft.{Draft}
use Rattle.reader.specs.Reading.{Got, not_zero, many, read_head, node_of, read_node, read_params, read_leg, read_legs, read}
use Rattle.plan.specs.Kinds.{number_of}
use Rattle.plan.specs.Written.{with_node, binders_in, built_in, Before, with_leg}
use Rattle.plan.specs.Table.{nodes_of, term_at, Standing, InOrder}
use Rattle.plan.specs.Plans.{params_of, leg_in, legs_in, plan_in, tree, Sound}

-- The code's answer is the definition's, at what was left of the input and what is left then.
abbrev pub Reads : {X : Type 0} → (ℕ → List ℕ → Got X) → Input → Input → Result X ReadFault → Type 0
Reads P before after (Ok x) = (P before.all before.rest.now ≡ Ok (x, after.rest.now)) × (after.all ≡ before.all)
Reads P before after (Err e) = P before.all before.rest.now ≡ Err e

abbrev pub first_byte : ℕ → List ℕ → Got ℕ
first_byte all [] = Err (Cut all)
first_byte all (b ∷ bs) = Ok (b, bs)

abbrev pub FieldRead : NodeKind → ℕ → List ℕ → Input → Input → Result (NodeKind × ℕ) ReadFault → Type 0
FieldRead k v rest before after (Ok p) =
    (not_zero (before.all - length before.rest.now) (number_of k) v rest ≡ Ok (number_of p.0, p.1, after.rest.now)) × (p.0 ≡ k) × (p.1 ≡ v) × (after.rest.now ≡ rest) × (after.all ≡ before.all)
FieldRead k v rest before after (Err e) = not_zero (before.all - length before.rest.now) (number_of k) v rest ≡ Err e

abbrev pub HeadRead : Input → Input → Result (NodeKind × ℕ) ReadFault → Type 0
HeadRead before after (Ok p) =
    (read_head before.all before.rest.now ≡ Ok (number_of p.0, p.1, after.rest.now)) × (after.all ≡ before.all) × (length after.rest.now < length before.rest.now) × ((number_of p.0 ≢ 1) → p.1 < 256)
HeadRead before after (Err e) = read_head before.all before.rest.now ≡ Err e

abbrev pub arities_of : List FlatLeg → List ℕ
arities_of [] = []
arities_of (g ∷ gs) = length (params_of g) ∷ arities_of gs

-- A draft in which nothing is read.
pub record Empty (d : Draft) : Type 0 where
  pub types : vec_items d.types ≡ []
  pub legs : vec_items d.legs ≡ []
  pub nodes : vec_items d.nodes ≡ []
  pub binders : d.next ≡ 0

-- The node of a kind and a value, or of the input, behind what a draft has.
abbrev pub kinded_in : Draft → ℕ → ℕ → Maybe Node
kinded_in d kind value = node_of (vec_len d.types) (arities_of (vec_items d.legs)) d.next kind value

abbrev pub node_in : Draft → ℕ → List ℕ → Got Node
node_in d all bs = read_node all (vec_len d.types) (arities_of (vec_items d.legs)) d.next bs

abbrev pub nodes_in : ℕ → Draft → ℕ → List ℕ → Got (List Node)
nodes_in count d all bs = many with_node (read_node all (vec_len d.types) (arities_of (vec_items d.legs))) count d.next bs

-- Nodes read onto others.
abbrev pub NodesRead : ℕ → Draft → Draft → Input → Input → Result (Unit {0}) ReadFault → Type 0
NodesRead count d e before after (Ok u) =
    (new : List Row) × (vec_items e.nodes ≡ vec_items d.nodes ++ new)
    × (nodes_in count d before.all before.rest.now ≡ Ok (nodes_of new, after.rest.now))
    × (e.next ≡ binders_in d.next (nodes_of new)) × (length new ≡ count) × (after.all ≡ before.all) × (e.types ≡ d.types) × (e.legs ≡ d.legs)
NodesRead count d e before after (Err f) = nodes_in count d before.all before.rest.now ≡ Err f

-- what reading types leaves alone
abbrev pub OnlyTypes : Draft → Draft → Type 0
OnlyTypes d e = (e.legs ≡ d.legs) × (e.nodes ≡ d.nodes) × (e.next ≡ d.next)

abbrev pub TypesRead : (ℕ → List ℕ → Got (List Shape)) → Draft → Draft → Input → Input → Result (Unit {0}) ReadFault → Type 0
TypesRead P d e before after (Ok u) = (es : List Shape) × (vec_items e.types ≡ built_in ++ es) × (P before.all before.rest.now ≡ Ok (es, after.rest.now)) × (after.all ≡ before.all) × OnlyTypes d e
TypesRead P d e before after (Err f) = P before.all before.rest.now ≡ Err f

abbrev pub ParamsRead : ℕ → Input → Input → Result Params ReadFault → Type 0
ParamsRead types before after (Ok ps) = (read_params before.all types before.rest.now ≡ Ok (ps.items, after.rest.now)) × (after.all ≡ before.all) × (length ps.items ≤ 8)
ParamsRead types before after (Err e) = read_params before.all types before.rest.now ≡ Err e

abbrev pub before_of : List FlatLeg → ℕ → List Row → Before
before_of gs binder ns = record { arities = arities_of gs; next = binder; used = length ns }

-- A leg read onto the nodes of those before it.
pub record LegRead (all types : ℕ) (gs : List FlatLeg) (binder : ℕ) (bs : List ℕ) (before after : List Row) (g : FlatLeg) (next : ℕ) (rest : List ℕ) : Type 0 where
  pub is : read_leg all types (before_of gs binder before) bs ≡ Ok (leg_in after g, rest)
  pub next_is : next ≡ (with_leg (before_of gs binder before) (leg_in after g)).next
  pub few : length (params_of g) ≤ 8
  pub first_is : g.first ≡ length before
  pub stands : Standing 0 after
  pub longer : length after ≡ (with_leg (before_of gs binder before) (leg_in after g)).used
  pub kept : (i : ℕ) → i < length before → term_at after i ≡ term_at before i

abbrev pub OneLegRead : Draft → Draft → Input → Input → Result FlatLeg ReadFault → Type 0
OneLegRead d e before after (Ok g) =
    LegRead before.all (vec_len d.types) (vec_items d.legs) d.next before.rest.now (vec_items d.nodes) (vec_items e.nodes) g e.next after.rest.now × (after.all ≡ before.all) × (e.types ≡ d.types) × (e.legs ≡ d.legs)
OneLegRead d e before after (Err f) = read_leg before.all (vec_len d.types) (before_of (vec_items d.legs) d.next (vec_items d.nodes)) before.rest.now ≡ Err f

abbrev pub LegsRead : Draft → Draft → Input → Input → Result (Unit {0}) ReadFault → Type 0
LegsRead d e before after (Ok u) =
    (read_legs before.all (vec_len d.types) before.rest.now ≡ Ok (legs_in (vec_items e.nodes) (vec_items e.legs), after.rest.now)) × Standing 0 (vec_items e.nodes) × InOrder 0 (vec_items e.nodes) (vec_items e.legs) × (after.all ≡ before.all) × (e.types ≡ d.types)
LegsRead d e before after (Err f) = read_legs before.all (vec_len d.types) before.rest.now ≡ Err f

abbrev pub PlanRead : List ℕ → Draft → Result (Unit {0}) ReadFault → Type 0
PlanRead bs d (Ok u) =
    (read bs ≡ Ok (plan_in (vec_items d.types) (vec_items d.legs) (vec_items d.nodes))) × Standing 0 (vec_items d.nodes) × InOrder 0 (vec_items d.nodes) (vec_items d.legs) × (vec_items d.types ≡ built_in ++ drop 3 (vec_items d.types))
PlanRead bs d (Err f) = read bs ≡ Err f

-- The plan read, or the first fault. Want of memory says nothing about the bytes, and reading finds no fault of types.
abbrev pub ReadAnswer : List ℕ → Result FlatPlan PlanFault → Type 0
ReadAnswer bs (Ok p) = (read bs ≡ Ok (tree p)) × Sound p
ReadAnswer bs (Err (Read e)) = read bs ≡ Err e
ReadAnswer bs (Err (Typing e)) = ⊥
ReadAnswer bs (Err Memory) = Unit {0}
