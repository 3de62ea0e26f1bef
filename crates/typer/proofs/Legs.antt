-- Legs, one after another. Assumes nothing.
use Rattle.std.proofs.Common.{◌≡◌, ℕ, zero, suc, ◌+◌, ◌<◌, ◌≤◌, cond, ◌&&◌, List, [], ◌∷◌, ◌++◌, map, length, get_or, drop, Ok, Err, sym, refl, ap, ◌∙◌, subst, ap₂, append_assoc, append-nil, arith, length-append}
use mathlib.Core.List.{reverse_aux}
use Rattle.std.proofs.lemmas.List.{drop_more}
use Rattle.std.specs.List.{list_all}
use Rattle.plan.specs.declared.TypeId.{TypeId}
use Rattle.plan.specs.declared.Plan.{Plan as FlatPlan}
use Rattle.plan.specs.declared.Leg.{Leg as FlatLeg}
use Rattle.plan.specs.declared.Row.{Row}
use Rattle.plan.specs.declared.Node.{Node}
use Rattle.plan.specs.declared.Node.TheVariants.{Unit as Unit', Number, Name, Let, Take, Pair, Split, Left, Right, Case, Call, Add, Less}
use Rattle.plan.specs.declared.faults.TypeFault.{TypeFault}
use Rattle.plan.specs.declared.faults.TypeFault.TheVariants.{«Type» as BadType}
use Rattle.plan.specs.Kinds.{kids_of}
use Rattle.plan.specs.Limits.{max_params}
use Rattle.plan.specs.Trees.{Leg, flat}
use Rattle.plan.specs.Written.{Run, with_node, with_leg, NodeLaid, LegLaid, Before, built_in, none_before}
use Rattle.plan.specs.Table.{term_at, node_size, InOrder}
use Rattle.plan.specs.Plans.{params_of, leg_in, legs_in, tree, Sound}
use Rattle.typer.specs.Typing.{World, Reached, then_type, if_same, same_id, numbers, check, check_leg, check_legs, check_plan, sig_of, scope_on, number_type}
use Rattle.typer.specs.Walk.{scope_of, sigs_of, world_in, deals_in_numbers}
use Rattle.typer.specs.Levels.{levels, leg_levels}
use Rattle.typer.specs.Depths.{FewKids, BodiesFew}
use Rattle.typer.proofs.Views.{levels_length}

scope_turned : (Γ ps : List TypeId) → scope_on Γ ps ≡ reverse_aux ps Γ
scope_turned Γ [] = refl
scope_turned Γ (p ∷ ps) = scope_turned (p ∷ Γ) ps

-- a leg's check from that of its body, as the code makes it
pub leg_checked : (w : World) (ns : List Row) (g : FlatLeg) (i : ℕ) (ys : List TypeId) (r : Reached TypeId) → i ≡ g.first → ys ≡ params_of g → r ≡ check w (scope_of ys) i (term_at ns i)
    → check_leg w g.first (leg_in ns g) ≡ then_type r (λ y. if_same g.first y g.result (Ok tt))
leg_checked w ns g i ys r p e h =
    ap (λ q. then_type q (λ y. if_same g.first y g.result (Ok tt))) (ap (λ Γ. check w Γ g.first (term_at ns g.first)) (scope_turned [] (params_of g))
    ∙ sym (h ∙ ap₂ (λ zs j. check w (scope_of zs) j (term_at ns j)) e p))

all_numbers : (ps : List TypeId) → list_all (λ p. same_id p number_type) ps ≡ numbers ps
all_numbers [] = refl
all_numbers (p ∷ ps) = ap (λ b. same_id p number_type && b) (all_numbers ps)

-- ---- what holds of the legs of a read plan

few_node : (types : ℕ) (arities : List ℕ) (k : ℕ) (o : Node) → ((l : ℕ) → get_or arities l 0 ≤ max_params) → NodeLaid types arities k o → kids_of o ≤ max_params
few_node types arities k Unit' h l = omega arith
few_node types arities k (Number v) h l = omega arith
few_node types arities k (Name x) h l = omega arith
few_node types arities k (Let b) h l = omega arith
few_node types arities k (Take b) h l = omega arith
few_node types arities k Pair h l = omega arith
few_node types arities k (Split b) h l = omega arith
few_node types arities k (Left y) h l = omega arith
few_node types arities k (Right y) h l = omega arith
few_node types arities k (Case b) h l = omega arith
few_node types arities k (Call g n) h l = let few = h g.index in let is = l.1 in omega arith
few_node types arities k Add h l = omega arith
few_node types arities k Less h l = omega arith

few_nodes : (types : ℕ) (arities : List ℕ) (k : ℕ) (os : List Node) → ((l : ℕ) → get_or arities l 0 ≤ max_params) → Run with_node (NodeLaid types arities) k os → FewKids os
few_nodes types arities k [] h r = tt
few_nodes types arities k (o ∷ os) h r = (few_node types arities k o h r.0, few_nodes types arities (with_node k o) os h r.1)

few_push : (arities : List ℕ) (n : ℕ) → n ≤ max_params → ((l : ℕ) → get_or arities l 0 ≤ max_params) → (l : ℕ) → get_or (arities ++ (n ∷ [])) l 0 ≤ max_params
few_push [] n le h zero = le
few_push [] n le h (suc l) = omega arith
few_push (a ∷ arities) n le h zero = h 0
few_push (a ∷ arities) n le h (suc l) = few_push arities n le (λ j. h (suc j)) l

pub bodies_few : (types : ℕ) (s : Before) (gs : List Leg) → ((l : ℕ) → get_or s.arities l 0 ≤ max_params) → Run with_leg (LegLaid types) s gs → BodiesFew gs
bodies_few types s [] h r = tt
bodies_few types s (g ∷ gs) h r = (
  few_nodes types s.arities (s.next + length g.params) (flat g.body) h r.0.nodes_laid,
  bodies_few types (with_leg s g) gs (few_push s.arities (length g.params) r.0.few_params h) r.1,
)

pub sigs_are : (ns : List Row) (gs : List FlatLeg) → map sig_of (legs_in ns gs) ≡ sigs_of gs
sigs_are ns [] = refl
sigs_are ns (g ∷ gs) = ap (λ l. record { params = params_of g; result = g.result } ∷ l) (sigs_are ns gs)

module _ (p : FlatPlan) (s : Sound p) where
  pub few_types : length p.types.items ≤ 32
  few_types =
      let built = ap length s.built ∙ length-append built_in (drop 3 p.types.items) in
      let few = s.laid.few_entries in
      omega arith

  pub few_kids : BodiesFew (legs_in p.nodes.items p.legs.items)
  few_kids = bodies_few (3 + length (tree p).entries) none_before (tree p).legs (λ l. omega arith) s.laid.legs_laid

  pub checks_are : check_plan (tree p) ≡ check_legs (world_in p) 0 (legs_in p.nodes.items p.legs.items)
  checks_are = ap (λ w. check_legs w 0 (tree p).legs) (ap₂ (λ t g. record { types = t; sigs = g }) (sym s.built) (sigs_are p.nodes.items p.legs.items))

-- ---- the walk from leg to leg

not_main : (w : World) (ns : List Row) (i : ℕ) (g : FlatLeg) (lower : List FlatLeg) (main : FlatLeg)
    → check_legs w i (leg_in ns g ∷ legs_in ns (lower ++ main ∷ [])) ≡ then_type (check_leg w i (leg_in ns g)) (λ u. check_legs w (i + node_size (term_at ns g.first)) (legs_in ns (lower ++ main ∷ [])))
not_main w ns i g [] main = refl
not_main w ns i g (h ∷ hs) main = refl

pub next_of : (lower : List FlatLeg) (k : ℕ) (g main : FlatLeg) → k < length lower → g ≡ get_or lower k g → drop k lower ++ main ∷ [] ≡ g ∷ (drop (k + 1) lower ++ main ∷ [])
next_of lower k g main lt e = ap (λ l. l ++ main ∷ []) (drop_more lower k g lt ∙ ap (λ x. x ∷ drop (k + 1) lower) (sym e))

order_ends : (p : ℕ) (ns : List Row) (gs : List FlatLeg) → InOrder p ns gs → p ≤ length ns
order_ends p ns [] o = omega (arith, o)
order_ends p ns (g ∷ gs) o = let lt = o.1 in omega arith

module _ (w : World) (ns : List Row) (gs : List FlatLeg) where
  -- The legs before `rest` are done; `done` has the levels of their nodes.
  pub record AtLeg (rest : List FlatLeg) (done : List ℕ) : Type 0 where
    pub order : InOrder (length done) ns rest
    pub checks : check_legs w 0 (legs_in ns gs) ≡ check_legs w (length done) (legs_in ns rest)
    pub levels_are : leg_levels (legs_in ns gs) ≡ done ++ leg_levels (legs_in ns rest)
    pub few : BodiesFew (legs_in ns rest)

  pub first_leg : InOrder 0 ns gs → BodiesFew (legs_in ns gs) → AtLeg gs []
  first_leg o f = record { order = o; checks = refl; levels_are = refl; few = f }

  module _ (g : FlatLeg) (rest : List FlatLeg) (done : List ℕ) (h : AtLeg (g ∷ rest) done) where
    -- what typing the leg that is next asks
    pub first_is : g.first ≡ length done
    first_is = h.order.0

    pub within : g.first < length ns
    within = subst (λ p. p < length ns) (sym first_is) h.order.1

    pub fits : length done + node_size (term_at ns g.first) ≤ length ns
    fits = subst (λ p. length done + node_size (term_at ns p) ≤ length ns) (sym first_is) (order_ends _ ns rest h.order.3)

    pub few_here : FewKids (flat (term_at ns g.first))
    few_here = h.few.0

    checks_here : check_legs w 0 (legs_in ns gs) ≡ check_legs w g.first (leg_in ns g ∷ legs_in ns rest)
    checks_here = h.checks ∙ ap (λ p. check_legs w p (leg_in ns g ∷ legs_in ns rest)) (sym first_is)

    next_levels : (later : List ℕ) → later ≡ done ++ levels (length (params_of g)) (term_at ns g.first) → leg_levels (legs_in ns gs) ≡ later ++ leg_levels (legs_in ns rest)
    next_levels later l = h.levels_are ∙ sym (append_assoc done (levels (length (params_of g)) (term_at ns g.first)) (leg_levels (legs_in ns rest))) ∙ ap (λ d. d ++ leg_levels (legs_in ns rest)) (sym l)

  -- main is behind it
  module _ (g : FlatLeg) (lower : List FlatLeg) (main : FlatLeg) (done : List ℕ) (h : AtLeg (g ∷ (lower ++ main ∷ [])) done) where
    checks_lower : check_legs w 0 (legs_in ns gs) ≡ then_type (check_leg w g.first (leg_in ns g)) (λ u. check_legs w (g.first + node_size (term_at ns g.first)) (legs_in ns (lower ++ main ∷ [])))
    checks_lower = checks_here g (lower ++ main ∷ []) done h ∙ not_main w ns g.first g lower main

    pub lower_fails : (f : TypeFault) → check_leg w g.first (leg_in ns g) ≡ Err f → check_legs w 0 (legs_in ns gs) ≡ Err f
    lower_fails f e = checks_lower ∙ ap (λ r. then_type r (λ u. check_legs w (g.first + node_size (term_at ns g.first)) (legs_in ns (lower ++ main ∷ [])))) e

    pub next_leg : (later : List ℕ) → check_leg w g.first (leg_in ns g) ≡ Ok tt → later ≡ done ++ levels (length (params_of g)) (term_at ns g.first) → AtLeg (lower ++ main ∷ []) later
    next_leg later e l =
        let first = first_is g (lower ++ main ∷ []) done h in
        let longer : length later ≡ g.first + node_size (term_at ns g.first) =
        ap length l ∙ length-append done (levels (length (params_of g)) (term_at ns g.first)) ∙ ap₂ (λ m n. m + n) (sym first) (levels_length (length (params_of g)) (term_at ns g.first)) in
        record {
          order = subst (λ p. InOrder p ns (lower ++ main ∷ [])) (ap (λ p. p + node_size (term_at ns p)) (sym first) ∙ sym longer) h.order.3;
          checks =
              checks_lower ∙ ap (λ r. then_type r (λ u. check_legs w (g.first + node_size (term_at ns g.first)) (legs_in ns (lower ++ main ∷ [])))) e
              ∙ ap (λ p. check_legs w p (legs_in ns (lower ++ main ∷ []))) (sym longer);
          levels_are = next_levels g (lower ++ main ∷ []) done h later l;
          few = h.few.1;
        }

  -- it is main
  module _ (g : FlatLeg) (done : List ℕ) (a : AtLeg (g ∷ []) done) where
    pub main_is : check_legs w 0 (legs_in ns gs) ≡ cond (deals_in_numbers (params_of g) g.result) (check_leg w g.first (leg_in ns g)) (Err (BadType g.first))
    main_is = checks_here g [] done a ∙ ap (λ b. cond (b && same_id g.result number_type) (check_leg w g.first (leg_in ns g)) (Err (BadType g.first))) (sym (all_numbers (params_of g)))

    pub main_levels : (later : List ℕ) → later ≡ done ++ levels (length (params_of g)) (term_at ns g.first) → later ≡ leg_levels (legs_in ns gs)
    main_levels later l = sym (next_levels g [] done a later l ∙ append-nil later)
