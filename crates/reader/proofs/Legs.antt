-- A leg, from its parts. Assumes nothing.
use Rattle.std.proofs.Common.{◌≡◌, ℕ, ◌+◌, ◌-◌, ◌*◌, ◌<◌, ◌≤◌, Bool, true, false, List, [], ◌∷◌, ◌++◌, length, drop, Ok, Err, sym, refl, ap, ◌∙◌, subst, ap₂, arith, length-append}
use mathlib.Core.Option.{some, none}
use Rattle.std.proofs.lemmas.List.{drop_at, get_or_append_left}
use Rattle.plan.specs.declared.faults.ReadFault.TheVariants.{Shape as NotOne}
use Rattle.plan.specs.declared.Node.{Node}
use Rattle.plan.specs.declared.Row.{Row}
use Rattle.plan.specs.declared.Leg.{Leg as FlatLeg}
use Rattle.plan.specs.Trees.{Term, Leg, Stack, stack, flat}
use Rattle.plan.specs.declared.TypeId.{TypeId}
use Rattle.plan.specs.Kinds.{binders}
use Rattle.plan.specs.Written.{with_node, binders_in, with_leg}
use Rattle.plan.specs.declared.Node.TheVariants.{Unit as Unit', Number, Name, Let, Take, Pair, Split, Left, Right, Case, Call, Add, Less}
use Rattle.plan.specs.Table.{nodes_of, top, term_at, no_row, node_size, Standing, InOrder, is_one, Closed}
use Rattle.reader.specs.Reading.{Got, then_read, many, read_params, read_type, read_count, read_node, read_body, read_leg, single}
use Rattle.plan.specs.Plans.{params_of, leg_in, legs_in}
use Rattle.reader.specs.Replies.{arities_of, before_of, LegRead}
use Rattle.plan.proofs.Stacks.{one_back_flat}
use Rattle.plan.proofs.Ends.{nodes_length}
use Rattle.plan.proofs.More.{trees_kept, standing_more}
use Rattle.plan.proofs.Plans.{nodes_append}

single_fails : (at : ℕ) (s : Stack) (r : List ℕ) → is_one s ≡ false → single at s r ≡ Err (NotOne at)
single_fails at none r e = refl
single_fails at (some []) r e = refl
single_fails at (some (t ∷ [])) r e = cc
single_fails at (some (t ∷ u ∷ ts)) r e = refl

single_gives : (at : ℕ) (s : Stack) (r : List ℕ) → is_one s ≡ true → (single at s r ≡ Ok (top s, r)) × (s ≡ some (top s ∷ []))
single_gives at none r e = cc
single_gives at (some []) r e = cc
single_gives at (some (t ∷ [])) r e = (refl, refl)
single_gives at (some (t ∷ u ∷ ts)) r e = cc

module _ (all types : ℕ) (gs : List FlatLeg) (binder : ℕ) (before new : List Row) (bs r1 r2 r3 r4 : List ℕ) (ps : List TypeId) (k : ℕ) (y : TypeId) (n : ℕ)
    (all1 all2 all3 types0 first : ℕ) (q1 : all1 ≡ all) (q2 : all2 ≡ all1) (q3 : all3 ≡ all2) (qt : types0 ≡ types) (qf : first ≡ length before) (ek : k ≡ length ps)
    (e1 : read_params all types0 bs ≡ Ok (ps, r1)) (e2 : read_type all1 types0 r1 ≡ Ok (y, r2)) (e3 : read_count all2 first r2 ≡ Ok (n, r3))
    (e4 : many with_node (read_node all3 types (arities_of gs)) n (binder + k) r3 ≡ Ok (nodes_of new, r4)) where
  then_params : read_params all types bs ≡ Ok (ps, r1)
  then_params = subst (λ t. read_params all t bs ≡ Ok (ps, r1)) qt e1

  then_type : read_type all types r1 ≡ Ok (y, r2)
  then_type = subst (λ a. read_type a types r1 ≡ Ok (y, r2)) q1 (subst (λ t. read_type all1 t r1 ≡ Ok (y, r2)) qt e2)

  then_count : read_count all (length before) r2 ≡ Ok (n, r3)
  then_count = subst (λ a. read_count a (length before) r2 ≡ Ok (n, r3)) (q2 ∙ q1) (subst (λ u. read_count all2 u r2 ≡ Ok (n, r3)) qf e3)

  then_nodes : many with_node (read_node all types (arities_of gs)) n (binder + k) r3 ≡ Ok (nodes_of new, r4)
  then_nodes = subst (λ a. many with_node (read_node a types (arities_of gs)) n (binder + k) r3 ≡ Ok (nodes_of new, r4)) (q3 ∙ q2 ∙ q1) e4

  abbrev made : Term → List ℕ → Got Leg
  made t r = Ok (record { params = ps; result = y; first = binder; body = t }, r)

  body_is : read_body all types (before_of gs binder before) (binder + length ps) r2 ≡ single (all - length r2) (stack (nodes_of new)) r4
  body_is =
      ap (λ g. then_read g (λ n r. then_read (many with_node (read_node all types (arities_of gs)) n (binder + length ps) r) (λ os r'. single (all - length r2) (stack os) r'))) then_count
      ∙ ap (λ g. then_read g (λ os r'. single (all - length r2) (stack os) r')) (ap (λ j. many with_node (read_node all types (arities_of gs)) n (binder + j) r3) (sym ek) ∙ then_nodes)

  leg_is : read_leg all types (before_of gs binder before) bs ≡ then_read (single (all - length r2) (stack (nodes_of new)) r4) made
  leg_is =
      ap (λ g. then_read g (λ ps r. then_read (read_type all types r) (λ y r'. then_read (read_body all types (before_of gs binder before) (binder + length ps) r') (λ t r''. Ok (record { params = ps; result = y; first = binder; body = t }, r''))))) then_params
      ∙ ap (λ g. then_read g (λ y r'. then_read (read_body all types (before_of gs binder before) (binder + length ps) r') (λ t r''. Ok (record { params = ps; result = y; first = binder; body = t }, r'')))) then_type
      ∙ ap (λ g. then_read g made) body_is

  behind_is : drop (length before) (nodes_of (before ++ new)) ≡ nodes_of new
  behind_is = ap (drop (length before)) (nodes_append before new) ∙ drop_at (nodes_of before) (nodes_of new) (length before) (nodes_length before)

  whole : (between after : List Row) (r : Bool) → between ≡ before ++ new → Closed first between after r → Closed (length before) (before ++ new) after r
  whole between after r e c = subst (λ b. Closed (length before) b after r) e (subst (λ f. Closed f between after r) qf c)

  pub leg_fails : (between after : List Row) (r : Bool) (at : ℕ) → r ≡ false → between ≡ before ++ new → Closed first between after r → at ≡ all2 - length r2
      → read_leg all types (before_of gs binder before) bs ≡ Err (NotOne at)
  leg_fails between after r at q e c p =
      let one = (whole between after r e c).one in
      leg_is ∙ ap (λ g. then_read g made) (single_fails (all - length r2) (stack (nodes_of new)) r4 (ap (λ os. is_one (stack os)) (sym behind_is) ∙ sym one ∙ q))
      ∙ ap (λ x. Err (NotOne x)) (ap (λ a. a - length r2) (sym (q2 ∙ q1)) ∙ sym p)

  pub leg_made : (between after : List Row) (r : Bool) (g : FlatLeg) (next : ℕ) → r ≡ true → between ≡ before ++ new → Closed first between after r → Standing 0 before
      → params_of g ≡ ps → g.result ≡ y → g.binder.index ≡ binder → k ≤ 8 → g.first ≡ first → next ≡ binders_in (binder + k) (nodes_of new)
      → LegRead all types gs binder bs before after g next r4
  leg_made between after r g next q e cl s ep ey eb few eg en =
      let c = whole between after r e cl in
      let ef = eg ∙ qf in
      let one : is_one (stack (nodes_of new)) ≡ true = ap (λ os. is_one (stack os)) (sym behind_is) ∙ sym c.one ∙ q in
      let w = single_gives (all - length r2) (stack (nodes_of new)) r4 one in
      let t = top (stack (nodes_of new)) in
      let candidates : nodes_of after ≡ nodes_of before ++ nodes_of new = c.same_nodes ∙ nodes_append before new in
      let tree : term_at after g.first ≡ t = ap (term_at after) ef ∙ ap (λ os. top (stack (drop (length before) os))) c.same_nodes ∙ ap (λ os. top (stack os)) behind_is in
      let flat_is : nodes_of new ≡ flat t = one_back_flat (nodes_of new) t w.1 in
      let kept = λ (i : ℕ) (lt : i < length before). c.kept i lt ∙ get_or_append_left before new no_row i lt in
      let st = c.stands q in
      let flat_in : flat (term_at after g.first) ≡ nodes_of new = ap flat tree ∙ sym flat_is in
      let lens : length after ≡ length before + length (nodes_of new) = sym (nodes_length after) ∙ ap length candidates ∙ length-append (nodes_of before) (nodes_of new) ∙ ap (λ m. m + length (nodes_of new)) (nodes_length before) in
      record {
        is = leg_is ∙ ap (λ h. then_read h made) w.0 ∙ (let z : made t r4 ≡ Ok (leg_in after g, r4) = made_is t (sym tree) in z);
        next_is = en ∙ ap₂ (λ m os. binders_in (binder + m) os) (ek ∙ ap length (sym ep)) (sym flat_in);
        few = subst (λ m. m ≤ 8) (ek ∙ ap length (sym ep)) few;
        first_is = ef;
        stands = standing_more before after (nodes_of new) s st candidates kept;
        longer = lens ∙ ap (λ os. length before + length os) (sym flat_in);
        kept = trees_kept before after (nodes_of new) s st candidates kept;
      }
    where
      made_is : (t : Term) → t ≡ term_at after g.first → made t r4 ≡ Ok (leg_in after g, r4)
      made_is t e =
          ap (λ p. Ok (record { params = p; result = y; first = binder; body = t }, r4)) (sym ep)
          ∙ ap (λ z. Ok (record { params = params_of g; result = z; first = binder; body = t }, r4)) (sym ey)
          ∙ ap (λ z. Ok (record { params = params_of g; result = g.result; first = z; body = t }, r4)) (sym eb)
          ∙ ap (λ z. Ok (record { params = params_of g; result = g.result; first = g.binder.index; body = z }, r4)) e

pub legs_kept : (p : ℕ) (before after : List Row) (gs : List FlatLeg) → InOrder p before gs → ((i : ℕ) → i < length before → term_at after i ≡ term_at before i) → legs_in after gs ≡ legs_in before gs
legs_kept p before after [] b k = refl
legs_kept p before after (g ∷ gs) b k =
    ap₂ (λ t l. record { params = params_of g; result = g.result; first = g.binder.index; body = t } ∷ l) (k g.first (subst (λ x. x < length before) (sym b.0) b.1))
    (legs_kept (p + node_size (term_at before p)) before after gs b.3 k)

pub order_push : (p : ℕ) (before after : List Row) (gs : List FlatLeg) (g : FlatLeg) → ((i : ℕ) → i < length before → term_at after i ≡ term_at before i) → InOrder p before gs
    → g.first ≡ length before → length (params_of g) ≤ 8 → length before < length after → length after ≡ length before + node_size (term_at after (length before)) → InOrder p after (gs ++ (g ∷ []))
order_push p before after [] g k b first few more size =
    (first ∙ sym b, subst (λ x. x < length after) (sym b) more, few, ap (λ x. x + node_size (term_at after x)) b ∙ sym size)
order_push p before after (h ∷ gs) g k b first few more size =
    let lt = b.1 in (
      b.0,
      omega arith,
      b.2,
      subst (λ t. InOrder (p + node_size t) after (gs ++ (g ∷ []))) (sym (k p lt)) (order_push (p + node_size (term_at before p)) before after gs g k b.3 first few more size),
    )

arities_push : (gs : List FlatLeg) (g : FlatLeg) → arities_of (gs ++ (g ∷ [])) ≡ arities_of gs ++ (length (params_of g) ∷ [])
arities_push [] g = refl
arities_push (h ∷ gs) g = ap (λ l. length (params_of h) ∷ l) (arities_push gs g)

-- the state after a leg
pub state_next : (gs : List FlatLeg) (binder : ℕ) (before after : List Row) (g : FlatLeg) (next : ℕ) → next ≡ (with_leg (before_of gs binder before) (leg_in after g)).next
    → length after ≡ (with_leg (before_of gs binder before) (leg_in after g)).used → with_leg (before_of gs binder before) (leg_in after g) ≡ before_of (gs ++ (g ∷ [])) next after
state_next gs binder before after g next en el =
    ap (λ a. record { arities = a; next = (with_leg (before_of gs binder before) (leg_in after g)).next; used = (with_leg (before_of gs binder before) (leg_in after g)).used }) (sym (arities_push gs g))
    ∙ ap₂ (λ n u. record { arities = arities_of (gs ++ (g ∷ [])); next = n; used = u }) (sym en) (sym el)

binders_few : (o : Node) → binders o ≤ 2
binders_few Unit' = omega arith
binders_few (Number v) = omega arith
binders_few (Name l) = omega arith
binders_few (Let k) = omega arith
binders_few (Take k) = omega arith
binders_few Pair = omega arith
binders_few (Split k) = omega arith
binders_few (Left y) = omega arith
binders_few (Right y) = omega arith
binders_few (Case k) = omega arith
binders_few (Call l n) = omega arith
binders_few Add = omega arith
binders_few Less = omega arith

pub binders_bound : (k : ℕ) (os : List Node) → binders_in k os ≤ k + 2 * length os
binders_bound k [] = omega arith
binders_bound k (o ∷ os) = let f = binders_few o in let h = binders_bound (with_node k o) os in omega arith
