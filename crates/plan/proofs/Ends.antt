-- Places in a table of nodes. Assumes nothing.
use Rattle.std.proofs.Common.{◌≡◌, ℕ, zero, suc, ◌+◌, ◌-◌, ◌<◌, ◌≤◌, Bool, false, eqb, ◌⊎◌, List, [], ◌∷◌, ◌++◌, length, drop, set, Some, None, Option as Maybe, sym, refl, ap, ◌∙◌, subst, ap₂, inl, inr, append-nil, arith, length-append, length-drop, eq-eqb, ne_eqb}
use mathlib.Core.Option.{some, none, some-injective}
use lib.Arith.{lt_of_le-ne}
use Rattle.std.proofs.lemmas.Bool.{cases_eq}
use Rattle.std.proofs.lemmas.List.{drop_at, drop_all, drop-drop, length-set, get_or-set_same, get_or-set_other}
use Rattle.plan.specs.declared.Node.{Node}
use Rattle.plan.specs.declared.Node.TheVariants.{Unit as Unit', Number, Name, Let, Take, Pair, Split, Left, Right, Case, Call, Add, Less}
use Rattle.plan.specs.declared.Row.{Row}
use Rattle.plan.specs.Trees.{Term, t_unit, t_number, t_name, t_let, t_take, t_pair, t_split, t_left, t_right, t_case, t_call, t_add, t_less, Terms, t_none, t_more, flat, flats, stack, on, on_some, one, two, three, taken, more_taken, called}
use Rattle.plan.specs.Table.{nodes_of, top, term_at, no_row, row_at, node_size, skipped, Ended, Whole, Standing, is_one, Closed}
use Rattle.plan.specs.declared.LegId.{LegId}
use Rattle.plan.specs.Kinds.{kids_of}
use Rattle.plan.specs.Written.{with_node, binders_in}
use Rattle.plan.proofs.Stacks.{flat_all, stack_all, stack_back, stack_one}

pub nodes_length : (ns : List Row) → length (nodes_of ns) ≡ length ns
nodes_length [] = refl
nodes_length (n ∷ ns) = ap suc (nodes_length ns)

pub drop_nodes : (ns : List Row) (i : ℕ) → i < length ns → drop i (nodes_of ns) ≡ (row_at ns i).node ∷ drop (suc i) (nodes_of ns)
drop_nodes [] i h = absurd (omega arith)
drop_nodes (n ∷ ns) zero h = refl
drop_nodes (n ∷ ns) (suc i) h = drop_nodes ns i (omega arith)

pub stack_of_all : (ts : List Term) → stack (flat_all ts) ≡ some ts
stack_of_all ts = ap stack (sym (append-nil (flat_all ts))) ∙ stack_all ts [] [] refl ∙ ap some (append-nil ts)

pub some_nodes : (t : Term) → 1 ≤ node_size t
some_nodes t = go (flat t) (stack_one t)
  where
    go : (os : List Node) → stack os ≡ some (t ∷ []) → 1 ≤ length os
    go [] e = absurd (let q : [] ≡ t ∷ [] = some-injective [] (t ∷ []) e in let z : ◌≡◌ {A = ℕ} 0 1 = cc in omega arith)
    go (o ∷ os) e = omega arith

-- What stands at a place inside whole expressions.
pub record Here (ns : List Row) (p : ℕ) (us : List Term) : Type 0 where
  pub tree : Term
  pub rest : List Term
  pub is : us ≡ tree ∷ rest
  pub at_place : term_at ns p ≡ tree
  pub after : stack (drop (p + node_size tree) (nodes_of ns)) ≡ some rest
  pub inside : p + node_size tree + length (flat_all rest) ≡ length ns

pub here : (ns : List Row) (p : ℕ) (us : List Term) → p < length ns → stack (drop p (nodes_of ns)) ≡ some us → Here ns p us
here ns p [] lt e =
    let q = ap length (stack_back (drop p (nodes_of ns)) [] e) in
    let l = length-drop p (nodes_of ns) in
    let m = nodes_length ns in
    absurd (omega arith)
here ns p (t ∷ ts) lt e =
    let back = stack_back (drop p (nodes_of ns)) (t ∷ ts) e in
    let q = ap length back in
    let l = length-drop p (nodes_of ns) in
    let m = nodes_length ns in
    let s = length-append (flat t) (flat_all ts) in
    record {
      tree = t;
      rest = ts;
      is = refl;
      at_place = ap top e;
      after = ap stack (sym (drop-drop (node_size t) p (nodes_of ns)) ∙ ap (drop (node_size t)) back ∙ drop_at (flat t) (flat_all ts) (node_size t) refl) ∙ stack_of_all ts;
      inside = omega arith;
    }

pub past : (ns : List Row) (p : ℕ) (us : List Term) → length ns ≤ p → stack (drop p (nodes_of ns)) ≡ some us → us ≡ []
past ns p us le e =
    let m = nodes_length ns in
    let d : drop p (nodes_of ns) ≡ [] = drop_all p (nodes_of ns) (omega arith) in
    sym (some-injective [] us (sym (ap stack d) ∙ e))

-- one turn of a skip
abbrev pub Skips : List Row → ℕ → ℕ → ℕ → ℕ → Type 0
Skips ns at count place left =
    (ts : List Term) → stack (drop at (nodes_of ns)) ≡ some ts → (us : List Term) × (stack (drop place (nodes_of ns)) ≡ some us) × (skipped at count ts ≡ skipped place left us)

skipped_more : (at left : ℕ) (t : Term) (ts : List Term) → 0 < left → skipped at left (t ∷ ts) ≡ skipped (at + node_size t) (left - 1) ts
skipped_more at zero t ts h = absurd (omega arith)
skipped_more at (suc n) t ts h = let e : n ≡ suc n - 1 = omega arith in ap (λ m. skipped (at + node_size t) m ts) e

skipped_none : (at left : ℕ) → 0 < left → skipped at left [] ≡ None
skipped_none at zero h = absurd (omega arith)
skipped_none at (suc n) h = refl

pub skip_next : (ns : List Row) (at count place left : ℕ) → at ≤ place → place < length ns → 0 < left → Ended at ns → Skips ns at count place left
    → Skips ns at count (row_at ns place).end (left - 1)
skip_next ns at count place left le lt pos ended h ts e =
    let g = h ts e in
    let w = here ns place g.0 lt g.1 in
    let t = w.tree in
    let q : (row_at ns place).end ≡ place + node_size t = ended place le lt ∙ ap (λ x. place + node_size x) w.at_place in (
      w.rest,
      ap (λ p. stack (drop p (nodes_of ns))) q ∙ w.after,
      g.2 ∙ ap (skipped place left) w.is ∙ skipped_more place left t w.rest pos ∙ ap (λ p. skipped p (left - 1) w.rest) (sym q),
    )

pub skip_past : (ns : List Row) (at count place left : ℕ) → length ns ≤ place → 0 < left → Skips ns at count place left
    → (ts : List Term) → stack (drop at (nodes_of ns)) ≡ some ts → None ≡ skipped at count ts
skip_past ns at count place left le pos h ts e =
    let g = h ts e in
    sym (g.2 ∙ ap (skipped place left) (past ns place g.0 le g.1) ∙ skipped_none place left pos)

-- the node in front of expressions
pub record Made (node : Node) (ts : List Term) (at : ℕ) : Type 0 where
  pub tree : Term
  pub rest : List Term
  pub is : on node ts ≡ some (tree ∷ rest)
  pub ends : skipped (suc at) (kids_of node) ts ≡ Some (at + node_size tree)

abbrev pub Goes : Node → List Term → ℕ → Type 0
Goes node ts at = Made node ts at ⊎ ((on node ts ≡ none) × (skipped (suc at) (kids_of node) ts ≡ None))

one_goes : (node : Node) (f : Term → Term) (ts : List Term) (at : ℕ) → ((a : Term) → node_size (f a) ≡ suc (node_size a)) → on node ts ≡ one f ts → kids_of node ≡ 1 → Goes node ts at
one_goes node f [] at w e k = inr (e, ap (λ n. skipped (suc at) n []) k)
one_goes node f (a ∷ ts) at w e k =
    let s = w a in
    let p : suc at + node_size a ≡ at + node_size (f a) = omega arith in
    inl (record { tree = f a; rest = ts; is = e; ends = ap (λ n. skipped (suc at) n (a ∷ ts)) k ∙ ap Some p })

two_goes : (node : Node) (f : Term → Term → Term) (ts : List Term) (at : ℕ) → ((a b : Term) → flat (f a b) ≡ node ∷ (flat a ++ flat b)) → on node ts ≡ two f ts → kids_of node ≡ 2 → Goes node ts at
two_goes node f [] at w e k = inr (e, ap (λ n. skipped (suc at) n []) k)
two_goes node f (a ∷ []) at w e k = inr (e, ap (λ n. skipped (suc at) n (a ∷ [])) k)
two_goes node f (a ∷ b ∷ ts) at w e k =
    let s = ap length (w a b) in
    let l = length-append (flat a) (flat b) in
    let p : suc at + node_size a + node_size b ≡ at + node_size (f a b) = omega arith in
    inl (record { tree = f a b; rest = ts; is = e; ends = ap (λ n. skipped (suc at) n (a ∷ b ∷ ts)) k ∙ ap Some p })

three_goes : (node : Node) (f : Term → Term → Term → Term) (ts : List Term) (at : ℕ) → ((a b c : Term) → flat (f a b c) ≡ node ∷ (flat a ++ (flat b ++ flat c))) → on node ts ≡ three f ts → kids_of node ≡ 3 → Goes node ts at
three_goes node f [] at w e k = inr (e, ap (λ n. skipped (suc at) n []) k)
three_goes node f (a ∷ []) at w e k = inr (e, ap (λ n. skipped (suc at) n (a ∷ [])) k)
three_goes node f (a ∷ b ∷ []) at w e k = inr (e, ap (λ n. skipped (suc at) n (a ∷ b ∷ [])) k)
three_goes node f (a ∷ b ∷ c ∷ ts) at w e k =
    let s = ap length (w a b c) in
    let l = length-append (flat a) (flat b ++ flat c) in
    let m = length-append (flat b) (flat c) in
    let p : suc at + node_size a + node_size b + node_size c ≡ at + node_size (f a b c) = omega arith in
    inl (record { tree = f a b c; rest = ts; is = e; ends = ap (λ n. skipped (suc at) n (a ∷ b ∷ c ∷ ts)) k ∙ ap Some p })

none_goes : (node : Node) (t : Term) (ts : List Term) (at : ℕ) → on node ts ≡ some (t ∷ ts) → kids_of node ≡ 0 → node_size t ≡ 1 → Goes node ts at
none_goes node t ts at e k s =
    let p : suc at ≡ at + node_size t = omega arith in
    inl (record { tree = t; rest = ts; is = e; ends = ap (λ n. skipped (suc at) n ts) k ∙ ap Some p })

-- so many arguments
abbrev Args : ℕ → List Term → ℕ → Type 0
Args n ts at = ((p : Terms × List Term) × (taken n ts ≡ some p) × (skipped at n ts ≡ Some (at + length (flats p.0)))) ⊎ ((taken n ts ≡ none) × (skipped at n ts ≡ None))

args : (n : ℕ) (ts : List Term) (at : ℕ) → Args n ts at
args zero ts at = inl ((t_none, ts), refl, ap Some (let p : at ≡ at + 0 = omega arith in p))
args (suc n) [] at = inr (refl, refl)
args (suc n) (t ∷ ts) at =
    elim (args n ts (at + node_size t)) [
      | inl g ↦ inl (
        (t_more t g.0.0, g.0.1),
        ap (more_taken t) g.1,
        g.2 ∙ ap Some (let l = length-append (flat t) (flats g.0.0) in let p : at + node_size t + length (flats g.0.0) ≡ at + length (flat t ++ flats g.0.0) = omega arith in p),
      )
      | inr g ↦ inr (ap (more_taken t) g.0, g.1)
    ]

call_goes : (l : LegId) (n : ℕ) (ts : List Term) (at : ℕ) → Goes (Call l n) ts at
call_goes l n ts at =
    elim (args n ts (suc at)) [
      | inl g ↦ inl (record {
        tree = t_call l.index g.0.0;
        rest = g.0.1;
        is = ap (called l.index) g.1;
        ends = g.2 ∙ ap Some (let p : suc at + length (flats g.0.0) ≡ at + suc (length (flats g.0.0)) = omega arith in p);
      })
      | inr g ↦ inr (ap (called l.index) g.0, g.1)
    ]

pub goes : (node : Node) (ts : List Term) (at : ℕ) → Goes node ts at
goes Unit' ts at = none_goes Unit' t_unit ts at refl refl refl
goes (Number v) ts at = none_goes (Number v) (t_number v) ts at refl refl refl
goes (Name l) ts at = none_goes (Name l) (t_name l.index) ts at refl refl refl
goes (Let k) ts at = two_goes (Let k) (t_let k.index) ts at (λ a b. refl) refl refl
goes (Take k) ts at = two_goes (Take k) (t_take k.index) ts at (λ a b. refl) refl refl
goes Pair ts at = two_goes Pair t_pair ts at (λ a b. refl) refl refl
goes (Split k) ts at = two_goes (Split k) (t_split k.index) ts at (λ a b. refl) refl refl
goes (Left y) ts at = one_goes (Left y) (t_left y) ts at (λ a. refl) refl refl
goes (Right y) ts at = one_goes (Right y) (t_right y) ts at (λ a. refl) refl refl
goes (Case k) ts at = three_goes (Case k) (t_case k.index) ts at (λ a b c. refl) refl refl
goes (Call l n) ts at = call_goes l n ts at
goes Add ts at = two_goes Add t_add ts at (λ a b. refl) refl refl
goes Less ts at = two_goes Less t_less ts at (λ a b. refl) refl refl

pub nodes_set : (ns : List Row) (i : ℕ) (n : Row) → n.node ≡ (row_at ns i).node → nodes_of (set ns i n) ≡ nodes_of ns
nodes_set [] i n e = refl
nodes_set (m ∷ ns) zero n e = ap (λ o. o ∷ nodes_of ns) e
nodes_set (m ∷ ns) (suc i) n e = ap (λ os. m.node ∷ os) (nodes_set ns i n e)

pub stack_none : (os : List Node) (i : ℕ) → stack (drop i os) ≡ none → stack os ≡ none
stack_none os zero e = e
stack_none [] (suc i) e = e
stack_none (o ∷ os) (suc i) e = ap (on_some o) (stack_none os i e)

pub stack_none_from : (os : List Node) (i j : ℕ) → i ≤ j → stack (drop j os) ≡ none → stack (drop i os) ≡ none
stack_none_from os i j le e =
    let p : i + (j - i) ≡ j = omega arith in
    stack_none (drop i os) (j - i) (ap stack (drop-drop (j - i) i os ∙ ap (λ k. drop k os) p) ∙ e)

-- what holds between the turns of closing
pub record Closing (i : ℕ) (before after : List Row) : Type 0 where
  pub same_length : length after ≡ length before
  pub same_nodes : nodes_of after ≡ nodes_of before
  pub kept : (j : ℕ) → j < i → row_at after j ≡ row_at before j
  pub stands : Standing i after

pub closing_begins : (ns : List Row) (i : ℕ) → i ≡ length ns → Closing i ns ns
closing_begins ns i e =
    let m = nodes_length ns in
    let d : drop i (nodes_of ns) ≡ [] = drop_all i (nodes_of ns) (omega arith) in
    record { same_length = refl; same_nodes = refl; kept = λ j h. refl; stands = record { whole = ([], ap stack d); ended = λ j le lt. absurd (omega arith) } }

module _ (i : ℕ) (before now : List Row) (h : Closing (suc i) before now) (lt : i < length now) where
  abbrev pub here_node : Node
  here_node = (row_at now i).node

  abbrev pub whole : Whole (suc i) now
  whole = h.stands.whole

  stack_here : stack (drop i (nodes_of now)) ≡ on here_node whole.0
  stack_here = ap stack (drop_nodes now i lt) ∙ ap (on_some here_node) whole.1

  abbrev pub with_end : ℕ → List Row
  with_end e = set now i (record { node = here_node; end = e })

  ended_next : (e : ℕ) (m : Made here_node whole.0 i) → e ≡ i + node_size m.tree → Ended i (with_end e)
  ended_next e m end_is j le l =
      let new : Row = record { node = here_node; end = e } in
      let candidates = nodes_set now i new refl in
      let len = length-set now i new in
      let same : term_at (with_end e) j ≡ term_at now j = ap (λ os. top (stack (drop j os))) candidates in
      elim (cases_eq j i) [
        | inl q ↦
            ap (λ k. (row_at (with_end e) k).end) q ∙ ap (λ n. n.end) (get_or-set_same now i new no_row lt) ∙ end_is
            ∙ ap₂ (λ x t. x + node_size t) (sym q) (sym (same ∙ ap (λ k. term_at now k) q ∙ ap top (stack_here ∙ m.is)))
        | inr q ↦
            ap (λ n. n.end) (get_or-set_other now i j new no_row q)
            ∙ h.stands.ended j (let z : suc i ≤ j = lt_of_le-ne {i = i} {k = j} le (λ z. q (sym z)) in z) (let z : j < length now = omega arith in z)
            ∙ ap (λ t. j + node_size t) (sym same)
      ]

  pub closing_next : (e : ℕ) → Some e ≡ skipped (suc i) (kids_of here_node) whole.0 → (e ≤ length now) × Closing i before (set now i (record { node = here_node; end = e }))
  closing_next e q =
      elim (goes here_node whole.0 i) [ inl m ↦ next m | inr n ↦ absurd (let z : Some e ≡ None = q ∙ n.1 in let w : ◌≡◌ {A = ℕ} 0 1 = cc in omega arith) ]
    where
      next : Made here_node whole.0 i → (e ≤ length now) × Closing i before (set now i (record { node = here_node; end = e }))
      next m =
          let new : Row = record { node = here_node; end = e } in
          let s = stack_here ∙ m.is in
          let w = here now i (m.tree ∷ m.rest) lt s in
          let tree_is : m.tree ≡ w.tree = sym (ap top s) ∙ w.at_place in
          let size_is : node_size m.tree ≡ node_size w.tree = ap node_size tree_is in
          let ends : Some e ≡ Some (i + node_size m.tree) = q ∙ m.ends in
          let end_is : e ≡ i + node_size m.tree = cc in
          let inside = w.inside in
          let candidates = nodes_set now i new refl in
          let len = length-set now i new in (
            omega arith,
            record {
              same_length = len ∙ h.same_length;
              same_nodes = candidates ∙ h.same_nodes;
              kept = λ j l. get_or-set_other now i j new no_row (λ z. omega arith) ∙ h.kept j (omega arith);
              stands = record { whole = (m.tree ∷ m.rest, ap (λ os. stack (drop i os)) candidates ∙ s); ended = ended_next e m end_is };
            },
          )

  pub closing_fails : None ≡ skipped (suc i) (kids_of here_node) whole.0 → stack (drop i (nodes_of now)) ≡ none
  closing_fails q =
      elim (goes here_node whole.0 i) [ inl m ↦ absurd (let z : None ≡ Some (i + node_size m.tree) = q ∙ m.ends in let w : ◌≡◌ {A = ℕ} 0 1 = cc in omega arith) | inr n ↦ stack_here ∙ n.0 ]

-- exactly one expression, by its end
pub one_by_end : (first : ℕ) (ns : List Row) → Standing first ns → first < length ns → eqb (row_at ns first).end (length ns) ≡ is_one (stack (drop first (nodes_of ns)))
one_by_end first ns s lt =
    let w = here ns first s.whole.0 lt s.whole.1 in
    let e : (row_at ns first).end ≡ first + node_size w.tree = s.ended first (omega arith) lt ∙ ap (λ x. first + node_size x) w.at_place in
    go w.tree w.rest e w.inside ∙ ap is_one (sym (s.whole.1 ∙ ap some w.is))
  where
    go : (t : Term) (ts : List Term) → (row_at ns first).end ≡ first + node_size t → first + node_size t + length (flat_all ts) ≡ length ns → eqb (row_at ns first).end (length ns) ≡ is_one (some (t ∷ ts))
    go t [] e k = eq-eqb (row_at ns first).end (length ns) (omega arith)
    go t (u ∷ us) e k =
        let p = some_nodes u in
        let l = length-append (flat u) (flat_all us) in
        ne_eqb (row_at ns first).end (length ns) (λ z. omega arith)

pub none_past : (first : ℕ) (ns : List Row) → length ns ≤ first → is_one (stack (drop first (nodes_of ns))) ≡ false
none_past first ns le =
    let m = nodes_length ns in
    ap (λ l. is_one (stack l)) (drop_all first (nodes_of ns) (omega arith))

abbrev pub Told : List Row → ℕ → ℕ → Maybe ℕ → Type 0
Told ns at count r = (ts : List Term) → stack (drop at (nodes_of ns)) ≡ some ts → r ≡ skipped at count ts

module _ (i : ℕ) (before now : List Row) (pos : 0 < i) (le : i ≤ length now) (h : Closing i before now) (count : ℕ) (is : count ≡ kids_of (row_at now (i - 1)).node) where
  last_is : i ≡ suc (i - 1)
  last_is = omega arith

  h' : Closing (suc (i - 1)) before now
  h' = subst (λ k. Closing k before now) last_is h

  told : (r : Maybe ℕ) → Told now (i - 1 + 1) count r → r ≡ skipped (suc (i - 1)) (kids_of (row_at now (i - 1)).node) h'.stands.whole.0
  told r t = subst (λ k. Told now k (kids_of (row_at now (i - 1)).node) r) (let e : i - 1 + 1 ≡ suc (i - 1) = omega arith in e) (subst (λ n. Told now (i - 1 + 1) n r) is t) h'.stands.whole.0 h'.stands.whole.1

  pub turn : (e : ℕ) → Told now (i - 1 + 1) count (Some e) → (e ≤ length now) × Closing (i - 1) before (set now (i - 1) (record { node = (row_at now (i - 1)).node; end = e }))
  turn e t = closing_next (i - 1) before now h' (omega arith) e (told (Some e) t)

  pub stop : Told now (i - 1 + 1) count None → (first : ℕ) → first < i → Closed first before now false
  stop t first lt =
      let z = closing_fails (i - 1) before now h' (omega arith) (told None t) in
      let n = stack_none_from (nodes_of now) first (i - 1) (omega arith) z in
      record {
        same_nodes = h.same_nodes;
        one = ap is_one (sym (ap (λ os. stack (drop first os)) (sym h.same_nodes) ∙ n));
        kept = λ j l. h.kept j (omega arith);
        stands = λ q. absurd (let w : ◌≡◌ {A = ℕ} 0 1 = cc in omega arith);
      }

pub finish : (first i : ℕ) (before now : List Row) → i ≡ first → Closing i before now → (r : Bool) → r ≡ is_one (stack (drop first (nodes_of now))) → Closed first before now r
finish first i before now e h r q =
    let k = subst (λ x. Closing x before now) e h in
    record { same_nodes = k.same_nodes; one = q ∙ ap (λ os. is_one (stack (drop first os))) k.same_nodes; kept = k.kept; stands = λ t. k.stands }

pub nodes_push : (ns : List Row) (n : Row) → nodes_of (ns ++ (n ∷ [])) ≡ nodes_of ns ++ (n.node ∷ [])
nodes_push [] n = refl
nodes_push (m ∷ ns) n = ap (λ l. m.node ∷ l) (nodes_push ns n)

pub binders_push : (k : ℕ) (os : List Node) (o : Node) → binders_in k (os ++ (o ∷ [])) ≡ with_node (binders_in k os) o
binders_push k [] o = refl
binders_push k (x ∷ os) o = binders_push (with_node k x) os o
