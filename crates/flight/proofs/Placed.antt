-- The nodes of a leg: each with its kids, the levels in scope and the legs below. Assumes nothing.
use Rattle.std.proofs.Common.{◌≡◌, ℕ, zero, suc, ◌+◌, ◌<◌, ◌≤◌, Bool, true, false, ltb, List, [], ◌∷◌, ◌++◌, length, get_or, sym, refl, ap, ◌∙◌, subst, ap₂, add-one, arith, length-append, ltb-false, ltb-true}
use Rattle.std.proofs.lemmas.List.{get_or_append_left, get_or-append-add}
use Rattle.plan.specs.declared.Node.{Node}
use Rattle.plan.specs.declared.Node.TheVariants.{Unit as k_unit, Number, Name, Let, Take, Pair, Split, Left, Right, Case, Call, Add, Less}
use Rattle.plan.specs.declared.Row.{Row}
use Rattle.plan.specs.declared.Leg.{Leg}
use Rattle.plan.specs.declared.LegId.{LegId}
use Rattle.plan.specs.Trees as plan
use Rattle.plan.specs.Trees.{Term, Terms, t_unit, t_number, t_name, t_let, t_take, t_pair, t_split, t_left, t_right, t_case, t_call, t_add, t_less, t_none, t_more, head, kids, flat, arguments, how_many}
use Rattle.plan.specs.Table as table
use Rattle.plan.specs.Table.{row_at, term_at, node_size, Stand}
use Rattle.plan.specs.Plans.{leg_in}
use Rattle.plan.proofs.Stacks.{flat_all}
use Rattle.plan.proofs.Kids.{flat_head}
use Rattle.plan.proofs.Ends.{some_nodes}
use Rattle.typer.specs.Levels.{levels}
use Rattle.typer.specs.Depths.{kid_depth, kid_levels}
use Rattle.typer.proofs.Views.{levels_view, levels_length}
use Rattle.flight.specs.Nodes.{no_leg, kind_at, end_at}
use Rattle.flight.specs.Sound.{Under, Args, LaidNode}
use Rattle.flight.specs.Spelled.{below, trees, SameLeg, from_leg, Spells}

-- A leg that a call with n arguments may name, from a leg over the legs ls.
pub record Lower (ns : List Row) (gs : List Leg) (lv : ℕ → ℕ) (ls : List plan.Leg) (l n : ℕ) : Type 0 where
  pub there : l < length gs
  pub leg : Under ns lv (get_or gs l no_leg).first n
  pub fits : (get_or gs l no_leg).binder.index + n < 65536
  pub from : from_leg ls l ≡ leg_in ns (get_or gs l no_leg) ∷ below ns gs (get_or gs l no_leg).first

-- What a node owes to no other: d levels are in scope.
abbrev pub Own : List Row → List Leg → (ℕ → ℕ) → List plan.Leg → Node → ℕ → Type 0
Own ns gs lv ls k_unit d = Unit {0}
Own ns gs lv ls (Number n) d = n < 4294967296
Own ns gs lv ls (Name l) d = l.index < d
Own ns gs lv ls (Let k) d = Unit {0}
Own ns gs lv ls (Take k) d = Unit {0}
Own ns gs lv ls Pair d = Unit {0}
Own ns gs lv ls (Split k) d = k.index < 65535
Own ns gs lv ls (Left y) d = Unit {0}
Own ns gs lv ls (Right y) d = Unit {0}
Own ns gs lv ls (Case k) d = k.index < 65535
Own ns gs lv ls (Call l n) d = Lower ns gs lv ls l.index n
Own ns gs lv ls Add d = Unit {0}
Own ns gs lv ls Less d = Unit {0}

module _ (ns : List Row) (gs : List Leg) (lv : ℕ → ℕ) (ls : List plan.Leg) where
  -- the nodes from a place on, with their levels
  abbrev pub Along : ℕ → List Node → List ℕ → Type 0
  Along p os ds = (k : ℕ) → k < length os → (lv (p + k) ≡ get_or ds k 0) × Own ns gs lv ls (get_or os k k_unit) (get_or ds k 0)

  along_front : (p : ℕ) (xs ys : List Node) (ds es : List ℕ) → length ds ≡ length xs → Along p (xs ++ ys) (ds ++ es) → Along p xs ds
  along_front p xs ys ds es e h k lt =
      let n : length (xs ++ ys) ≡ length xs + length ys = length-append xs ys in
      let x = h k (omega arith) in
      let o : get_or (xs ++ ys) k k_unit ≡ get_or xs k k_unit = get_or_append_left xs ys k_unit k lt in
      let d : get_or (ds ++ es) k 0 ≡ get_or ds k 0 = get_or_append_left ds es 0 k (omega arith) in
      (x.0 ∙ d, subst (λ (z : Node). Own ns gs lv ls z (get_or ds k 0)) o (subst (λ (z : ℕ). Own ns gs lv ls (get_or (xs ++ ys) k k_unit) z) d x.1))

  along_back : (p : ℕ) (xs ys : List Node) (ds es : List ℕ) → length ds ≡ length xs → Along p (xs ++ ys) (ds ++ es) → Along (p + length xs) ys es
  along_back p xs ys ds es e h k lt =
      let n : length (xs ++ ys) ≡ length xs + length ys = length-append xs ys in
      let x = h (length xs + k) (omega arith) in
      let o : get_or (xs ++ ys) (length xs + k) k_unit ≡ get_or ys k k_unit = get_or-append-add xs ys k k_unit in
      let d : get_or (ds ++ es) (length xs + k) 0 ≡ get_or es k 0 = ap (λ (z : ℕ). get_or (ds ++ es) (z + k) 0) (sym e) ∙ get_or-append-add ds es k 0 in
      let q : (p + length xs) + k ≡ p + (length xs + k) = omega arith in
      (ap lv q ∙ x.0 ∙ d, subst (λ (z : Node). Own ns gs lv ls z (get_or es k 0)) o (subst (λ (z : ℕ). Own ns gs lv ls (get_or (xs ++ ys) (length xs + k) k_unit) z) d x.1))

  along_tail : (p : ℕ) (o : Node) (os : List Node) (d : ℕ) (ds : List ℕ) → Along p (o ∷ os) (d ∷ ds) → Along (p + 1) os ds
  along_tail p o os d ds h k lt = let x = h (suc k) (omega arith) in let q : (p + 1) + k ≡ p + suc k = omega arith in (ap lv q ∙ x.0, x.1)

  -- The kids from the j-th on stand from the place q on.
  abbrev pub KidsAt : ℕ → Node → ℕ → ℕ → List Term → Type 0
  KidsAt d o j q [] = Unit {0}
  KidsAt d o j q (a ∷ ts) = (q < length ns) × (lv q ≡ kid_depth d o j) × (below ns gs q ≡ ls) × (term_at ns q ≡ a) × KidsAt d o (suc j) (end_at ns q) ts

  pub record Placed (i : ℕ) : Type 0 where
    pub same : below ns gs i ≡ ls
    pub own : Own ns gs lv ls (kind_at ns i) (lv i)
    pub kids_at : KidsAt (lv i) (kind_at ns i) 0 (i + 1) (kids (term_at ns i))

  module _ (sp : table.Spells ns) (first fin : ℕ) (range : (i : ℕ) → first ≤ i → i < fin → below ns gs i ≡ ls) where
    abbrev Walked : ℕ → Type 0
    Walked n =
        (t : Term) (p d : ℕ) → node_size t ≤ n → p < length ns → term_at ns p ≡ t → first ≤ p → p + node_size t ≤ fin → Along p (flat t) (levels d t)
        → (lv p ≡ d) × ((i : ℕ) → p ≤ i → i < p + node_size t → Placed i)

    kids_placed : (n : ℕ) → Walked n → (ts : List Term) (q j d : ℕ) (o : Node) → length (flat_all ts) ≤ n → Stand ns q ts → first ≤ q → q + length (flat_all ts) ≤ fin
        → Along q (flat_all ts) (kid_levels d o j ts) → KidsAt d o j q ts × ((i : ℕ) → q ≤ i → i < q + length (flat_all ts) → Placed i)
    kids_placed n w [] q j d o le st lo hi h = (tt, λ i ge lt. absurd (omega arith))
    kids_placed n w (a ∷ ts) q j d o le st lo hi h =
        let z : length (flat a ++ flat_all ts) ≡ node_size a + length (flat_all ts) = length-append (flat a) (flat_all ts) in
        let e = levels_length (kid_depth d o j) a in
        let one = w a q (kid_depth d o j) (omega arith) st.0 st.1 lo (omega arith) (along_front q (flat a) (flat_all ts) (levels (kid_depth d o j) a) (kid_levels d o (suc j) ts) e h) in
        let end = st.2 in
        let more = kids_placed n w ts (end_at ns q) (suc j) d o (omega arith) st.3 (omega arith) (omega arith)
        (subst (λ (x : ℕ). Along x (flat_all ts) (kid_levels d o (suc j) ts)) (sym end) (along_back q (flat a) (flat_all ts) (levels (kid_depth d o j) a) (kid_levels d o (suc j) ts) e h)) in
        let some = some_nodes a in
        ((st.0, one.0, range q lo (omega arith), st.1, more.0), λ i ge lt. split i ge lt end z (ltb i (q + node_size a)) refl one.1 more.1)
      where
        split : (i : ℕ) → q ≤ i → i < q + length (flat a ++ flat_all ts) → end_at ns q ≡ q + node_size a → length (flat a ++ flat_all ts) ≡ node_size a + length (flat_all ts)
            → (b : Bool) → ltb i (q + node_size a) ≡ b → ((i : ℕ) → q ≤ i → i < q + node_size a → Placed i)
            → ((i : ℕ) → end_at ns q ≤ i → i < end_at ns q + length (flat_all ts) → Placed i) → Placed i
        split i ge lt end z true e f g = f i ge (ltb-true i (q + node_size a) e)
        split i ge lt end z false e f g = let x = ltb-false i (q + node_size a) e in g i (omega arith) (omega arith)

    pub walked : (n : ℕ) → Walked n
    walked zero t p d le lt e lo hi h = absurd (let x = some_nodes t in omega arith)
    walked (suc n) t p d le lt e lo hi h =
        let z : node_size t ≡ suc (length (flat_all (kids t))) = ap length (flat_head t) in
        let h' : Along p (head t ∷ flat_all (kids t)) (d ∷ kid_levels d (head t) 0 (kids t))
        = subst (λ (x : List ℕ). Along p (head t ∷ flat_all (kids t)) x) (levels_view d t) (subst (λ (x : List Node). Along p x (levels d t)) (flat_head t) h) in
        let top = h' 0 (omega arith) in
        let p0 : p + 0 ≡ p = omega arith in
        let lvp : lv p ≡ d = ap lv (sym p0) ∙ top.0 in
        let k : kind_at ns p ≡ head t = (sp p lt).0 ∙ ap head e in
        let st : Stand ns (p + 1) (kids t) = subst (λ (x : Term). Stand ns (p + 1) (kids x)) e (sp p lt).1 in
        let all = kids_placed n (walked n) (kids t) (p + 1) 0 d (head t) (omega arith) st (omega arith) (omega arith) (along_tail p (head t) (flat_all (kids t)) d (kid_levels d (head t) 0 (kids t)) h') in
        let here : Placed p = record {
          same = range p lo (omega arith);
          own = subst (λ (x : Node). Own ns gs lv ls x (lv p)) (sym k) (subst (λ (x : ℕ). Own ns gs lv ls (head t) x) (sym lvp) top.1);
          kids_at = subst (λ (x : Term). KidsAt (lv p) (kind_at ns p) 0 (p + 1) (kids x)) (sym e)
              (subst (λ (x : Node). KidsAt (lv p) x 0 (p + 1) (kids t)) (sym k) (subst (λ (x : ℕ). KidsAt x (head t) 0 (p + 1) (kids t)) (sym lvp) all.0));
        } in
        (lvp, λ i ge il. split i ge il z (ltb p i) refl here all.1)
      where
        split : (i : ℕ) → p ≤ i → i < p + node_size t → node_size t ≡ suc (length (flat_all (kids t))) → (b : Bool) → ltb p i ≡ b → Placed p
            → ((i : ℕ) → p + 1 ≤ i → i < (p + 1) + length (flat_all (kids t)) → Placed i) → Placed i
        split i ge il z true e here f = let x = ltb-true p i e in f i (omega arith) (omega arith)
        split i ge il z false e here f = let x = ltb-false p i e in let q : p ≡ i = omega arith in subst Placed q here

  -- by kinds
  call_depth : (d n j : ℕ) (l : LegId) → kid_depth d (Call l n) j ≡ d
  call_depth d n zero l = refl
  call_depth d n (suc j) l = refl

  call_args : (ts : Terms) (d n j x : ℕ) (l : LegId) → KidsAt d (Call l n) j x (arguments ts)
      → Args ns lv (how_many ts) x d × SameLeg ns gs ls (how_many ts) x × (trees ns (how_many ts) x ≡ ts)
  call_args t_none d n j x l h = (tt, tt, refl)
  call_args (t_more a ts) d n j x l h =
      let r = call_args ts d n (suc j) (end_at ns x) l h.4 in
      (((h.0, h.1 ∙ call_depth d n j l), r.0), (h.2, r.1), ap₂ t_more h.3 r.2)

  pub by_kind : (t : Term) (i : ℕ) → term_at ns i ≡ t → below ns gs i ≡ ls → Own ns gs lv ls (head t) (lv i) → KidsAt (lv i) (head t) 0 (i + 1) (kids t)
      → LaidNode ns gs lv (head t) i × Spells ns gs (head t) i
  by_kind t_unit i e s o h = (tt, e)
  by_kind (t_number n) i e s o h = (o, e)
  by_kind (t_name l) i e s o h = (o, e)
  by_kind (t_let k a b) i e s o h =
      (((h.0, h.1), (h.4.0, h.4.1 ∙ add-one (lv i))), (e ∙ ap₂ (t_let k) (sym h.3) (sym h.4.3), h.2 ∙ sym s, h.4.2 ∙ sym s))
  by_kind (t_take k a b) i e s o h =
      (((h.0, h.1), (h.4.0, h.4.1 ∙ add-one (lv i))), (e ∙ ap₂ (t_take k) (sym h.3) (sym h.4.3), h.2 ∙ sym s, h.4.2 ∙ sym s))
  by_kind (t_pair a b) i e s o h =
      (((h.0, h.1), (h.4.0, h.4.1)), (e ∙ ap₂ t_pair (sym h.3) (sym h.4.3), h.2 ∙ sym s, h.4.2 ∙ sym s))
  by_kind (t_split k a b) i e s o h =
      let two : lv i + 2 ≡ suc (suc (lv i)) = omega arith in
      (((h.0, h.1), (h.4.0, h.4.1 ∙ two), o), (e ∙ ap₂ (t_split k) (sym h.3) (sym h.4.3), h.2 ∙ sym s, h.4.2 ∙ sym s))
  by_kind (t_left y a) i e s o h = ((h.0, h.1), (e ∙ ap (t_left y) (sym h.3), h.2 ∙ sym s))
  by_kind (t_right y a) i e s o h = ((h.0, h.1), (e ∙ ap (t_right y) (sym h.3), h.2 ∙ sym s))
  by_kind (t_case k a b c) i e s o h =
      let m = h.4 in
      let r = m.4 in (
        ((h.0, h.1), (m.0, m.1 ∙ add-one (lv i)), (r.0, r.1 ∙ add-one (lv i)), o),
        (e ∙ (λ j. t_case k (sym h.3 j) (sym m.3 j) (sym r.3 j)), h.2 ∙ sym s, m.2 ∙ sym s, r.2 ∙ sym s),
      )
  by_kind (t_call l ts) i e s o h =
      let r = call_args ts (lv i) (how_many ts) 0 (i + 1) (plan.the_leg l) h in (
        (o.there, r.0, o.leg, o.fits),
        (e ∙ ap (t_call l) (sym r.2), subst (λ (x : List plan.Leg). SameLeg ns gs x (how_many ts) (i + 1)) (sym s) r.1, ap (λ (x : List plan.Leg). from_leg x l) s ∙ o.from),
      )
  by_kind (t_add a b) i e s o h =
      (((h.0, h.1), (h.4.0, h.4.1)), (e ∙ ap₂ t_add (sym h.3) (sym h.4.3), h.2 ∙ sym s, h.4.2 ∙ sym s))
  by_kind (t_less a b) i e s o h =
      (((h.0, h.1), (h.4.0, h.4.1)), (e ∙ ap₂ t_less (sym h.3) (sym h.4.3), h.2 ∙ sym s, h.4.2 ∙ sym s))

  -- A placed node is laid and spelled.
  pub good : table.Spells ns → (i : ℕ) → i < length ns → Placed i → LaidNode ns gs lv (kind_at ns i) i × Spells ns gs (kind_at ns i) i
  good sp i lt P =
      let k : kind_at ns i ≡ head (term_at ns i) = (sp i lt).0 in
      subst (λ (x : Node). LaidNode ns gs lv x i × Spells ns gs x i) (sym k)
      (by_kind (term_at ns i) i refl P.same (subst (λ (x : Node). Own ns gs lv ls x (lv i)) k P.own) (subst (λ (x : Node). KidsAt (lv i) x 0 (i + 1) (kids (term_at ns i))) k P.kids_at))
