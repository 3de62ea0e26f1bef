-- A node's kids' contexts become its own: each kind of node. Assumes nothing.
use Rattle.std.proofs.Common.{◌≡◌, ℕ, zero, suc, ◌+◌, ◌-◌, ◌<◌, ◌≤◌, List, [], ◌∷◌, ◌++◌, length, get_or, take, drop, set, sym, refl, ap, ◌∙◌, subst, ap₂, append_assoc, append-nil, add-one, arith, length-append, length-drop}
use lib.ListN.{length-map}
use Rattle.std.proofs.lemmas.List.{length-take-le, get_or-take, get_or-drop, set_split, get_or_append_left, take-append-drop}
use Rattle.scales.specs.Laws.{Ops}
use Rattle.scales.specs.Rows.{row_plus, row_join, row_times}
use Rattle.scales.proofs.RowLists.{length_zip}
use Rattle.plan.specs.declared.Node.{Node}
use Rattle.plan.specs.declared.Binder.{Binder}
use Rattle.plan.specs.declared.LegId.{LegId}
use Rattle.plan.specs.declared.Node.TheVariants.{Let, Take, Split, Case, Call}
use Rattle.plan.specs.Kinds.{kids_of, binders}
use Rattle.grader.proofs.Calling.{call_same}
use Rattle.grader.specs.Walk.{RowsOn, KidsOn, Closed, concat, kid_width, put, node_row, own_grades, call_row}

-- how long c contexts are together
abbrev pub widths : (ℕ → ℕ) → ℕ → ℕ
widths w zero = 0
widths w (suc c) = w 0 + widths (λ k. w (suc k)) c

module _ {G : Type 0} where
  -- ---- writing answers

  pub put_none : (k : ℕ) (xs : List G) → put k [] xs ≡ xs
  put_none k xs = ap (λ i. take k xs ++ drop i xs) (let e : k + 0 ≡ k = omega arith in e) ∙ take-append-drop k xs

  pub put_one : (k : ℕ) (x : G) (xs : List G) → k < length xs → set xs k x ≡ put k (x ∷ []) xs
  put_one k x xs lt = set_split xs k x lt ∙ ap (λ i. take k xs ++ (x ∷ drop i xs)) (sym (add-one k))

  put_next : (k : ℕ) (x y : G) (xs : List G) → suc k < length xs → set (set xs k x) (suc k) y ≡ take k xs ++ (x ∷ y ∷ drop (suc (suc k)) xs)
  put_next zero x y (a ∷ b ∷ xs) lt = refl
  put_next zero x y (a ∷ []) lt = absurd (omega arith)
  put_next zero x y [] lt = absurd (omega arith)
  put_next (suc k) x y [] lt = absurd (omega arith)
  put_next (suc k) x y (a ∷ xs) lt = ap (λ l. a ∷ l) (put_next k x y xs (omega arith))

  pub put_two : (k : ℕ) (x y : G) (xs : List G) → k + 1 < length xs → set (set xs k x) (k + 1) y ≡ put k (x ∷ y ∷ []) xs
  put_two k x y xs lt =
      ap (λ i. set (set xs k x) i y) (add-one k) ∙ put_next k x y xs (omega arith) ∙ ap (λ i. take k xs ++ (x ∷ y ∷ drop i xs)) (let e : suc (suc k) ≡ k + 2 = omega arith in e)

  -- ---- so many contexts on top

  concat_long : (us : List (List G)) (w : ℕ → ℕ) → ((k : ℕ) → k < length us → length (get_or us k []) ≡ w k) → length (concat us) ≡ widths w (length us)
  concat_long [] w h = refl
  concat_long (u ∷ us) w h = length-append u (concat us) ∙ ap₂ (λ a b. a + b) (h 0 (omega arith)) (concat_long us (λ k. w (suc k)) (λ k lt. h (suc k) (omega arith)))

  -- how deep the stack is below a node of a known kind
  pub deep : {held : List G} {node kind : Node} (n : ℕ) → KidsOn held node n → node ≡ kind → widths (kid_width n kind) (kids_of kind) ≤ length held
  deep {held} {node} n k e =
      let count = k.count in
      let all = concat_long k.rows (kid_width n node) (λ i lt. k.wide i (omega arith)) ∙ ap (widths (kid_width n node)) k.count in
      let whole = ap length k.is ∙ length-append k.base (concat k.rows) in
      subst (λ o. widths (kid_width n o) (kids_of o) ≤ length held) e (let z : widths (kid_width n node) (kids_of node) ≤ length held = omega arith in z)

  record Two (held base : List G) (us : List (List G)) (n m : ℕ) : Type 0 where
    pub a : List G
    pub b : List G
    pub are : us ≡ a ∷ b ∷ []
    pub wide_a : length a ≡ n
    pub wide_b : length b ≡ m
    pub is : held ≡ base ++ (a ++ b)

  two : {held : List G} {w : ℕ → ℕ} (k : RowsOn held 2 w) → Two held k.base k.rows (w 0) (w 1)
  two {held} {w} k = go k.rows k.count (λ i lt. k.wide i lt) k.is
    where
      go : (us : List (List G)) → length us ≡ 2 → ((i : ℕ) → i < 2 → length (get_or us i []) ≡ w i) → held ≡ k.base ++ concat us → Two held k.base us (w 0) (w 1)
      go [] e h is = absurd (omega arith)
      go (a ∷ []) e h is = absurd (omega arith)
      go (a ∷ b ∷ c ∷ us) e h is = absurd (omega arith)
      go (a ∷ b ∷ []) e h is = record { a = a; b = b; are = refl; wide_a = h 0 (omega arith); wide_b = h 1 (omega arith); is = is ∙ ap (λ l. k.base ++ (a ++ l)) (append-nil b) }

  record Three (held base : List G) (us : List (List G)) (n m l : ℕ) : Type 0 where
    pub a : List G
    pub b : List G
    pub c : List G
    pub are : us ≡ a ∷ b ∷ c ∷ []
    pub wide_a : length a ≡ n
    pub wide_b : length b ≡ m
    pub wide_c : length c ≡ l
    pub is : held ≡ base ++ (a ++ (b ++ c))

  three : {held : List G} {w : ℕ → ℕ} (k : RowsOn held 3 w) → Three held k.base k.rows (w 0) (w 1) (w 2)
  three {held} {w} k = go k.rows k.count (λ i lt. k.wide i lt) k.is
    where
      go : (us : List (List G)) → length us ≡ 3 → ((i : ℕ) → i < 3 → length (get_or us i []) ≡ w i) → held ≡ k.base ++ concat us → Three held k.base us (w 0) (w 1) (w 2)
      go [] e h is = absurd (omega arith)
      go (a ∷ []) e h is = absurd (omega arith)
      go (a ∷ b ∷ []) e h is = absurd (omega arith)
      go (a ∷ b ∷ c ∷ d ∷ us) e h is = absurd (omega arith)
      go (a ∷ b ∷ c ∷ []) e h is =
          record { a = a; b = b; c = c; are = refl; wide_a = h 0 (omega arith); wide_b = h 1 (omega arith); wide_c = h 2 (omega arith); is = is ∙ ap (λ l. k.base ++ (a ++ (b ++ l))) (append-nil c) }

  -- ---- what the stack's functions say
  abbrev GradeIs : List G → ℕ → ℕ → G → Type 0
  GradeIs held top level x = (h b : List G) (d : G) → length b ≡ top → held ≡ h ++ b → x ≡ get_or b level d

  abbrev TwoBecome : ℕ → ℕ → List G → List G → (List G → List G → List G) → Type 0
  TwoBecome n m before after f = (h a b : List G) → length a ≡ n → length b ≡ m → before ≡ h ++ (a ++ b) → after ≡ h ++ f a b

  top_of : {before : List G} (base a b : List G) {x : G} (d : G) (m level : ℕ) → length b ≡ m → before ≡ base ++ (a ++ b) → GradeIs before m level x → x ≡ get_or b level d
  top_of base a b d m level e is g = g (base ++ a) b d e (is ∙ sym (append_assoc base a b))

-- ---- each kind of node, by what the stack's functions say

module _ {G : Type 0} {o : Ops G} {r : ℕ → ℕ → G} {n next : ℕ} {before after answers : List G} {node : Node} where
  -- at the node's kind, where there is room for the grades of the names that it binds
  at_kind : {kind : Node} {later : List G} → node ≡ kind → next + binders node ≤ length answers → (next + binders kind ≤ length answers → Closed o r kind n next before after answers later) → Closed o r node n next before after answers later
  at_kind {kind} {later} e few closed = subst (λ k. Closed o r k n next before after answers later) (sym e) (closed (subst (λ k. next + binders k ≤ length answers) e few))

  pub let_closed : {k' : Binder} {mid : List G} {x : G} → node ≡ Let k' → next + binders node ≤ length answers → GradeIs before (n + 1) n x
      → TwoBecome n (n + 1) before mid (λ a b. row_times o x a ++ b) → TwoBecome n (n + 1) mid after (row_plus o) → Closed o r node n next before after answers (set answers next x)
  let_closed {k'} {mid} {x} e few g scale add = at_kind e few (λ room. record {
    row = λ k. (
        let q = two k in
        let wb : length q.b ≡ n + 1 = q.wide_b ∙ sym (add-one n) in
        let x_is : x ≡ get_or q.b n o.zero = top_of k.base q.a q.b o.zero (n + 1) n wb q.is g in
        add k.base (row_times o x q.a) q.b (length-map q.a (o.times x) ∙ q.wide_a) wb (scale k.base q.a q.b q.wide_a wb q.is)
        ∙ ap (λ y. k.base ++ row_plus o (row_times o y q.a) q.b) x_is ∙ ap (λ us. k.base ++ node_row o r (Let k') n us) (sym q.are));
    own = λ k. (
        let q = two k in
        let x_is : x ≡ get_or q.b n o.zero = top_of k.base q.a q.b o.zero (n + 1) n (q.wide_b ∙ sym (add-one n)) q.is g in
        put_one next x answers (omega arith) ∙ ap (λ y. put next (y ∷ []) answers) x_is ∙ ap (λ us. put next (own_grades o (Let k') n us) answers) (sym q.are));
  })

  pub take_closed : {k' : Binder} {x : G} → node ≡ Take k' → next + binders node ≤ length answers → GradeIs before (n + 1) n x → TwoBecome n (n + 1) before after (row_plus o) → Closed o r node n next before after answers (set answers next x)
  take_closed {k'} {x} e few g add = at_kind e few (λ room. record {
    row = λ k. (let q = two k in add k.base q.a q.b q.wide_a (q.wide_b ∙ sym (add-one n)) q.is ∙ ap (λ us. k.base ++ node_row o r (Take k') n us) (sym q.are));
    own = λ k. (
        let q = two k in
        let x_is : x ≡ get_or q.b n o.zero = top_of k.base q.a q.b o.zero (n + 1) n (q.wide_b ∙ sym (add-one n)) q.is g in
        put_one next x answers (omega arith) ∙ ap (λ y. put next (y ∷ []) answers) x_is ∙ ap (λ us. put next (own_grades o (Take k') n us) answers) (sym q.are));
  })

  pub split_closed : {k' : Binder} {x y : G} → node ≡ Split k' → next + binders node ≤ length answers → GradeIs before (n + 2) n x → GradeIs before (n + 2) (n + 1) y
      → TwoBecome n (n + 2) before after (row_plus o) → Closed o r node n next before after answers (set (set answers next x) (next + 1) y)
  split_closed {k'} {x} {y} e few g g' add = at_kind e few (λ room. (
      let wide : suc (suc n) ≡ n + 2 = omega arith in
      record {
        row = λ k. (let q = two k in add k.base q.a q.b q.wide_a (q.wide_b ∙ wide) q.is ∙ ap (λ us. k.base ++ node_row o r (Split k') n us) (sym q.are));
        own = λ k. (
            let q = two k in
            let wb : length q.b ≡ n + 2 = q.wide_b ∙ wide in
            let x_is : x ≡ get_or q.b n o.zero = top_of k.base q.a q.b o.zero (n + 2) n wb q.is g in
            let y_is : y ≡ get_or q.b (suc n) o.zero = top_of k.base q.a q.b o.zero (n + 2) (n + 1) wb q.is g' ∙ ap (λ i. get_or q.b i o.zero) (add-one n) in
            put_two next x y answers (omega arith) ∙ ap₂ (λ u v. put next (u ∷ v ∷ []) answers) x_is y_is ∙ ap (λ us. put next (own_grades o (Split k') n us) answers) (sym q.are));
      }))

  pub case_closed : {k' : Binder} {mid : List G} {x y : G} → node ≡ Case k' → next + binders node ≤ length answers → GradeIs before (n + 1 + n + 1) n x → GradeIs before (n + 1) n y
      → TwoBecome (n + 1) (n + 1) before mid (row_join o) → TwoBecome n (n + 1) mid after (row_plus o) → Closed o r node n next before after answers (set (set answers next x) (next + 1) y)
  case_closed {k'} {mid} {x} {y} e few g g' join add = at_kind e few (λ room. record {
    row = λ k. (
        let q = three k in
        let wb : length q.b ≡ n + 1 = q.wide_b ∙ sym (add-one n) in
        let wc : length q.c ≡ n + 1 = q.wide_c ∙ sym (add-one n) in
        let mid_is : mid ≡ k.base ++ (q.a ++ row_join o q.b q.c) =
        join (k.base ++ q.a) q.b q.c wb wc (q.is ∙ sym (append_assoc k.base q.a (q.b ++ q.c))) ∙ append_assoc k.base q.a (row_join o q.b q.c) in
        add k.base q.a (row_join o q.b q.c) q.wide_a (length_zip o.join q.b q.c ∙ wb) mid_is ∙ ap (λ us. k.base ++ node_row o r (Case k') n us) (sym q.are));
    own = λ k. (
        let q = three k in
        let wb = q.wide_b in
        let wc : length q.c ≡ n + 1 = q.wide_c ∙ sym (add-one n) in
        let wbc = length-append q.b q.c in
        let x_is : x ≡ get_or q.b n o.zero =
        top_of k.base q.a (q.b ++ q.c) o.zero (n + 1 + n + 1) n (omega arith) q.is g ∙ get_or_append_left q.b q.c o.zero n (omega arith) in
        let y_is : y ≡ get_or q.c n o.zero = g' (k.base ++ (q.a ++ q.b)) q.c o.zero wc (q.is ∙ ap (λ l. k.base ++ l) (sym (append_assoc q.a q.b q.c)) ∙ sym (append_assoc k.base (q.a ++ q.b) q.c)) in
        put_two next x y answers (omega arith) ∙ ap₂ (λ u v. put next (u ∷ v ∷ []) answers) x_is y_is ∙ ap (λ us. put next (own_grades o (Case k') n us) answers) (sym q.are));
  })

same_width : (n : ℕ) (l : LegId) (c k : ℕ) → kid_width n (Call l c) k ≡ n
same_width n l c zero = refl
same_width n l c (suc k) = refl

-- the kids of a call are its arguments
abbrev arguments_on : {G : Type 0} {held : List G} {n : ℕ} (l : LegId) (c : ℕ) → KidsOn held (Call l c) n → RowsOn held c (λ i. n)
arguments_on {n = n} l c k = record { base = k.base; rows = k.rows; count = k.count; wide = λ i lt. k.wide i lt ∙ same_width n l c i; is = k.is }

-- The c grades in the answers from `first` on.
abbrev pub part : {G : Type 0} → ℕ → ℕ → List G → List G
part first c answers = take (first + c - first) (drop first answers)

part_long : {G : Type 0} (first c : ℕ) (answers : List G) → first + c ≤ length answers → length (part first c answers) ≡ c
part_long first c answers fits = let rest = length-drop first answers in length-take-le (first + c - first) (drop first answers) (omega arith) ∙ (let e : first + c - first ≡ c = omega arith in e)

module _ {G : Type 0} {held : List G} {n : ℕ} {node : Node} {l : LegId} {c : ℕ} (first : ℕ) (answers : List G) (fits : first + c ≤ length answers) (e : node ≡ Call l c) where
  pub call_closed : {o : Ops G} {r : ℕ → ℕ → G} {next : ℕ} {after : List G} → ((j : ℕ) → r l.index j ≡ get_or answers (first + j) o.zero)
      → ((k : RowsOn held (length (part first c answers)) (λ i. n)) → after ≡ k.base ++ call_row o (λ j. get_or (part first c answers) j o.zero) 0 n k.rows)
      → Closed o r node n next held after answers answers
  call_closed {o} {r} {next} {after} grades row =
      let long = part_long first c answers fits in
      subst (λ k. Closed o r k n next held after answers answers) (sym e) (record {
        row = λ k. (
            let a = arguments_on l c k in
            let count = a.count in
            row (record { base = a.base; rows = a.rows; count = a.count ∙ sym long; wide = λ i lt. a.wide i (omega arith); is = a.is })
            ∙ ap (λ u. k.base ++ u) (call_same o (λ j. get_or (part first c answers) j o.zero) (r l.index) n 0 k.rows (λ i le lt.
            get_or-take (first + c - first) (drop first answers) i o.zero (omega arith) ∙ get_or-drop first answers i o.zero ∙ sym (grades i))));
        own = λ k. sym (put_none next answers);
      })
