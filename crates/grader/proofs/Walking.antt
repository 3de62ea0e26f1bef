-- The walk from kid to kid. Assumes nothing.
use Rattle.std.proofs.Common.{◌≡◌, ℕ, suc, ◌+◌, ◌*◌, ◌<◌, ◌≤◌, List, [], ◌∷◌, ◌++◌, length, get_or, sym, refl, ap, ◌∙◌, subst, ap₂, append_assoc, append-nil, arith, length-append}
use Rattle.scales.specs.Laws.{Ops}
use Rattle.plan.specs.declared.Row.{Row}
use Rattle.plan.specs.declared.Leg.{Leg as FlatLeg}
use Rattle.plan.specs.declared.Node.{Node}
use Rattle.plan.specs.Limits.{max_levels}
use Rattle.plan.specs.Kinds.{binders}
use Rattle.plan.specs.Trees.{Term, flat, head, kids}
use Rattle.plan.specs.Table.{term_at, row_at, node_size, Stand}
use Rattle.plan.proofs.Ends.{some_nodes}
use Rattle.plan.proofs.Stacks.{flat_all}
use Rattle.plan.proofs.Kids.{flat_head, kids_counted}
use Rattle.typer.specs.Walk.{no_leg}
use Rattle.grading.specs.Least.{inner}
use Rattle.grader.specs.Walk.{Fit, KidsOn, Closed, Known, ParamsIn, params_at, param_grade, kid_width, node_row, own_grades, concat, put}
use Rattle.grading.proofs.Numbers.{from_0_length}
use Rattle.grader.proofs.Calling.{concat_push}
use Rattle.grader.proofs.Puts.{put_more, put_front, put_below, put_long}
use Rattle.grader.proofs.Closing.{put_none}
use Rattle.grader.proofs.Views.{row, kid_rows, each_inner, row_view, inner_view, own_count, rows_length, rows_wide, rows_push, inner_push, node_same, KidsFit, fit_view}

module _ {G : Type 0} (o : Ops G) (Γ : List (ℕ → G)) (gs : List FlatLeg) (ns : List Row) (i n next : ℕ) (t : Term) (base start : List G) where
  abbrev done : List Term → List G
  done front = each_inner o Γ n (head t) 0 front

  abbrev own : ℕ
  own = next + binders (head t)

  -- k kids are graded and the next one stands at p; their contexts stand on `base`, and the grades of their binders from `own` on.
  pub record Walking (k p binder : ℕ) (held answers : List G) : Type 0 where
    pub front : List Term
    pub rest : List Term
    pub is : kids t ≡ front ++ rest
    pub counted : length front ≡ k
    pub stand : Stand ns p rest
    pub held_is : held ≡ base ++ concat (kid_rows o Γ n (head t) 0 front)
    pub answers_are : answers ≡ put own (done front) start
    pub binder_is : binder ≡ own + length (done front)
    pub fit : KidsFit gs n (head t) k rest
    pub behind : i < p
    pub sized : length held + 16 * length (flat_all rest) + 16 ≤ length base + 16 * node_size t
    pub enough : own + length (done (kids t)) ≤ length start

  pub inner_length : length (inner o Γ t n) ≡ binders (head t) + length (done (kids t))
  inner_length =
      ap length (inner_view o Γ n t) ∙ length-append (own_grades o (head t) n (kid_rows o Γ n (head t) 0 (kids t))) (done (kids t))
      ∙ ap (λ m. m + length (done (kids t))) (own_count o Γ (head t) n (kid_rows o Γ n (head t) 0 (kids t)))

  pub begins : Stand ns (i + 1) (kids t) → Fit gs n t → next + length (inner o Γ t n) ≤ length start → Walking 0 (i + 1) own base start
  begins s f le =
      let size_is = ap length (flat_head t) in
      let all = inner_length in
      record {
        front = [];
        rest = kids t;
        is = refl;
        counted = refl;
        stand = s;
        held_is = sym (append-nil base);
        answers_are = sym (put_none own start);
        binder_is = omega arith;
        fit = (fit_view gs n t f).2;
        behind = omega arith;
        sized = omega arith;
        enough = omega arith;
      }

  -- the kid that stands next
  pub record Next (k p binder : ℕ) (held answers : List G) (h : Walking k p binder held answers) : Type 0 where
    pub kid : Term
    pub others : List Term
    pub rest_is : h.rest ≡ kid ∷ others
    pub within : p < length ns
    pub tree : term_at ns p ≡ kid
    pub ends : (row_at ns p).end ≡ p + node_size kid
    pub stand_behind : Stand ns (row_at ns p).end others
    pub fit_here : Fit gs (kid_width n (head t) k) kid
    pub fit_behind : KidsFit gs n (head t) (suc k) others
    pub kids_are : kids t ≡ (h.front ++ (kid ∷ [])) ++ others
    pub room : length held + 16 * node_size kid + 16 * length (flat_all others) + 16 ≤ length base + 16 * node_size t
    pub fits : binder + length (inner o Γ kid (kid_width n (head t) k)) ≤ length answers
    pub later : next ≤ binder

  pub next_kid : (k p binder : ℕ) (held answers : List G) (h : Walking k p binder held answers) → k < length (kids t) → Next k p binder held answers h
  next_kid k p binder held answers h lt = go h.rest refl
    where
      go : (r : List Term) → h.rest ≡ r → Next k p binder held answers h
      go [] e = absurd (let a = ap length h.is ∙ length-append h.front h.rest in let b = ap length e in let c = h.counted in omega arith)
      go (a ∷ ts) e =
          let s = subst (Stand ns p) e h.stand in
          let f = subst (KidsFit gs n (head t) k) e h.fit in
          let kids_are : kids t ≡ (h.front ++ (a ∷ [])) ++ ts = h.is ∙ ap (λ r. h.front ++ r) e ∙ sym (append_assoc h.front (a ∷ []) ts) in
          let w = kid_width n (head t) k in
          let flat_is : length (flat_all h.rest) ≡ node_size a + length (flat_all ts) = ap (λ r. length (flat_all r)) e ∙ length-append (flat a) (flat_all ts) in
          let sized = h.sized in
          let parts : length (done (kids t)) ≡ length (done h.front) + (length (inner o Γ a w) + length (each_inner o Γ n (head t) (suc k) ts)) =
          ap (λ l. length (done l)) (h.is ∙ ap (λ r. h.front ++ r) e) ∙ ap length (inner_push o Γ n (head t) 0 h.front (a ∷ ts)) ∙ length-append (done h.front) (each_inner o Γ n (head t) (0 + length h.front) (a ∷ ts))
          ∙ ap (λ m. length (done h.front) + length (each_inner o Γ n (head t) m (a ∷ ts))) (let z = h.counted in let q : 0 + length h.front ≡ k = omega arith in q)
          ∙ ap (λ m. length (done h.front) + m) (length-append (inner o Γ a w) (each_inner o Γ n (head t) (suc k) ts)) in
          let enough = h.enough in
          let binder_is = h.binder_is in
          let long = ap length h.answers_are ∙ put_long own (done h.front) start (omega arith) in
          record { kid = a; others = ts; rest_is = e; within = s.0; tree = s.1; ends = s.2; stand_behind = s.3; fit_here = f.0; fit_behind = f.1; kids_are = kids_are; room = omega arith; fits = omega arith; later = omega arith }

  module _ (k p binder : ℕ) (held answers : List G) (h : Walking k p binder held answers) (x : Next k p binder held answers h) where
    pub goes_on : (held' answers' : List G) (binder' : ℕ) → held' ≡ held ++ row o Γ (kid_width n (head t) k) (term_at ns p)
        → answers' ≡ put binder (inner o Γ (term_at ns p) (kid_width n (head t) k)) answers → binder' ≡ binder + length (inner o Γ (term_at ns p) (kid_width n (head t) k))
        → Walking (k + 1) (row_at ns p).end binder' held' answers'
    goes_on held' answers' binder' eh ea eb =
        let w = kid_width n (head t) k in
        let a = x.kid in
        let counted = h.counted in
        let place : 0 + length h.front ≡ k = omega arith in
        let k_is : suc k ≡ k + 1 = omega arith in
        let new : done (h.front ++ (a ∷ [])) ≡ done h.front ++ inner o Γ a w =
        inner_push o Γ n (head t) 0 h.front (a ∷ []) ∙ ap (λ m. done h.front ++ each_inner o Γ n (head t) m (a ∷ [])) place ∙ ap (λ l. done h.front ++ l) (append-nil (inner o Γ a w)) in
        let new_length = ap length new ∙ length-append (done h.front) (inner o Γ a w) in
        let fits = x.fits in
        let binder_is = h.binder_is in
        let enough = h.enough in
        let front_less : own + length (done h.front) ≤ length start = omega (arith, ap (λ l. length (done l)) h.is ∙ ap length (inner_push o Γ n (head t) 0 h.front h.rest) ∙ length-append (done h.front) (each_inner o Γ n (head t) (0 + length h.front) h.rest)) in
        let long = ap length h.answers_are ∙ put_long own (done h.front) start front_less in
        let one_more = length-append h.front (a ∷ []) in
        let held_long = ap length eh ∙ length-append held (row o Γ w (term_at ns p)) ∙ ap (λ m. length held + m) (from_0_length w _) in
        let wide : w ≤ max_levels = (fit_view gs w a x.fit_here).0 in
        let some = some_nodes a in
        let room = x.room in
        let behind = h.behind in
        let ends = x.ends in
        record {
          front = h.front ++ (a ∷ []);
          rest = x.others;
          is = x.kids_are;
          counted = omega arith;
          stand = x.stand_behind;
          held_is =
              eh ∙ ap₂ (λ l b. l ++ row o Γ w b) h.held_is x.tree ∙ append_assoc base (concat (kid_rows o Γ n (head t) 0 h.front)) (row o Γ w a)
              ∙ ap (λ l. base ++ l) (sym (concat_push (kid_rows o Γ n (head t) 0 h.front) (row o Γ w a))
              ∙ ap (λ m. concat (kid_rows o Γ n (head t) 0 h.front ++ (row o Γ (kid_width n (head t) m) a ∷ []))) (sym place) ∙ ap concat (sym (rows_push o Γ n (head t) 0 h.front a)));
          answers_are =
              ea ∙ ap₂ (λ b l. put binder (inner o Γ b w) l) x.tree h.answers_are ∙ put_more own binder (done h.front) (inner o Γ a w) start h.binder_is (omega arith)
              ∙ ap (λ l. put own l start) (sym new);
          binder_is = eb ∙ ap₂ (λ b m. m + length (inner o Γ b w)) x.tree h.binder_is ∙ (let q : own + length (done h.front) + length (inner o Γ a w) ≡ own + length (done (h.front ++ (a ∷ []))) = omega arith in q);
          fit = subst (λ m. KidsFit gs n (head t) m x.others) k_is x.fit_behind;
          behind = omega arith;
          sized = omega arith;
          enough = h.enough;
        }

  -- what the answers in front hold stays
  pub still_known : (b : ℕ) (xs : List G) → ParamsIn gs next → next ≤ b → b ≤ length start → Known o Γ gs start → Known o Γ gs (put b xs start)
  still_known b xs p le fits h l j lt lj =
      let bound = p l lt in
      put_below b ((get_or gs l no_leg).binder.index + j) xs start o.zero (omega arith) fits ∙ h l j lt lj

  -- The kid that stands next can be graded, w levels being in scope.
  pub record KidReady (p binder w : ℕ) (held answers : List G) : Type 0 where
    pub further : i < p
    pub within : p < length ns
    pub fit : Fit gs w (term_at ns p)
    pub params : ParamsIn gs binder
    pub known : Known o Γ gs answers
    pub binders : binder + length (inner o Γ (term_at ns p) w) ≤ length answers
    pub room : length held + 16 * node_size (term_at ns p) ≤ length base + 16 * node_size t

  -- all kids are graded
  pub record Walked (binder : ℕ) (held answers : List G) : Type 0 where
    pub on : KidsOn held (head t) n
    pub base_is : on.base ≡ base
    pub rows_are : on.rows ≡ kid_rows o Γ n (head t) 0 (kids t)
    pub answers_are : answers ≡ put own (done (kids t)) start
    pub binder_is : binder ≡ next + length (inner o Γ t n)
    pub enough : own + length (done (kids t)) ≤ length start

  pub none_left : (k p binder : ℕ) (held answers : List G) → Walking k p binder held answers → length (kids t) ≤ k → Walked binder held answers
  none_left k p binder held answers h le = go h.rest refl
    where
      go : (r : List Term) → h.rest ≡ r → Walked binder held answers
      go (a ∷ ts) e = absurd (let q = ap length h.is ∙ length-append h.front h.rest in let b = ap length e in let c = h.counted in omega arith)
      go [] e =
          let all : h.front ≡ kids t = sym (h.is ∙ ap (λ r. h.front ++ r) e ∙ append-nil h.front) in
          let b = h.binder_is ∙ ap (λ l. own + length (done l)) all in
          let c = inner_length in
          record {
            on = record {
              base = base;
              rows = kid_rows o Γ n (head t) 0 (kids t);
              count = rows_length o Γ n (head t) 0 (kids t) ∙ sym (kids_counted t);
              wide = λ m lt. (let kc = kids_counted t in rows_wide o Γ n (head t) 0 (kids t) m (omega arith) ∙ ap (kid_width n (head t)) (let q : 0 + m ≡ m = omega arith in q));
              is = h.held_is ∙ ap (λ l. base ++ concat (kid_rows o Γ n (head t) 0 l)) all;
            };
            base_is = refl;
            rows_are = refl;
            answers_are = h.answers_are ∙ ap (λ l. put own (done l) start) all;
            binder_is = omega arith;
            enough = h.enough;
          }

  module _ (binder : ℕ) (held answers : List G) (h : Walked binder held answers) where
    pub closed_row : (after later : List G) → Known o Γ gs answers → Fit gs n t → Closed o (params_at o gs answers) (head t) n next held after answers later → after ≡ base ++ row o Γ n t
    closed_row after later known f c =
        c.row h.on ∙ ap₂ (λ b us. b ++ node_row o (params_at o gs answers) (head t) n us) h.base_is h.rows_are
        ∙ ap (λ l. base ++ l) (
        node_same o Γ (params_at o gs answers) (param_grade o Γ) gs (head t) n (kid_rows o Γ n (head t) 0 (kids t)) (rows_length o Γ n (head t) 0 (kids t) ∙ sym (kids_counted t)) (fit_view gs n t f).1
        (λ l c q i lt. (let e = q.1 in known l i q.0 (omega arith))) ∙ sym (row_view o Γ n t))

    pub closed_answers : (after later : List G) → Closed o (params_at o gs answers) (head t) n next held after answers later → later ≡ put next (inner o Γ t n) start
    closed_answers after later c =
        let us = kid_rows o Γ n (head t) 0 (kids t) in
        let count = own_count o Γ (head t) n us in
        let enough = h.enough in
        c.own h.on ∙ ap₂ (λ vs l. put next (own_grades o (head t) n vs) l) h.rows_are h.answers_are
        ∙ put_front next own (own_grades o (head t) n us) (done (kids t)) start (omega arith) (omega arith) ∙ ap (λ l. put next l start) (sym (inner_view o Γ n t))

-- ---- the same, as the walk asks for it

module _ {G : Type 0} {o : Ops G} {Γ : List (ℕ → G)} {gs : List FlatLeg} {ns : List Row} {i n next : ℕ} {t : Term} {base start : List G} {k p binder : ℕ} {held answers : List G}
    (h : Walking o Γ gs ns i n next t base start k p binder held answers) where
  done_long : length (each_inner o Γ n (head t) 0 (kids t)) ≡ length (each_inner o Γ n (head t) 0 h.front) + length (each_inner o Γ n (head t) (0 + length h.front) h.rest)
  done_long =
      ap (λ l. length (each_inner o Γ n (head t) 0 l)) h.is ∙ ap length (inner_push o Γ n (head t) 0 h.front h.rest)
      ∙ length-append (each_inner o Γ n (head t) 0 h.front) (each_inner o Γ n (head t) (0 + length h.front) h.rest)

  module _ {node : Node} {w : ℕ} (e : node ≡ head t) (lt : k < length (kids t)) (wide : w ≡ kid_width n node k) where
    w_is : w ≡ kid_width n (head t) k
    w_is = wide ∙ ap (λ o. kid_width n o k) e

    kid : Next o Γ gs ns i n next t base start k p binder held answers h
    kid = next_kid o Γ gs ns i n next t base start k p binder held answers h lt

    pub kid_ready : ParamsIn gs next → Known o Γ gs start → KidReady o Γ gs ns i n next t base start p binder w held answers
    kid_ready params known =
        let x = kid in
        let enough = h.enough in
        let parts = done_long in
        let size = ap node_size x.tree in
        let room = x.room in
        record {
          further = h.behind;
          within = x.within;
          fit = subst (λ v. Fit gs v (term_at ns p)) (sym w_is) (subst (Fit gs (kid_width n (head t) k)) (sym x.tree) x.fit_here);
          params = λ l q. (let z = params l q in let later = x.later in omega arith);
          known = subst (Known o Γ gs) (sym h.answers_are) (still_known o Γ gs ns i n next t base start (next + binders (head t)) (each_inner o Γ n (head t) 0 h.front) params (omega arith) (omega arith) known);
          binders = subst (λ v. binder + length (inner o Γ (term_at ns p) v) ≤ length answers) (sym w_is) (subst (λ a. binder + length (inner o Γ a (kid_width n (head t) k)) ≤ length answers) (sym x.tree) x.fits);
          room = omega arith;
        }

    pub kid_done : {held' answers' : List G} {binder' : ℕ} → held' ≡ held ++ row o Γ w (term_at ns p) → answers' ≡ put binder (inner o Γ (term_at ns p) w) answers
        → binder' ≡ binder + length (inner o Γ (term_at ns p) w) → Walking o Γ gs ns i n next t base start (k + 1) (row_at ns p).end binder' held' answers'
    kid_done {held'} {answers'} {binder'} eh ea eb =
        goes_on o Γ gs ns i n next t base start k p binder held answers h kid held' answers' binder'
        (eh ∙ ap (λ v. held ++ row o Γ v (term_at ns p)) w_is)
        (ea ∙ ap (λ v. put binder (inner o Γ (term_at ns p) v) answers) w_is)
        (eb ∙ ap (λ v. binder + length (inner o Γ (term_at ns p) v)) w_is)

  module _ (left : length (kids t) ≤ k) where
    pub all_walked : Walked o Γ gs ns i n next t base start binder held answers
    all_walked = none_left o Γ gs ns i n next t base start k p binder held answers h left

    -- The node itself is closed: its context is on the stack, and the grades of its binders are among the answers.
    pub node_closed : {node : Node} {after later : List G} → node ≡ head t → ParamsIn gs next → Known o Γ gs start → Fit gs n t → Closed o (params_at o gs answers) node n next held after answers later
        → (after ≡ base ++ row o Γ n t) × (later ≡ put next (inner o Γ t n) start)
    node_closed {node} {after} {later} e params known fit c =
        let w = all_walked in
        let enough = w.enough in
        let closed = subst (λ d. Closed o (params_at o gs answers) d n next held after answers later) e c in
        let known' = subst (Known o Γ gs) (sym w.answers_are) (still_known o Γ gs ns i n next t base start (next + binders (head t)) (each_inner o Γ n (head t) 0 (kids t)) params (omega arith) (omega arith) known) in
        (closed_row o Γ gs ns i n next t base start binder held answers w after later known' fit closed, closed_answers o Γ gs ns i n next t base start binder held answers w after later closed)
