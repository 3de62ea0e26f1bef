-- The walk from kid to kid. Assumes nothing.
use Rattle.std.proofs.Common.{◌≡◌, ℕ, suc, ◌+◌, ◌<◌, ◌≤◌, Bool, true, false, cond, leb, List, [], ◌∷◌, ◌++◌, length, Some, None, Ok, Err, Option, sym, refl, ap, ◌∙◌, subst, ap₂, append_assoc, append-nil, arith, length-append}
use lib.Dec.{eqb-suc-zero}
use Rattle.std.proofs.lemmas.List.{length-reverse}
use Rattle.std.specs.List.{slice_get}
use Rattle.plan.specs.declared.TypeId.{TypeId}
use Rattle.plan.specs.declared.Node.{Node}
use Rattle.plan.specs.declared.Node.TheVariants.{Unit as Unit', Number, Name, Let, Take, Pair, Split, Left, Right, Case, Call, Add, Less}
use Rattle.plan.specs.declared.Row.{Row}
use Rattle.plan.specs.declared.faults.TypeFault.{TypeFault}
use Rattle.plan.specs.declared.faults.TypeFault.TheVariants.{Scope as BadScope}
use Rattle.plan.specs.Limits.{max_levels}
use Rattle.plan.specs.Trees.{Term, flat, head, kids}
use Rattle.plan.specs.Table.{term_at, row_at, node_size, Stand}
use Rattle.plan.proofs.Stacks.{flat_all}
use Rattle.plan.proofs.Kids.{flat_head}
use Rattle.typer.specs.Typing.{World, Reached, then_type, there_at, pair_parts, either_parts, check, size}
use Rattle.typer.specs.Walk.{scope_of, opened, side, inner_scope, kid_scope, node_type, check_kids}
use Rattle.typer.specs.Levels.{levels}
use Rattle.typer.specs.Depths.{inner_depth, kid_depth, kid_levels, FewKids}
use Rattle.typer.proofs.Views.{view, levels_view, levels_length}

pub few_split : (xs ys : List Node) → FewKids (xs ++ ys) → FewKids xs × FewKids ys
few_split [] ys f = (tt, f)
few_split (x ∷ xs) ys f = let r = few_split xs ys f.1 in ((f.0, r.0), r.1)

-- ---- a kid's scope has as many levels as the kid's place says

ok_same : (Γ Δ : List TypeId) → ◌≡◌ {A = Reached (List TypeId)} (Ok Γ) (Ok Δ) → Γ ≡ Δ
ok_same Γ Δ e = cc

opened_length : (b : Bool) (Θ Δ : List TypeId) (f : TypeFault) → cond {A = Reached (List TypeId)} b (Ok Θ) (Err f) ≡ Ok Δ → length Δ ≡ length Θ
opened_length true Θ Δ f e = ap length (sym (ok_same Θ Δ e))
opened_length false Θ Δ f e = grind arith

there_length : (i : ℕ) (o : Option (TypeId × TypeId)) (f : TypeId × TypeId → Reached (List TypeId)) (Δ : List TypeId) (n : ℕ)
    → ((p : TypeId × TypeId) → f p ≡ Ok Δ → length Δ ≡ n) → then_type (there_at i o) f ≡ Ok Δ → length Δ ≡ n
there_length i None f Δ n h e = grind arith
there_length i (Some p) f Δ n h e = h p e

module _ (w : World) (Γ : List TypeId) (i : ℕ) where
  more : (ys : List TypeId) (Δ : List TypeId) → opened i Γ ys ≡ Ok Δ → length Δ ≡ length Γ + length ys
  more ys Δ e =
      let r = length-reverse ys in
      opened_length (leb (length ys + length Γ) max_levels) (scope_of ys ++ Γ) Δ (BadScope i) e ∙ length-append (scope_of ys) Γ ∙ omega arith

  same : (Δ : List TypeId) → ◌≡◌ {A = Reached (List TypeId)} (Ok Γ) (Ok Δ) → length Δ ≡ length Γ
  same Δ e = ap length (sym (ok_same Γ Δ e))

  inner_length : (o : Node) (x : TypeId) (n : ℕ) (Δ : List TypeId) → inner_scope w Γ i o x n ≡ Ok Δ → length Δ ≡ inner_depth (length Γ) o
  inner_length Unit' x n Δ e = same Δ e
  inner_length (Number v) x n Δ e = same Δ e
  inner_length (Name l) x n Δ e = same Δ e
  inner_length (Let k) x n Δ e = more (x ∷ []) Δ e
  inner_length (Take k) x n Δ e = more (x ∷ []) Δ e
  inner_length Pair x n Δ e = same Δ e
  inner_length (Split k) x n Δ e = there_length i (pair_parts (slice_get w.types x.index)) (λ p. opened i Γ (p.0 ∷ p.1 ∷ [])) Δ _ (λ p q. more (p.0 ∷ p.1 ∷ []) Δ q) e
  inner_length (Left y) x n Δ e = same Δ e
  inner_length (Right y) x n Δ e = same Δ e
  inner_length (Case k) x n Δ e = there_length i (either_parts (slice_get w.types x.index)) (λ p. opened i Γ (side n p ∷ [])) Δ _ (λ p q. more (side n p ∷ []) Δ q) e
  inner_length (Call l a) x n Δ e = same Δ e
  inner_length Add x n Δ e = same Δ e
  inner_length Less x n Δ e = same Δ e

  pub scope_length : (o : Node) (us : List TypeId) (Δ : List TypeId) → kid_scope w Γ i o us ≡ Ok Δ → length Δ ≡ kid_depth (length Γ) o (length us)
  scope_length o [] Δ e = same Δ e
  scope_length o (u ∷ us) Δ e =
      inner_length o u (suc (length us)) Δ (sym (ap (λ b. cond b (Ok Γ) (inner_scope w Γ i o u (suc (length us)))) (eqb-suc-zero (length us))) ∙ e)

-- the same scope for a kid, and the same type for a node, from what the code holds of each argument
pub kid_scope_of : (w : World) (i : ℕ) {o o' : Node} {ys ys' us us' : List TypeId} (r : Reached (List TypeId)) → o ≡ o' → ys ≡ ys' → us ≡ us' → kid_scope w (scope_of ys) i o us ≡ r → kid_scope w (scope_of ys') i o' us' ≡ r
kid_scope_of w i r p q e h = rw (sym p, sym q, sym e) h

pub node_type_of : (w : World) (i : ℕ) {o o' : Node} {ys ys' us us' : List TypeId} → o ≡ o' → ys ≡ ys' → us ≡ us' → node_type w (scope_of ys) i o us ≡ node_type w (scope_of ys') i o' us'
node_type_of w i p q e = rw (p, q, e) refl

module _ (w : World) (Γ : List TypeId) (ns : List Row) (i : ℕ) (t : Term) where
  -- Kids with the types us are done and the next one stands at p; `before` ends with the node's own levels, and those of its kids' nodes follow.
  pub record Walking (us : List TypeId) (p : ℕ) (before after : List ℕ) : Type 0 where
    pub rest : List Term
    pub counted : length us + length rest ≡ length (kids t)
    pub stand : Stand ns p rest
    pub checks : check w Γ i t ≡ then_type (check_kids w Γ i (head t) us p rest) (node_type w Γ i (head t))
    pub done : List ℕ
    pub levels_are : levels (length Γ) t ≡ length Γ ∷ (done ++ kid_levels (length Γ) (head t) (length us) rest)
    pub after_is : after ≡ before ++ done
    pub few : FewKids (flat_all rest)
    pub behind : i < p
    pub sized : length after + length (flat_all rest) + 1 ≡ length before + node_size t

  pub begins : (before : List ℕ) → Stand ns (i + 1) (kids t) → FewKids (flat t) → Walking [] (i + 1) before before
  begins before s f =
      let size_is = ap length (flat_head t) in
      record {
        rest = kids t;
        counted = omega arith;
        stand = s;
        checks = view w Γ i t ∙ ap (λ p. then_type (check_kids w Γ i (head t) [] p (kids t)) (node_type w Γ i (head t))) (let e : suc i ≡ i + 1 = omega arith in e);
        done = [];
        levels_are = levels_view (length Γ) t;
        after_is = sym (append-nil before);
        few = (subst FewKids (flat_head t) f).1;
        behind = omega arith;
        sized = omega arith;
      }

  -- the kid that stands next
  pub record Next (us : List TypeId) (p : ℕ) (before after : List ℕ) (h : Walking us p before after) : Type 0 where
    pub kid : Term
    pub others : List Term
    pub is : h.rest ≡ kid ∷ others
    pub within : p < length ns
    pub tree : term_at ns p ≡ kid
    pub ends : (row_at ns p).end ≡ p + node_size kid
    pub stand_behind : Stand ns (row_at ns p).end others
    pub few_here : FewKids (flat kid)
    pub few_behind : FewKids (flat_all others)

  pub next : (us : List TypeId) (p : ℕ) (before after : List ℕ) (h : Walking us p before after) → length us < length (kids t) → Next us p before after h
  next us p before after h lt = go h.rest refl
    where
      go : (r : List Term) → h.rest ≡ r → Next us p before after h
      go [] e = absurd (let q = ap length e in let c = h.counted in omega arith)
      go (a ∷ ts) e =
          let s = subst (Stand ns p) e h.stand in
          let f = few_split (flat a) (flat_all ts) (subst (λ r. FewKids (flat_all r)) e h.few) in
          record { kid = a; others = ts; is = e; within = s.0; tree = s.1; ends = s.2; stand_behind = s.3; few_here = f.0; few_behind = f.1 }

  module _ (us : List TypeId) (p : ℕ) (before after : List ℕ) (h : Walking us p before after) (x : Next us p before after h) where
    kid_first : check w Γ i t ≡ then_type (check_kids w Γ i (head t) us p (x.kid ∷ x.others)) (node_type w Γ i (head t))
    kid_first = h.checks ∙ ap (λ r. then_type (check_kids w Γ i (head t) us p r) (node_type w Γ i (head t))) x.is

    pub no_scope : (f : TypeFault) → kid_scope w Γ i (head t) us ≡ Err f → check w Γ i t ≡ Err f
    no_scope f e =
        kid_first ∙ ap (λ s. then_type (then_type s (λ Δ. then_type (check w Δ p x.kid) (λ u. check_kids w Γ i (head t) (us ++ (u ∷ [])) (p + size x.kid) x.others))) (node_type w Γ i (head t))) e

    module _ (Δ : List TypeId) (scope_is : kid_scope w Γ i (head t) us ≡ Ok Δ) where
      in_scope : check w Γ i t ≡ then_type (then_type (check w Δ p x.kid) (λ u. check_kids w Γ i (head t) (us ++ (u ∷ [])) (p + size x.kid) x.others)) (node_type w Γ i (head t))
      in_scope =
          kid_first ∙ ap (λ s. then_type (then_type s (λ Δ. then_type (check w Δ p x.kid) (λ u. check_kids w Γ i (head t) (us ++ (u ∷ [])) (p + size x.kid) x.others))) (node_type w Γ i (head t))) scope_is

      pub no_type : (f : TypeFault) → check w Δ p (term_at ns p) ≡ Err f → check w Γ i t ≡ Err f
      no_type f e =
          in_scope ∙ ap (λ r. then_type (then_type r (λ u. check_kids w Γ i (head t) (us ++ (u ∷ [])) (p + size x.kid) x.others)) (node_type w Γ i (head t))) (ap (check w Δ p) (sym x.tree) ∙ e)

      pub goes_on : (y : TypeId) (later : List ℕ) → check w Δ p (term_at ns p) ≡ Ok y → later ≡ after ++ levels (length Δ) (term_at ns p) → Walking (us ++ (y ∷ [])) (row_at ns p).end before later
      goes_on y later e l =
          let depth = scope_length w Γ i (head t) us Δ scope_is in
          let new : later ≡ after ++ levels (kid_depth (length Γ) (head t) (length us)) x.kid = l ∙ ap₂ (λ d a. after ++ levels d a) depth x.tree in
          let here = levels (kid_depth (length Γ) (head t) (length us)) x.kid in
          let one_more = length-append us (y ∷ []) in
          let count = h.counted in
          let rest_is = ap length x.is in
          let n : suc (length us) ≡ length (us ++ (y ∷ [])) = omega arith in
          let behind = h.behind in
          let ends = x.ends in
          let sized = h.sized in
          let flat_is : length (flat_all h.rest) ≡ length (flat x.kid ++ flat_all x.others) = ap (λ r. length (flat_all r)) x.is in
          let split = length-append (flat x.kid) (flat_all x.others) in
          let grown = ap length new ∙ length-append after here in
          let level_count = levels_length (kid_depth (length Γ) (head t) (length us)) x.kid in
          record {
            rest = x.others;
            counted = omega arith;
            stand = x.stand_behind;
            checks =
                in_scope ∙ ap (λ r. then_type (then_type r (λ u. check_kids w Γ i (head t) (us ++ (u ∷ [])) (p + size x.kid) x.others)) (node_type w Γ i (head t))) (ap (check w Δ p) (sym x.tree) ∙ e)
                ∙ ap (λ q. then_type (check_kids w Γ i (head t) (us ++ (y ∷ [])) q x.others) (node_type w Γ i (head t))) (sym x.ends);
            done = h.done ++ here;
            levels_are =
                h.levels_are ∙ ap (λ l. length Γ ∷ l) (
                ap (λ r. h.done ++ kid_levels (length Γ) (head t) (length us) r) x.is
                ∙ sym (append_assoc h.done here (kid_levels (length Γ) (head t) (suc (length us)) x.others))
                ∙ ap (λ m. (h.done ++ here) ++ kid_levels (length Γ) (head t) m x.others) n);
            after_is = new ∙ ap (λ a. a ++ here) h.after_is ∙ append_assoc before h.done here;
            few = x.few_behind;
            behind = omega arith;
            sized = omega arith;
          }

  pub record Walked (us : List TypeId) (before after : List ℕ) : Type 0 where
    pub checks : check w Γ i t ≡ node_type w Γ i (head t) us
    pub done : List ℕ
    pub levels_are : levels (length Γ) t ≡ length Γ ∷ done
    pub after_is : after ≡ before ++ done

  pub none_left : (us : List TypeId) (p : ℕ) (before after : List ℕ) (h : Walking us p before after) → length (kids t) ≤ length us → Walked us before after
  none_left us p before after h le = go h.rest refl
    where
      go : (r : List Term) → h.rest ≡ r → Walked us before after
      go (a ∷ ts) e = absurd (let q = ap length e in let c = h.counted in omega arith)
      go [] e = record {
        checks = h.checks ∙ ap (λ r. then_type (check_kids w Γ i (head t) us p r) (node_type w Γ i (head t))) e;
        done = h.done;
        levels_are = h.levels_are ∙ ap (λ r. length Γ ∷ (h.done ++ kid_levels (length Γ) (head t) (length us) r)) e ∙ ap (λ l. length Γ ∷ l) (append-nil h.done);
        after_is = h.after_is;
      }
