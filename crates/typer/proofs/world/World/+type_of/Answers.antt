use Rattle.std.proofs.Common.{◌≡◌, ◌+◌, ◌≤◌, [], ◌∷◌, ◌++◌, length, take, IfOk, Ok, Err, vec_len, vec_capacity, Result, sym, refl, ap, ap₂, ◌∙◌, subst, append_assoc, arith, length-append, rules}
use Rattle.std.proofs.lemmas.List.{length-reverse, get_or_read}
use Rattle.std.proofs.lemmas.Result.{err_from_is_err_and}
use Rattle.plan.specs.Kinds.{kids_of}
use Rattle.plan.specs.Trees.{head, flat}
use Rattle.plan.specs.Table.{term_at, row_at, node_size, no_row}
use Rattle.plan.proofs.Stacks.{flat_all}
use Rattle.plan.proofs.Kids.{kids_counted}
use Rattle.typer.specs.Walk.{world_in, scope_of, node_type}
use Rattle.typer.specs.Levels.{levels}
use Rattle.typer.specs.Depths.{FewKids}
use Rattle.typer.proofs.Walking.{Walking, kid_scope_of, node_type_of, begins, next, no_scope, no_type, goes_on, none_left}
use Rattle.typer.proofs.world.World.+type_of.Goals as goal

pub loop-init : goal.loop-init
loop-init t c =
    let ns = c.args.self.now.plan.now.nodes.items in
    let i = c.args.at in
    let e = term_at ns i in
    let s = c.requires.spells i c.requires.within in
    let w = world_in c.args.self.now.plan.now in
    let Γ = scope_of c.args.scope.now.items in
    let row = get_or_read ns i c.index.result.now c.requires.within c.index.ensures no_row in
    let node = ap (λ r. r.node) row ∙ s.0 in
    let before = c.push_reserved.new.self.items in
    let none = c.new-kids.ensures in (
      node,
      c.kids_of-end.ensures ∙ ap kids_of node ∙ kids_counted e,
      refl,
      ap length none,
      refl,
      subst (λ us. Walking w Γ ns i e us (i + 1) before before) (sym none) (begins w Γ ns i e before s.1 c.requires.few),
    )

pub returns-in_err-open_kid-clause-answer : goal.returns-in_err-open_kid-clause-answer
returns-in_err-open_kid-clause-answer t c =
    let p = err_from_is_err_and c.from_residual.result c.from_residual.ensures.1 in
    let ns = c.args.self.now.plan.now.nodes.items in
    let i = c.args.at in
    let e = term_at ns i in
    let w = world_in c.args.self.now.plan.now in
    let Γ = scope_of c.args.scope.now.items in
    let us = c.loop.kids.items in
    let v = c.loop.invariant in
    let lt = c.loop-test.true in
    let before = c.push_reserved.new.self.items in
    let x = next w Γ ns i e us c.loop.place before c.loop.levels.items v.5 (omega (arith, v.3, v.1)) in
    let no = kid_scope_of w i (Err c.in_err-open_kid.field-0.0) v.0 v.2 c.as_slice.ensures.value c.in_err-open_kid.ensures in
    rw (p.1, p.2) (sym (no_scope w Γ ns i e us c.loop.place before c.loop.levels.items v.5 x c.in_err-open_kid.field-0.0 no))

pub type_of-requires : goal.type_of-requires
type_of-requires t c =
    let ns = c.args.self.now.plan.now.nodes.items in
    let i = c.args.at in
    let e = term_at ns i in
    let w = world_in c.args.self.now.plan.now in
    let Γ = scope_of c.args.scope.now.items in
    let us = c.loop.kids.items in
    let v = c.loop.invariant in
    let lt = c.loop-test.true in
    let before = c.push_reserved.new.self.items in
    let so_far = c.loop.levels.items in
    let x = next w Γ ns i e us c.loop.place before so_far v.5 (omega (arith, v.3, v.1)) in
    let within = x.within in
    let behind = v.5.behind in
    let few = subst (λ y. FewKids (flat y)) (sym x.tree) x.few_here in
    let size = ap node_size x.tree in
    let sized = v.5.sized in
    let rest_is = ap (λ r. length (flat_all r)) x.is ∙ length-append (flat x.kid) (flat_all x.others) in
    let room = c.requires.room in
    let cap = v.4 ∙ c.push_reserved.ensures.capacity in
    let pushed = c.push_reserved.ensures.len in
    let len_start = c.push_reserved.new.self.ok.0 in
    let len_now = c.loop.levels.ok.0 in
    let fits : vec_len c.loop.levels + node_size (term_at ns c.loop.place) ≤ vec_capacity c.loop.levels = omega arith in
    (search rules, (c.requires.spells, (within, (few, fits))))

pub returns-in_err-y-clause-answer : goal.returns-in_err-y-clause-answer
returns-in_err-y-clause-answer t c =
    let p = err_from_is_err_and c.from_residual-in_err-y.result c.from_residual-in_err-y.ensures.1 in
    let ns = c.args.self.now.plan.now.nodes.items in
    let i = c.args.at in
    let e = term_at ns i in
    let w = world_in c.args.self.now.plan.now in
    let Γ = scope_of c.args.scope.now.items in
    let us = c.loop.kids.items in
    let v = c.loop.invariant in
    let lt = c.loop-test.true in
    let before = c.push_reserved.new.self.items in
    let so_far = c.loop.levels.items in
    let x = next w Γ ns i e us c.loop.place before so_far v.5 (omega (arith, v.3, v.1)) in
    let inner = scope_of c.open_kid.new.scope.items in
    let scope_is = kid_scope_of w i (Ok inner) v.0 v.2 c.as_slice.ensures.value c.in_ok-open_kid.ensures.0 in
    rw (p.1, p.2) (sym (no_type w Γ ns i e us c.loop.place before so_far v.5 x inner scope_is c.in_err-y.field-0.0 (sym c.in_err-y.ensures.answer)))

pub index-requires-in-loop : goal.index-requires-in-loop
index-requires-in-loop t c =
    let ns = c.args.self.now.plan.now.nodes.items in
    let i = c.args.at in
    let v = c.loop.invariant in
    let lt = c.loop-test.true in
    let x = next (world_in c.args.self.now.plan.now) (scope_of c.args.scope.now.items) ns i (term_at ns i) c.loop.kids.items c.loop.place c.push_reserved.new.self.items c.loop.levels.items v.5 (omega (arith, v.3, v.1)) in
    omega (arith, x.within, c.args.self.now.plan.now.nodes.ok.0)

pub loop-preserved : goal.loop-preserved
loop-preserved t c =
    let ns = c.args.self.now.plan.now.nodes.items in
    let i = c.args.at in
    let e = term_at ns i in
    let w = world_in c.args.self.now.plan.now in
    let Γ = scope_of c.args.scope.now.items in
    let us = c.loop.kids.items in
    let v = c.loop.invariant in
    let lt = c.loop-test.true in
    let before = c.push_reserved.new.self.items in
    let so_far = c.loop.levels.items in
    let x = next w Γ ns i e us c.loop.place before so_far v.5 (omega (arith, v.3, v.1)) in
    let inner = c.open_kid.new.scope.items in
    let opened = c.in_ok-open_kid.ensures in
    let scope_is = kid_scope_of w i (Ok (scope_of inner)) v.0 v.2 c.as_slice.ensures.value opened.0 in
    let one = c.in_ok-y.ensures in
    let later = c.type_of.new.levels.items in
    let grown : later ≡ so_far ++ levels (length (scope_of inner)) (term_at ns c.loop.place) =
    one.levels ∙ ap (λ n. so_far ++ levels n (term_at ns c.loop.place)) (sym (length-reverse inner)) in
    let place = c.from-place.ensures ∙ ap (λ r. r.end) (get_or_read ns c.loop.place c.index-in-loop.result.now x.within c.index-in-loop.ensures no_row) in (
      v.0,
      v.1,
      c.truncate.ensures.items ∙ ap₂ take (c.len-depth.ensures.value ∙ sym (ap length v.2)) one.scope ∙ opened.1 ∙ v.2,
      c.push.ensures.len ∙ ap (λ n. n + 1) v.3,
      one.cap ∙ v.4,
      subst (λ p. Walking w Γ ns i e c.push.new.self.items p before later) (sym place)
          (subst (λ vs. Walking w Γ ns i e vs (row_at ns c.loop.place).end before later) (sym c.push.ensures.items)
          (goes_on w Γ ns i e us c.loop.place before so_far v.5 x (scope_of inner) scope_is c.in_ok-y.y later (sym one.answer) grown)),
    )

pub returns-clause-answer : goal.returns-clause-answer
returns-clause-answer t c =
    let ns = c.args.self.now.plan.now.nodes.items in
    let i = c.args.at in
    let e = term_at ns i in
    let w = world_in c.args.self.now.plan.now in
    let Γ = scope_of c.args.scope.now.items in
    let v = c.loop.invariant in
    let left = c.loop-test.false in
    let h = none_left w Γ ns i e c.loop.kids.items c.loop.place c.push_reserved.new.self.items c.loop.levels.items v.5 (omega (arith, v.3, v.1)) in
    let typed : c.node_type.result ≡ node_type w Γ i (head e) c.loop.kids.items = c.node_type.ensures ∙ node_type_of w i v.0 (c.as_slice-2.ensures.value ∙ v.2) c.as_slice-3.ensures.value in
    typed ∙ sym h.checks

made_any : {X F P : Type 0} (r : Result X F) → P → IfOk r (λ _. P)
made_any (Ok x) h = h
made_any (Err e) h = tt

pub returns-clause-levels : goal.returns-clause-levels
returns-clause-levels t c =
    let ns = c.args.self.now.plan.now.nodes.items in
    let i = c.args.at in
    let e = term_at ns i in
    let ys = c.args.scope.now.items in
    let v = c.loop.invariant in
    let left = c.loop-test.false in
    let start = c.args.levels.now.items in
    let before = c.push_reserved.new.self.items in
    let h = none_left (world_in c.args.self.now.plan.now) (scope_of ys) ns i e c.loop.kids.items c.loop.place before c.loop.levels.items v.5 (omega (arith, v.3, v.1)) in
    let depth = length-reverse ys in
    let pushed : before ≡ start ++ (length (scope_of ys) ∷ []) = c.push_reserved.ensures.items ∙ ap (λ n. start ++ (n ∷ [])) (c.len-depth.ensures.value ∙ sym depth) in
    made_any c.node_type.result (
    h.after_is ∙ ap (λ l. l ++ h.done) pushed ∙ append_assoc start (length (scope_of ys) ∷ []) h.done
    ∙ ap (λ l. start ++ l) (sym h.levels_are) ∙ ap (λ n. start ++ levels n e) depth)
