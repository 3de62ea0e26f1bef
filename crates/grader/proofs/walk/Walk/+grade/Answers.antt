use Rattle.std.proofs.Common.{◌≡◌, ◌+◌, ◌*◌, ◌≤◌, length, sym, refl, ap, ◌∙◌, subst, arith, rules}
use Rattle.plan.specs.Kinds.{kids_of, binders}
use Rattle.plan.specs.Trees.{head}
use Rattle.plan.specs.Table.{term_at, node_size}
use Rattle.grader.specs.Stack.{room}
use Rattle.plan.proofs.Kids.{kids_counted}
use Rattle.grader.specs.Walk.{KidsOn, lower_needs}
use Rattle.grader.proofs.Walking.{Walking, begins, kid_ready, kid_done, all_walked, node_closed}
use Rattle.grader.proofs.walk.Walk.+grade.Goals as goal

pub loop-k-init : goal.loop-k-init
loop-k-init g t c =
    let o = g.S.Scale.ops in
    let ns = c.args.self.now.nodes.now in
    let gs = c.args.self.now.lower.now in
    let i = c.args.at in
    let e = term_at ns i in
    let p = c.args.progress.now in
    let s = c.requires.spells i c.requires.within in
    let own : c.binders_of.result ≡ binders (head e) = c.binders_of.ensures.is ∙ ap binders s.0 in
    record {
      count_is = c.kids_of-k-end.ensures ∙ ap kids_of s.0 ∙ kids_counted e;
      node_is = s.0;
      same_room = refl;
      same = refl;
      walking = subst (λ b. Walking o (lower_needs o ns gs) gs ns i c.args.width p.next e p.contexts.held p.answers.now 0 (i + 1) (p.next + b) p.contexts.held p.answers.now) (sym own)
          (begins o (lower_needs o ns gs) gs ns i c.args.width p.next e p.contexts.held p.answers.now s.1 c.requires.fit c.requires.binders);
    }

pub grade-requires : goal.grade-requires
grade-requires g t c κs lives =
    let v = c.loop-k.invariant in
    let lt = c.loop-k-test.true in
    let count = v.count_is in
    let r = kid_ready v.walking v.node_is (omega arith) c.kid_width.ensures c.requires.params c.requires.known in
    let further = r.further in
    let within = r.within in
    let room_is = r.room in
    let room_was = c.requires.room in
    let same = v.same_room in
    let fits : length c.loop-k.progress.contexts.held + 16 * node_size (term_at c.args.self.now.nodes.now c.loop-k.place) ≤ room c.loop-k.progress.contexts = omega arith in
    (search rules, (lives, (c.requires.spells, (r.within, (r.fit, (r.params, (r.known, (r.binders, fits))))))))

pub bounds-self-place : goal.bounds-self-place
bounds-self-place g t c =
    let v = c.loop-k.invariant in
    let lt = c.loop-k-test.true in
    let count = v.count_is in
    (kid_ready v.walking v.node_is (omega arith) c.kid_width.ensures c.requires.params c.requires.known).within

pub offset_bounds-self-place : goal.offset_bounds-self-place
offset_bounds-self-place g t c =
    let v = c.loop-k.invariant in
    let lt = c.loop-k-test.true in
    let count = v.count_is in
    let within = (kid_ready v.walking v.node_is (omega arith) c.kid_width.ensures c.requires.params c.requires.known).within in
    search rules

pub loop-k-preserved : goal.loop-k-preserved
loop-k-preserved g t c =
    let v = c.loop-k.invariant in
    let lt = c.loop-k-test.true in
    let count = v.count_is in
    let r = c.grade.ensures in
    record {
      count_is = v.count_is;
      node_is = v.node_is;
      same_room = r.room ∙ v.same_room;
      same = r.same ∙ v.same;
      walking = kid_done v.walking v.node_is (omega arith) c.kid_width.ensures r.held r.answers r.next;
    }

pub close-requires-clause-kids : goal.close-requires-clause-kids
close-requires-clause-kids g t c =
    let v = c.loop-k.invariant in
    let left = c.loop-k-test.false in
    let count = v.count_is in
    subst (λ d. KidsOn c.loop-k.progress.contexts.held d c.args.width) (sym v.node_is) (all_walked v.walking (omega arith)).on

pub returns-clause-held : goal.returns-clause-held
returns-clause-held g t c =
    let v = c.loop-k.invariant in
    let left = c.loop-k-test.false in
    let count = v.count_is in
    (node_closed v.walking (omega arith) v.node_is c.requires.params c.requires.known c.requires.fit c.close.ensures.closed).0

pub returns-clause-answers : goal.returns-clause-answers
returns-clause-answers g t c =
    let v = c.loop-k.invariant in
    let left = c.loop-k-test.false in
    let count = v.count_is in
    (node_closed v.walking (omega arith) v.node_is c.requires.params c.requires.known c.requires.fit c.close.ensures.closed).1

pub returns-clause-next : goal.returns-clause-next
returns-clause-next g t c =
    let v = c.loop-k.invariant in
    let left = c.loop-k-test.false in
    let count = v.count_is in
    (all_walked v.walking (omega arith)).binder_is
