use Rattle.std.proofs.Common.{◌∙◌, arith}
use lib.ListN.{length-map}
use Rattle.std.proofs.lemmas.List.{length-reverse, length_push}
use Rattle.std.proofs.lemmas.Iterator.Adapters.{YieldsList-from_rev_slice}
use Rattle.std.proofs.lemmas.Iterator.Consumers.{YieldsList-turn, YieldsList-end}
use Rattle.scales.specs.Rows.{row_times}
use Rattle.grader.proofs.Calling.{turn_deep, turn_on, taken_all}
use Rattle.grader.proofs.rules.close_call.Goals as goal

pub scale_below-requires : goal.scale_below-requires
scale_below-requires g c =
    let t = YieldsList-turn (YieldsList-from_rev_slice c.args.grades.now cc) c.loop-grade.yielded _ c.loop-grade.yielded_by _ _ c.in-Some.grade c.in-Some.is c.next.ensures.steps in
    turn_deep g.S.Scale.ops c.args.width c.args.grades.now _ _ _ c.in-Some.grade.now t c.loop-grade.invariant.taken

pub add_top-requires : goal.add_top-requires
add_top-requires g c =
    let t = YieldsList-turn (YieldsList-from_rev_slice c.args.grades.now cc) c.loop-grade.yielded _ c.loop-grade.yielded_by _ _ c.in-Some.grade c.in-Some.is c.next.ensures.steps in
    let deep = turn_deep g.S.Scale.ops c.args.width c.args.grades.now _ _ _ c.in-Some.grade.now t c.loop-grade.invariant.taken in
    let same = c.scale_below.ensures.used in
    omega arith

pub loop-grade-preserved : goal.loop-grade-preserved
loop-grade-preserved g c =
    let o = g.S.Scale.ops in
    let x = c.in-Some.grade.now in
    let t = YieldsList-turn (YieldsList-from_rev_slice c.args.grades.now cc) c.loop-grade.yielded _ c.loop-grade.yielded_by _ _ c.in-Some.grade c.in-Some.is c.next.ensures.steps in
    let long = length-reverse c.args.grades.now in
    let lt = t.0 in
    let more = length_push c.loop-grade.yielded c.in-Some.grade in
    record {
      same_room = c.add_top.ensures.room ∙ c.scale_below.ensures.room ∙ c.loop-grade.invariant.same_room;
      few = omega arith;
      taken = turn_on o c.args.width c.args.grades.now _ _ _ x t c.loop-grade.invariant.taken c.add_top.new.self.held _ more
          (λ f a b ea eb is. c.add_top.ensures.held f (row_times o x a) b (length-map a (o.times x) ∙ ea) eb (c.scale_below.ensures.held f a b ea eb is));
    }

pub returns-clause-held : goal.returns-clause-held
returns-clause-held g c k =
    let t = YieldsList-end (YieldsList-from_rev_slice c.args.grades.now cc) c.loop-grade.yielded _ c.loop-grade.yielded_by _ _ c.in-None.is c.next.ensures.steps in
    taken_all g.S.Scale.ops c.args.width c.args.grades.now c.args.contexts.now.held _ _ _ t.1 c.push_none.ensures.held c.loop-grade.invariant.taken k
