use Rattle.std.proofs.Common.{◌+◌, get_or, sym, ap, subst, inl, inr, arith}
use Rattle.std.proofs.lemmas.List.{get_or_default}
use Rattle.typer.specs.Walk.{no_leg}
use Rattle.grader.specs.Walk.{HeadFit}
use Rattle.grader.proofs.Closing.{deep, let_closed, take_closed, split_closed, case_closed, call_closed}
use Rattle.grader.proofs.rules.close.Goals as goal

pub add_top-requires : goal.add_top-requires
add_top-requires g c =
    let d = c.requires.kids in
    let n = c.args.width in
    elim c.in-Pair.is [ inl e ↦ let t = deep n d e in omega arith | inr s ↦ elim s [ inl e ↦ let t = deep n d e in omega arith | inr e ↦ let t = deep n d e in omega arith ] ]

pub scale_below-requires : goal.scale_below-requires
scale_below-requires g c = let t = deep c.args.width c.requires.kids c.in-Let.is in omega arith

pub add_top-requires-in-Let : goal.add_top-requires-in-Let
add_top-requires-in-Let g c = let t = deep c.args.width c.requires.kids c.in-Let.is in let same = c.scale_below.ensures.used in omega arith

pub grade-requires-in-Split-clause-there : goal.grade-requires-in-Split-clause-there
grade-requires-in-Split-clause-there g c = let t = deep c.args.width c.requires.kids c.in-Split.is in omega arith

pub grade-requires-in-Split-2-clause-there : goal.grade-requires-in-Split-2-clause-there
grade-requires-in-Split-2-clause-there g c = let t = deep c.args.width c.requires.kids c.in-Split.is in omega arith

pub add_top-requires-in-Split : goal.add_top-requires-in-Split
add_top-requires-in-Split g c = let t = deep c.args.width c.requires.kids c.in-Split.is in omega arith

pub grade-requires-in-Case-clause-there : goal.grade-requires-in-Case-clause-there
grade-requires-in-Case-clause-there g c = let t = deep c.args.width c.requires.kids c.in-Case.is in omega arith

pub grade-requires-in-Case-2-clause-there : goal.grade-requires-in-Case-2-clause-there
grade-requires-in-Case-2-clause-there g c = let t = deep c.args.width c.requires.kids c.in-Case.is in omega arith

pub join_top-requires : goal.join_top-requires
join_top-requires g c = let t = deep c.args.width c.requires.kids c.in-Case.is in omega arith

pub add_top-requires-in-Case : goal.add_top-requires-in-Case
add_top-requires-in-Case g c = let t = deep c.args.width c.requires.kids c.in-Case.is in let used = c.join_top.ensures.used in omega arith

pub returns-in-Let-clause-closed : goal.returns-in-Let-clause-closed
returns-in-Let-clause-closed g c = let_closed c.in-Let.is c.requires.binders c.grade-grade.ensures c.scale_below.ensures.held c.add_top-in-Let.ensures.held

pub returns-in-Take-clause-closed : goal.returns-in-Take-clause-closed
returns-in-Take-clause-closed g c = take_closed c.in-Take.is c.requires.binders c.grade.ensures c.add_top-in-Take.ensures.held

pub returns-in-Split-clause-closed : goal.returns-in-Split-clause-closed
returns-in-Split-clause-closed g c = split_closed c.in-Split.is c.requires.binders c.grade-in-Split.ensures c.grade-in-Split-2.ensures c.add_top-in-Split.ensures.held

pub returns-in-Case-clause-closed : goal.returns-in-Case-clause-closed
returns-in-Case-clause-closed g c = case_closed c.in-Case.is c.requires.binders c.grade-in-Case.ensures c.grade-in-Case-2.ensures c.join_top.ensures.held c.add_top-in-Case.ensures.held

pub returns-in-Call-clause-closed : goal.returns-in-Call-clause-closed
returns-in-Call-clause-closed g c =
    let gs = c.args.legs.now in
    let l = c.in-Call.leg.index in
    let called = subst (HeadFit gs c.args.width) c.in-Call.is c.requires.head in
    let known = c.requires.known l called.0 in
    let count = called.1 in
    let leg_is = get_or_default gs l c.index-legs-leg.result no_leg called.0 in
    let first = ap (λ f. f.binder.index) leg_is in
    call_closed _ c.args.answers.now (omega arith) c.in-Call.is (λ j. ap (λ f. get_or c.args.answers.now (f.binder.index + j) g.S.Scale.ops.zero) (sym leg_is)) c.close_call.ensures.held
