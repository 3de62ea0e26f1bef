use Rattle.std.proofs.Common.{◌≡◌, ◌+◌, ◌-◌, length, get_or, drop, ap, ◌∙◌, ap₂, arith, length-drop}
use Rattle.std.proofs.lemmas.List.{take_all}
use Rattle.plan.specs.Table.{nodes_of}
use Rattle.plan.specs.Plans.{params_of}
use Rattle.plan.specs.Written.{binders_in}
use Rattle.typer.specs.Walk.{no_leg}
use Rattle.grader.proofs.Count.{counted}
use Rattle.grader.proofs.grades.binder_count.Goals as goal

pub returns : goal.returns
returns c =
    let ns = c.args.nodes.now in
    let gs = c.args.legs.now in
    let k = length gs - 1 in
    let some = c.in-Some.ensures.item.3.0 in
    let main_is : c.in-Some.main.now ≡ get_or gs k no_leg = c.in-Some.ensures.item.3.1 no_leg in
    let last : k + 1 ≡ length gs = omega arith in
    let first = c.in-Some.main.now.first in
    let rest : _ ≡ drop first ns = take_all (length ns - first) (drop first ns) (let l = length-drop first ns in omega arith) in
    c.binder_behind.ensures ∙ ap₂ (λ b l. binders_in (c.in-Some.main.now.binder.index + b) (nodes_of l)) c.len.ensures.value rest
    ∙ ap (λ f. binders_in (f.binder.index + length (params_of f)) (nodes_of (drop f.first ns))) main_is
    ∙ counted ns gs k last c.requires.spells c.requires.order (c.requires.ready k (omega arith))
