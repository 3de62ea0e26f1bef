use Rattle.std.proofs.Common.{◌≡◌, ◌+◌, [], ◌∷◌, ◌++◌, cond, drop, Err, sym, refl, ap, ◌∙◌, subst, arith, rules}
use Rattle.std.proofs.lemmas.Result.{err_from_is_err_and}
use Rattle.std.proofs.lemmas.List.{drop_all}
use Rattle.plan.specs.declared.faults.TypeFault.TheVariants.{«Type» as BadType}
use Rattle.plan.specs.Plans.{leg_in}
use Rattle.typer.specs.Typing.{check_leg}
use Rattle.typer.specs.Walk.{world_in}
use Rattle.typer.proofs.Legs.{few_kids, checks_are, AtLeg, first_leg, next_of, fits, lower_fails, next_leg, main_is}
use Rattle.typer.proofs.walk.type_legs.Goals as goal

pub loop-leg-init : goal.loop-leg-init
loop-leg-init c =
    let p = c.args.plan.now in
    let w = world_in p in
    let ns = p.nodes.items in
    let gs = p.legs.items in
    let split : gs ≡ c.in-Some.lower.now ++ c.in-Some.main.now ∷ [] = search rules in
    (refl, subst (AtLeg w ns gs (c.in-Some.lower.now ++ c.in-Some.main.now ∷ [])) (sym c.requires.empty) (subst (λ l. AtLeg w ns gs l []) split (first_leg w ns gs c.requires.sound.in_order (few_kids p c.requires.sound))))

pub type_leg-requires-clause-room : goal.type_leg-requires-clause-room
type_leg-requires-clause-room c =
    let p = c.args.plan.now in
    let w = world_in p in
    let ns = p.nodes.items in
    let gs = p.legs.items in
    let v = c.loop-leg.invariant in
    let k = c.loop-leg.leg-index in
    let g = c.leg-item.result in
    let lower = c.in-Some.lower.now in
    let main = c.in-Some.main.now in
    let done = c.loop-leg.levels.items in
    let here = subst (λ l. AtLeg w ns gs l done) (next_of lower k g main (search rules) c.leg-item.is) v.1 in
    let f = fits w ns gs g (drop (k + 1) lower ++ main ∷ []) done here in
    omega (arith, f, v.0, c.requires.room, c.loop-leg.levels.ok.0)

pub returns-in_err-type_leg-clause-answer : goal.returns-in_err-type_leg-clause-answer
returns-in_err-type_leg-clause-answer c =
    let q = err_from_is_err_and c.from_residual.result c.from_residual.ensures.1 in
    let p = c.args.plan.now in
    let w = world_in p in
    let ns = p.nodes.items in
    let gs = p.legs.items in
    let k = c.loop-leg.leg-index in
    let g = c.leg-item.result in
    let lower = c.in-Some.lower.now in
    let main = c.in-Some.main.now in
    let done = c.loop-leg.levels.items in
    let here = subst (λ l. AtLeg w ns gs l done) (next_of lower k g main (search rules) c.leg-item.is) c.loop-leg.invariant.1 in
    rw (q.1, q.2) (sym (checks_are p c.requires.sound ∙ lower_fails w ns gs g (drop (k + 1) lower) main done here c.in_err-type_leg.field-0.0 (sym c.in_err-type_leg.ensures.answer)))

pub loop-leg-preserved : goal.loop-leg-preserved
loop-leg-preserved c =
    let p = c.args.plan.now in
    let w = world_in p in
    let ns = p.nodes.items in
    let gs = p.legs.items in
    let v = c.loop-leg.invariant in
    let k = c.loop-leg.leg-index in
    let g = c.leg-item.result in
    let lower = c.in-Some.lower.now in
    let main = c.in-Some.main.now in
    let done = c.loop-leg.levels.items in
    let here = subst (λ l. AtLeg w ns gs l done) (next_of lower k g main (search rules) c.leg-item.is) v.1 in
    let one = c.in_ok-type_leg.ensures in
    (one.cap ∙ v.0, next_leg w ns gs g (drop (k + 1) lower) main done here c.type_leg.new.levels.items (sym one.answer) one.levels)

pub returns-then-not-numbers_only-clause-answer : goal.returns-then-not-numbers_only-clause-answer
returns-then-not-numbers_only-clause-answer c =
    let p = c.args.plan.now in
    let w = world_in p in
    let ns = p.nodes.items in
    let g = c.in-Some.main.now in
    let done = c.loop-leg.levels.items in
    let here = subst (λ l. AtLeg w ns p.legs.items (l ++ g ∷ []) done) (drop_all c.loop-leg.leg-index c.in-Some.lower.now c.loop-leg-test.false) c.loop-leg.invariant.1 in
    ap (λ n. Err (BadType n)) c.from.ensures
    ∙ sym (checks_are p c.requires.sound ∙ main_is w ns p.legs.items g done here ∙ ap (λ b. cond b (check_leg w g.first (leg_in ns g)) (Err (BadType g.first))) (sym c.numbers_only.ensures ∙ c.if-not-numbers_only.true))

pub returns-clause-answer : goal.returns-clause-answer
returns-clause-answer c =
    let p = c.args.plan.now in
    let w = world_in p in
    let ns = p.nodes.items in
    let g = c.in-Some.main.now in
    let done = c.loop-leg.levels.items in
    let here = subst (λ l. AtLeg w ns p.legs.items (l ++ g ∷ []) done) (drop_all c.loop-leg.leg-index c.in-Some.lower.now c.loop-leg-test.false) c.loop-leg.invariant.1 in
    c.type_leg-2.ensures.answer
    ∙ sym (checks_are p c.requires.sound ∙ main_is w ns p.legs.items g done here ∙ ap (λ b. cond b (check_leg w g.first (leg_in ns g)) (Err (BadType g.first))) (sym c.numbers_only.ensures ∙ c.if-not-numbers_only.false))
