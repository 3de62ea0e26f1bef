use Rattle.std.proofs.Common.{length, sym, ap, ◌∙◌, rules}
use Rattle.grader.proofs.Legs.{leg_room, held_long, params_room, part_long, leg_put}
use Rattle.grader.proofs.walk.Walk.grade_leg.Goals as goal

pub grade-requires-clause-binders : goal.grade-requires-clause-binders
grade-requires-clause-binders g c = leg_room g.S.Scale.ops _ c.args.self.now.nodes.now c.args.leg.now c.len-count.result _ c.args.answers.now c.len-count.ensures.value c.requires.binders

pub slice_bounds-copy_from_slice-end : goal.slice_bounds-copy_from_slice-end
slice_bounds-copy_from_slice-end g c =
    params_room g.S.Scale.ops _ c.args.self.now.nodes.now c.args.leg.now c.len-count.result _ c.args.answers.now c.len-count.ensures.value c.requires.binders
    c.new.result.held c.grade.new.progress.contexts.held _ c.new.ensures.held c.grade.ensures.held c.grade.ensures.answers

pub copy_from_slice-requires : goal.copy_from_slice-requires
copy_from_slice-requires g c =
    part_long g.S.Scale.ops _ c.args.self.now.nodes.now c.args.leg.now c.len-count.result _ c.args.answers.now c.len-count.ensures.value c.requires.binders
    c.new.result.held c.grade.new.progress.contexts.held _ c.new.ensures.held c.grade.ensures.held c.grade.ensures.answers
    ∙ sym (ap length c.held.ensures ∙ held_long g.S.Scale.ops _ c.args.self.now.nodes.now c.args.leg.now c.len-count.result _ c.args.answers.now c.len-count.ensures.value c.requires.binders
    c.new.result.held c.grade.new.progress.contexts.held _ c.new.ensures.held c.grade.ensures.held c.grade.ensures.answers)

pub returns : goal.returns
returns g c =
    leg_put g.S.Scale.ops _ c.args.self.now.nodes.now c.args.leg.now c.len-count.result _ c.args.answers.now c.len-count.ensures.value c.requires.binders
    c.new.result.held c.grade.new.progress.contexts.held c.grade.new.progress.answers.now c.new.ensures.held c.grade.ensures.held c.grade.ensures.answers (c.copy_from_slice.ensures.after ∙ c.held.ensures) (search rules)
