use Rattle.std.proofs.Common.{◌≡◌, ◌+◌, Ok, sym, ap, ◌∙◌, subst}
use Rattle.plan.specs.Written.{same_state}
use Rattle.reader.specs.Reading.{read_type}
use Rattle.reader.proofs.Loops.{Left, left_next}
use Rattle.reader.proofs.draft.legs.read_params.Goals as goal

pub loop-preserved : goal.loop-preserved
loop-preserved c =
    let v = c.loop.invariant in
    let e = c.in_ok-param.ensures in
    let all = c.count.new.self.all in
    let n = c.in_ok-count.count in
    let at : read_type all c.args.types c.loop.input.rest.now ≡ Ok (c.in_ok-param.param, c.type_id.new.self.rest.now) = subst (λ a. read_type a c.args.types c.loop.input.rest.now ≡ Ok (c.in_ok-param.param, c.type_id.new.self.rest.now)) v.same_all e.0 in
    record {
      length = c.push.ensures.len ∙ ap (λ k. k + 1) v.length;
      same_all = e.1 ∙ v.same_all;
      left = subst (Left same_state (read_type all) n c.args.types c.count.new.self.rest.now (c.loop.counter + 1) c.args.types c.type_id.new.self.rest.now) (sym c.push.ensures.items)
          (left_next same_state (read_type all) n c.args.types c.count.new.self.rest.now c.loop.counter c.args.types c.loop.input.rest.now c.loop.params.items c.in_ok-param.param c.type_id.new.self.rest.now c.loop-test.true v.left at);
    }
