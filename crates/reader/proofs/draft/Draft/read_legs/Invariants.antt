use Rattle.std.proofs.Common.{◌≡◌, ◌+◌, ◌*◌, ◌≤◌, vec_items, vec_len}
use Rattle.plan.specs.Written.{with_leg, none_before}
use Rattle.plan.specs.Table.{Standing, InOrder}
use Rattle.plan.specs.Plans.{legs_in}
use Rattle.reader.specs.Reading.{read_leg}
use Rattle.reader.specs.Replies.{before_of}
use Rattle.reader.proofs.Loops.{Left}
use Rattle.reader.proofs.draft.Draft.read_legs.Given as goal

abbrev pub invariant-loop : goal.invariant-loop
invariant-loop l =
    record {
      length_is : vec_len l.self.legs ≡ l.counter;
      low : l.self.next ≤ 8 * l.counter + 2 * vec_len l.self.nodes;
      same_types : l.self.types ≡ l.fn.self.types;
      same_all : l.input.all ≡ l.fn.input.all;
      stands : Standing 0 (vec_items l.self.nodes);
      in_order : InOrder 0 (vec_items l.self.nodes) (vec_items l.self.legs);
      left : Left with_leg (read_leg l.fn.input.all (vec_len l.fn.self.types)) l.count none_before l.initial.input.rest.now l.counter (before_of (vec_items l.self.legs) l.self.next (vec_items l.self.nodes)) l.input.rest.now (legs_in (vec_items l.self.nodes) (vec_items l.self.legs));
    }
