use Rattle.std.proofs.Common.{◌≡◌, ◌+◌, ◌*◌, ◌≤◌, List, ◌++◌, length, vec_items, vec_len}
use Rattle.plan.specs.declared.Row.{Row}
use Rattle.plan.specs.Table.{nodes_of}
use Rattle.plan.specs.Written.{with_node, binders_in}
use Rattle.reader.specs.Reading.{read_node}
use Rattle.reader.specs.Replies.{arities_of}
use Rattle.reader.proofs.Loops.{Left}
use Rattle.reader.proofs.draft.Draft.read_nodes.Given as goal

abbrev pub invariant-loop : goal.invariant-loop
invariant-loop l =
    record {
      few : l.self.next ≤ l.initial.self.next + 2 * l.counter;
      length_is : vec_len l.self.nodes ≡ vec_len l.initial.self.nodes + l.counter;
      same_types : l.self.types ≡ l.initial.self.types;
      same_legs : l.self.legs ≡ l.initial.self.legs;
      same_all : l.input.all ≡ l.initial.input.all;
      read : (new : List Row)
          × (vec_items l.self.nodes ≡ vec_items l.initial.self.nodes ++ new)
          × (length new ≡ l.counter)
          × (l.self.next ≡ binders_in l.initial.self.next (nodes_of new))
          × Left with_node (read_node l.initial.input.all (vec_len l.initial.self.types) (arities_of (vec_items l.initial.self.legs))) l.count l.initial.self.next l.initial.input.rest.now l.counter l.self.next l.input.rest.now (nodes_of new);
    }
