use Rattle.std.proofs.Common.{◌≡◌, ◌+◌, List, ◌++◌, vec_items, vec_len}
use Rattle.plan.specs.declared.Type.{«Type» as Shape}
use Rattle.plan.specs.Written.{with_entry, built_in}
use Rattle.reader.specs.Reading.{read_entry}
use Rattle.reader.specs.Replies.{OnlyTypes}
use Rattle.reader.proofs.Loops.{Left}
use Rattle.reader.proofs.draft.Draft.read_table.Given as goal

abbrev pub invariant-loop : goal.invariant-loop
invariant-loop l =
    record {
      length_is : vec_len l.self.types ≡ 3 + l.counter;
      only_types : OnlyTypes l.initial.self l.self;
      same_all : l.input.all ≡ l.fn.input.all;
      read : (es : List Shape) × (vec_items l.self.types ≡ built_in ++ es)
          × Left with_entry (read_entry l.fn.input.all) l.count built_in l.initial.input.rest.now l.counter (built_in ++ es) l.input.rest.now es;
    }
