use Rattle.std.proofs.Common.{◌≡◌}
use Rattle.arrayvec.specs.ArrayVec.{array_vec_len}
use Rattle.plan.specs.Written.{same_state}
use Rattle.reader.specs.Reading.{read_type}
use Rattle.reader.proofs.Loops.{Left}
use Rattle.reader.proofs.draft.legs.read_params.Given as goal

abbrev pub invariant-loop : goal.invariant-loop
invariant-loop l =
    record {
      length : array_vec_len l.params ≡ l.counter;
      same_all : l.input.all ≡ l.initial.input.all;
      left : Left same_state (read_type l.initial.input.all) l.count l.types l.initial.input.rest.now l.counter l.types l.input.rest.now l.params.items;
    }
