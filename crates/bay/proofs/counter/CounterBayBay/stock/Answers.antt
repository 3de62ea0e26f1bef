use Rattle.std.proofs.Common.{sym, ◌∙◌}
use Rattle.bay.specs.Countdowns.{length_countdown}
use Rattle.bay.proofs.counter.CounterBayBay.stock.Goals as goal

pub returns : goal.returns
returns c = c.get.ensures ∙ sym (length_countdown _)
