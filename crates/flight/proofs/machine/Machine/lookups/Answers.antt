use Rattle.std.proofs.Common.{◌≡◌, count_by, sym, ◌∙◌, rules}
use Rattle.flight.specs.Tables.{tables}
use Rattle.flight.proofs.Counting.{looks_up, counted}
use Rattle.flight.proofs.machine.Machine.lookups.Goals as goal

pub returns : goal.returns
returns c =
    let log = (tables c.args.self.now).log in
    let h : c.count.result ≡ count_by (looks_up c.args.binding) log = search rules in
    h ∙ sym (counted c.args.binding log)
