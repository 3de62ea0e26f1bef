use Rattle.std.proofs.Common.{◌≡◌, ◌≤◌, length, ◌∙◌, rules}
use Rattle.bay.specs.Rolls.{roll_of}
use Rattle.bay.specs.Rolled.{roll_put}
use Rattle.bay.proofs.roll_bay.RollBay.fill.Goals as goal

pub returns : goal.returns
returns c =
    let roll = c.in_ok-self.field-0 in
    let put = roll_put c.args.self.now.rolls c.args.store roll (search rules) (search rules) in
    let made : (roll_of roll ≡ c.args.serials.now) × (length c.args.serials.now ≤ 32) = search rules in
    rw c.from.ensures (search rules, made.1, put.0 ∙ made.0, put.1)
