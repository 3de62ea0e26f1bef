use Rattle.std.proofs.Common.{Ok, sym, subst}
use Rattle.reader.specs.Replies.{ReadAnswer}
use Rattle.reader.proofs.Whole.{exactly, reads}
use Rattle.reader.proofs.read.Goals as goal

pub returns-in_err-draft-clause-exactly : goal.returns-in_err-draft-clause-exactly
returns-in_err-draft-clause-exactly c = exactly c.args.bytes.now c.type_inv.bytes

pub returns-in_err-read_into-clause-exactly : goal.returns-in_err-read_into-clause-exactly
returns-in_err-read_into-clause-exactly c = exactly c.args.bytes.now c.type_inv.bytes

pub returns-clause-answer : goal.returns-clause-answer
returns-clause-answer c =
    let bs = c.args.bytes.now in
    let d = c.read_into.new.draft in
    let t = c.in_ok-read_into.ensures in
    subst (λ p. ReadAnswer bs (Ok p)) (sym c.into_plan.ensures) (reads bs c.type_inv.bytes (record { types = d.types; legs = d.legs; nodes = d.nodes }) t.0 t.1 t.2 t.3)

pub returns-clause-exactly : goal.returns-clause-exactly
returns-clause-exactly c = exactly c.args.bytes.now c.type_inv.bytes
