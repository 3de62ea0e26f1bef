use Rattle.typer.proofs.Accepted.{accepted_exactly}
use Rattle.typer.proofs.typed.read_typed.Goals as goal

pub returns-in_err-plan-clause-exactly : goal.returns-in_err-plan-clause-exactly
returns-in_err-plan-clause-exactly c p = accepted_exactly c.args.bytes.now p (c.in_err-plan.ensures.exactly p)

pub returns-in_err-levels-clause-exactly : goal.returns-in_err-levels-clause-exactly
returns-in_err-levels-clause-exactly c p = accepted_exactly c.args.bytes.now p (c.in_ok-plan.ensures.exactly p)

pub returns-in_err-type_legs-clause-exactly : goal.returns-in_err-type_legs-clause-exactly
returns-in_err-type_legs-clause-exactly c p = accepted_exactly c.args.bytes.now p (c.in_ok-plan.ensures.exactly p)

pub returns-clause-exactly : goal.returns-clause-exactly
returns-clause-exactly c p = accepted_exactly c.args.bytes.now p (c.in_ok-plan.ensures.exactly p)
