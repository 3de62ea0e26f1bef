use Rattle.std.proofs.Common.{◌≡◌, ◌+◌, ◌-◌, ◌∙◌, sym, ap, subst, arith}
use Rattle.plan.specs.Table.{row_at, no_row}
use Rattle.plan.proofs.Ends.{Skips, skip_next, skip_past}
use Rattle.reader.proofs.table.skip.Goals as goal

pub returns-in_err-get : goal.returns-in_err-get
returns-in_err-get c ts e =
    let i = c.loop.invariant in
    let h = c.in_err-get.ensures.lookup in
    c.from_residual.ensures ∙ skip_past c.args.nodes.now c.args.at c.args.count c.loop.place (c.args.count - c.loop.counter) (grind arith) (omega arith) i.1 ts e

pub loop-preserved : goal.loop-preserved
loop-preserved c =
    let i = c.loop.invariant in
    let h = c.in_ok-get.ensures.lookup in
    let ns = c.args.nodes.now in
    let p = c.loop.place in
    let row : c.from-place.result ≡ (row_at ns p).end = c.from-place.ensures ∙ ap (λ r. r.end) (h.3.1 no_row) in
    let left : c.args.count - c.loop.counter - 1 ≡ c.args.count - (c.loop.counter + 1) = omega arith in
    let e = c.requires.ended p i.0 (omega arith) in
    (omega arith, subst (λ q. Skips ns c.args.at c.args.count q (c.args.count - (c.loop.counter + 1))) (sym row) (subst (Skips ns c.args.at c.args.count (row_at ns p).end) left (skip_next ns c.args.at c.args.count p (c.args.count - c.loop.counter) i.0 (omega arith) (omega arith) c.requires.ended i.1)))
