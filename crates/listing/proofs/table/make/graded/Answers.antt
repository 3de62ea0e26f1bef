use Rattle.std.proofs.Common.{◌≡◌, length, vec_len, sym, ap, ◌∙◌, rules}
use Rattle.grading.specs.Least.{binder_count}
use Rattle.listing.proofs.Columns.{kinds_counted, column_refuses}
use Rattle.listing.proofs.table.make.graded.Goals as goal

pub returns-in_err-tallies : goal.returns-in_err-tallies
returns-in_err-tallies c p t is =
    column_refuses c.args.bytes.now c.len.result p c.args.kinds.items c.from_residual.result c.in_err-tallies.field-0.0 t is (search rules)
    c.in_err-tallies.ensures c.from_residual.ensures.1

pub returns-in_err-spans : goal.returns-in_err-spans
returns-in_err-spans c p t is =
    column_refuses c.args.bytes.now c.len-2.result p c.args.kinds.items c.from_residual-in_err-spans.result c.in_err-spans.field-0.0 t is (search rules)
    c.in_err-spans.ensures c.from_residual-in_err-spans.ensures.1

pub returns-in_err-sets : goal.returns-in_err-sets
returns-in_err-sets c p t is =
    column_refuses c.args.bytes.now c.len-3.result p c.args.kinds.items c.from_residual-in_err-sets.result c.in_err-sets.field-0.0 t is (search rules)
    c.in_err-sets.ensures c.from_residual-in_err-sets.ensures.1

pub returns : goal.returns
returns c p t is =
    let count : binder_count p ≡ vec_len c.args.kinds = kinds_counted p ∙ ap length (sym is) ∙ search rules in (
      p,
      t,
      record {
        kinds = is;
        tallies = c.in_ok-tallies.ensures.1 p t (count ∙ search rules);
        spans = c.in_ok-spans.ensures.1 p t (count ∙ search rules);
        sets = c.in_ok-sets.ensures.1 p t (count ∙ search rules);
      },
    )
