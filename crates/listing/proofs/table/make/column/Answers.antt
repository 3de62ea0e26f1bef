use Rattle.std.proofs.Common.{◌≡◌, length, drop, sym, ◌∙◌, rules}
use Rattle.std.proofs.lemmas.Result.{err_from_is_err_and}
use Rattle.listing.proofs.Columns.{column_refused, refilled}
use Rattle.listing.proofs.table.make.column.Goals as goal

pub returns : goal.returns
returns g c =
    let o = g.S.Scale.ops in
    let a = c.in_ok-grades.ensures in
    let after = c.grades.new.answers in
    let v = c.in_ok-answers.answers in
    let long : v.len ≡ c.args.count = search rules in (
      long,
      λ p t b.
          refilled o (length c.as_mut_slice.result.now) v.len c.as_mut_slice-2.result.now after (drop (length after) v.items) c.args.bytes.now a.0 (search rules) (search rules) a.1 a.3 p t
          (b ∙ sym long),
    )

pub returns-in_err-grades : goal.returns-in_err-grades
returns-in_err-grades g c =
    let p = err_from_is_err_and c.from_residual-in_err-grades.result c.from_residual-in_err-grades.ensures.1 in
    rw (p.1, p.2) (column_refused g.S.Scale.ops c.as_mut_slice.result.now c.grades.new.work c.as_mut_slice-2.result.now c.grades.new.answers c.args.count c.args.bytes.now c.in_err-grades.field-0.0 (search rules) (search rules) c.in_err-grades.ensures)
