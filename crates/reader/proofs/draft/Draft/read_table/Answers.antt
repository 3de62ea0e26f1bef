use Rattle.std.proofs.Common.{◌+◌, [], ◌∷◌, ◌++◌, sym, ap, ◌∙◌, subst, append_assoc, arith}
use Rattle.std.proofs.lemmas.Result.{err_from_is_err_and}
use Rattle.plan.specs.declared.faults.ReadFault.TheVariants.{Limit}
use Rattle.plan.specs.Written.{with_entry, built_in}
use Rattle.reader.specs.Reading.{then_read, many, byte_if, between, read_entry}
use Rattle.reader.proofs.Drafts.{entry_same}
use Rattle.reader.proofs.Loops.{Left, left_next, left_fails}
use Rattle.reader.proofs.draft.Draft.read_table.Goals as goal

pub returns-in_err-entry : goal.returns-in_err-entry
returns-in_err-entry c =
    let p = err_from_is_err_and c.from_residual-in_err-entry.result c.from_residual-in_err-entry.ensures.1 in
    let v = c.loop.invariant in
    let r = v.read in
    let n = c.in_ok-count.ensures.read in
    let all = c.args.input.now.all in
    let at = entry_same c.deref.result.now (built_in ++ r.0) c.loop.input.all all c.loop.input.rest.now _ (c.deref.ensures.value ∙ r.1) v.same_all c.in_err-entry.ensures in
    rw (p.1, p.2) (ap (λ g. then_read g (λ n r. many with_entry (read_entry all) n built_in r)) (ap (λ h. byte_if (between 1 h) Limit all c.args.input.now.rest.now) (sym c.from.ensures) ∙ n.0)
    ∙ left_fails with_entry (read_entry all) c.in_ok-count.count built_in c.count.new.self.rest.now c.loop.counter (built_in ++ r.0) c.loop.input.rest.now r.0 _ c.loop-test.true r.2 at)

pub loop-preserved : goal.loop-preserved
loop-preserved c =
    let v = c.loop.invariant in
    let r = v.read in
    let es = r.0 in
    let e = c.in_ok-entry.ensures in
    let x = c.in_ok-entry.entry in
    let all = c.args.input.now.all in
    let then = c.read_entry.new.input.rest.now in
    let at = entry_same c.deref.result.now (built_in ++ es) c.loop.input.all all c.loop.input.rest.now _ (c.deref.ensures.value ∙ r.1) v.same_all e.0 in
    record {
      length_is = c.push_reserved.ensures.len ∙ ap (λ k. k + 1) v.length_is ∙ omega arith;
      only_types = v.only_types;
      same_all = e.1 ∙ v.same_all;
      read = (
        es ++ (x ∷ []),
        c.push_reserved.ensures.items ∙ ap (λ l. l ++ (x ∷ [])) r.1 ∙ append_assoc built_in es (x ∷ []),
        subst (λ t. Left with_entry (read_entry all) c.in_ok-count.count built_in c.count.new.self.rest.now (c.loop.counter + 1) t then (es ++ (x ∷ []))) (append_assoc built_in es (x ∷ []))
            (left_next with_entry (read_entry all) c.in_ok-count.count built_in c.count.new.self.rest.now c.loop.counter (built_in ++ es) c.loop.input.rest.now es x then c.loop-test.true r.2 at),
      );
    }
