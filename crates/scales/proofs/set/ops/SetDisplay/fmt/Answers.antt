use Rattle.std.proofs.Common.{◌+◌, sym, refl, ap, ◌∙◌, subst, rules}
use Rattle.std.specs.Fmt.{HasWritten}
use Rattle.scales.specs.Text.{comma, listed}
use Rattle.scales.proofs.SetText.{listed_skip, comma_first, comma_after, put_nothing, put_member, put_skip}
use Rattle.scales.proofs.set.ops.SetDisplay.fmt.Goals as goal
use Rattle.scales.proofs.set.ops.SetDisplay.fmt.Goals.{then-contains+in_ok-write, else-contains}

pub loop-n-init : goal.loop-n-init
loop-n-init g c = (search rules, comma_first c.args.self.now, put_nothing g.W.Write.write_str_gives c.args.self.now c.write_str.new.self)

pub loop-n-preserved : goal.loop-n-preserved
loop-n-preserved g c =
    let s = c.args.self.now in
    let n = c.loop-n.n-counter in
    let from = c.write_str.new.self in
    let took = g.W.Write.write_str_gives in
    elim c.if-contains.branch [
      | then-contains+in_ok-write w ↦ (
          let m = sym w.if-contains.ensures in (
            search rules,
            ap (λ r. r.now) w.separator-is ∙ sym (comma_after s n c.loop-n-test.true m),
            λ h. let before = c.loop-n.invariant.2 h in
                subst (λ (k : _). HasWritten took from (listed s (n + 1)) k) (sym w.f-is)
                (put_member took s n c.loop-n.separator.now from c.loop-n.f w.write.new.self m c.loop-n.invariant.1 before (w.in_ok-write.ensures.writes before.plain refl)),
          ))
      | else-contains w ↦ (
          let m = sym w.if-contains.ensures in (
            search rules,
            ap (λ r. r.now) w.separator-is ∙ c.loop-n.invariant.1 ∙ sym (ap comma (listed_skip s n m)),
            λ h. subst (λ (k : _). HasWritten took from (listed s (n + 1)) k) (sym w.f-is) (put_skip took s n from c.loop-n.f m (c.loop-n.invariant.2 h)),
          ))
    ]
