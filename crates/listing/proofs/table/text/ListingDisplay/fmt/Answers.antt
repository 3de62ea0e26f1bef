use Rattle.std.proofs.Common.{◌≡◌, ℕ, vec_len, codes, refl, subst, arith, rules}
use Rattle.std.specs.Fmt.{HasWritten}
use Rattle.std.proofs.Output.{has_written_append}
use Rattle.listing.specs.Listings.{line_text, lines_text}
use Rattle.listing.proofs.Texts.{put_no_line, put_line}
use Rattle.listing.proofs.table.text.ListingDisplay.fmt.Goals as goal

pub loop-k-init : goal.loop-k-init
loop-k-init g c = (search rules, search rules, put_no_line g.W.Write.write_str_gives c.args.self.now c.writeln.new.self)

pub loop-k-preserved : goal.loop-k-preserved
loop-k-preserved g c =
    let l = c.args.self.now in
    let k = c.loop-k.k in (
      search rules,
      search rules,
      λ h. let before = c.loop-k.invariant.2 h in
          put_line g.W.Write.write_str_gives l k c.writeln.new.self c.loop-k.f c.write.new.self before
          (subst (λ (x : _). HasWritten g.W.Write.write_str_gives c.loop-k.f (line_text x) c.write.new.self) c.line-line.ensures (c.in_ok-write.ensures.writes before.plain refl)),
    )

pub returns-clause-writes : goal.returns-clause-writes
returns-clause-writes g c = λ p q.
    let l = c.args.self.now in
    let first = c.in_ok-writeln.ensures.writes p refl in
    let e : c.loop-k.k ≡ vec_len l.kinds = omega (arith, c.loop-k.invariant.0, c.loop-k.invariant.1) in
    has_written_append g.W.Write.write_str_gives c.args.f.now (codes "plan\n") c.writeln.new.self (lines_text l (vec_len l.kinds)) c.loop-k.f first
    (subst (λ (n : ℕ). HasWritten g.W.Write.write_str_gives c.writeln.new.self (lines_text l n) c.loop-k.f) e (c.loop-k.invariant.2 first.plain))
