use Rattle.std.proofs.Common.{◌≡◌}
use denote.Text.{Utf8}
use denote.Shadow.{shadow}
use Rattle.std.specs.Fmt.{IsPlainFormatter, HasWritten}
use Rattle.scales.specs.Text.{comma, listed}
use Rattle.scales.proofs.set.ops.SetDisplay.fmt.Given as goal

abbrev pub invariant-loop-n : goal.invariant-loop-n
invariant-loop-n g l =
    shadow (Utf8 l.separator)
    × (l.separator ≡ comma (listed l.self l.n-counter))
    × (IsPlainFormatter l.initial.f → HasWritten g.W.Write.write_str_gives l.initial.f (listed l.self l.n-counter) l.f)
