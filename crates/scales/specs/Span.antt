-- Spans, by their ends. Each operation works on the low ends and on the high ends.
use Rattle.std.specs.Prelude.{◌+◌, ◌*◌, min, Bool, ◌&&◌, nat_le}
use Rattle.std.proofs.Common.{mul-le-mul, arith}
use Rattle.scales.specs.Ends.{greatest, end_plus, end_times, end_leq, end_max, size_plus, size_times, size_max, room_plus, room_times, room_max}
use Rattle.scales.specs.Laws.{Ops}
use Rattle.scales.specs.declared.scale.Ceiling.{Ceiling}
use Rattle.scales.specs.declared.scale.Ceiling.TheVariants.{Count}
use Rattle.scales.specs.declared.span.Span.{Span}

abbrev pub span_zero : Span
span_zero = record { low = 0; high = Count 0; fits = omega arith; order = omega arith; proper = omega arith }

abbrev pub span_one : Span
span_one = record { low = 1; high = Count 1; fits = omega arith; order = omega arith; proper = omega arith }

-- a low end that would pass the greatest count stays there
abbrev pub span_plus : Span → Span → Span
span_plus a b = record {
  low = min (a.low + b.low) greatest;
  high = end_plus a.high b.high;
  fits = omega arith;
  order = omega (arith, size_plus a.high b.high, a.order, b.order);
  proper = room_plus a.high b.high;
}

abbrev pub span_times : Span → Span → Span
span_times a b = record {
  low = min (a.low * b.low) greatest;
  high = end_times a.high b.high;
  fits = omega arith;
  order = omega (arith, size_times a.high b.high, mul-le-mul a.order b.order);
  proper = room_times a.high b.high;
}

-- the second span contains the first
abbrev pub span_leq : Span → Span → Bool
span_leq a b = nat_le b.low a.low && end_leq a.high b.high

abbrev pub span_join : Span → Span → Span
span_join a b = record {
  low = min a.low b.low;
  high = end_max a.high b.high;
  fits = omega (arith, a.fits);
  order = omega (arith, size_max a.high b.high a.proper b.proper, a.order, b.order);
  proper = room_max a.high b.high a.proper b.proper;
}

abbrev pub span_ceiling : Span → Ceiling
span_ceiling a = a.high

abbrev pub span_ops : Ops Span
span_ops = record { zero = span_zero; one = span_one; plus = span_plus; times = span_times; leq = span_leq; join = span_join; ceiling = span_ceiling }
