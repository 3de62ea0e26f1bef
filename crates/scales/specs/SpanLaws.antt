-- The laws of spans: a high end is a number that stops right above the greatest count.
use Rattle.std.specs.Prelude.{◌≡◌, ℕ, zero, suc, ◌+◌, ◌*◌, ◌≤◌, min, max, true, false, nat_le, refl}
use Rattle.std.proofs.Common.{sym, ap, ap₂, ◌∙◌, subst, mul-le-mul_right, mul-le-mul_left, arith}
use mathlib.Core.HLevel.{is_prop→PathP}
use Rattle.std.proofs.Math.Bridge.{le_prop}
use Rattle.std.proofs.lemmas.Bool.{and_parts, and_from, le-leb, leb-true, both_ways}
use Rattle.scales.specs.Laws.{Laws, Within, ones, ExactlyOne}
use Rattle.scales.specs.Ends.{greatest, beyond, size, room, end_leq, size_plus, size_times, size_max}
use Rattle.scales.specs.Span.{span_ops, span_zero, span_one, span_plus, span_times, span_leq, span_join}
use Rattle.scales.specs.declared.scale.Ceiling.{Ceiling}
use Rattle.scales.specs.declared.scale.Ceiling.TheVariants.{Count, Unbounded}
use Rattle.scales.specs.declared.span.Span.{Span}
use Rattle.scales.specs.Saturated.{sat_mul_l, sat_mul_r}

-- ---- ends

pub size_inj : (c d : Ceiling) → room c ≤ greatest → room d ≤ greatest → size c ≡ size d → c ≡ d
size_inj (Count m) (Count n) h k e = ap Count e
size_inj (Count m) Unbounded h k e = absurd (omega arith)
size_inj Unbounded (Count n) h k e = absurd (omega arith)
size_inj Unbounded Unbounded h k e = refl

pub size_le : (c : Ceiling) → room c ≤ greatest → size c ≤ beyond
size_le (Count m) h = omega arith
size_le Unbounded h = omega arith

pub size_leq : (c d : Ceiling) → room c ≤ greatest → end_leq c d ≡ true → size c ≤ size d
size_leq (Count m) (Count n) k e = leb-true m n e
size_leq (Count m) Unbounded k e = omega arith
size_leq Unbounded (Count n) k e = absurd (both_ways false refl e)
size_leq Unbounded Unbounded k e = omega arith

pub leq_size : (c d : Ceiling) → room d ≤ greatest → size c ≤ size d → end_leq c d ≡ true
leq_size (Count m) (Count n) k e = le-leb m n e
leq_size (Count m) Unbounded k e = refl
leq_size Unbounded (Count n) k e = absurd (omega arith)
leq_size Unbounded Unbounded k e = refl

pub within_size : (k : ℕ) (c : Ceiling) → room c ≤ greatest → min k beyond ≤ size c → Within k c
within_size k (Count n) h le = omega arith
within_size k Unbounded h le = tt

-- ---- spans

-- spans with the same ends are the same: the ghost fields are propositions
pub span_same : (a b : Span) → a.low ≡ b.low → a.high ≡ b.high → a ≡ b
span_same a b p q = λ i. record {
  low = p i;
  high = q i;
  fits = is_prop→PathP (λ k. p k ≤ greatest) (λ k. le_prop) a.fits b.fits i;
  order = is_prop→PathP (λ k. p k ≤ size (q k)) (λ k. le_prop) a.order b.order i;
  proper = is_prop→PathP (λ k. room (q k) ≤ greatest) (λ k. le_prop) a.proper b.proper i;
}

abbrev H : Span → ℕ
H a = size a.high

HLe : (a : Span) → H a ≤ beyond
HLe a = size_le a.high a.proper

HPlus : (a b : Span) → H (span_plus a b) ≡ min (H a + H b) beyond
HPlus a b = size_plus a.high b.high

HTimes : (a b : Span) → H (span_times a b) ≡ min (H a * H b) beyond
HTimes a b = size_times a.high b.high

HJoin : (a b : Span) → H (span_join a b) ≡ max (H a) (H b)
HJoin a b = size_max a.high b.high a.proper b.proper

same : (a b : Span) → a.low ≡ b.low → H a ≡ H b → a ≡ b
same a b p q = span_same a b p (size_inj a.high b.high a.proper b.proper q)

below : (a b : Span) → b.low ≤ a.low → H a ≤ H b → span_leq a b ≡ true
below a b h k = and_from (nat_le b.low a.low) (end_leq a.high b.high) (le-leb b.low a.low h) (leq_size a.high b.high b.proper k)

lows : (a b : Span) → span_leq a b ≡ true → b.low ≤ a.low
lows a b h = leb-true b.low a.low (and_parts (nat_le b.low a.low) (end_leq a.high b.high) h).0

highs : (a b : Span) → span_leq a b ≡ true → H a ≤ H b
highs a b h = size_leq a.high b.high a.proper (and_parts (nat_le b.low a.low) (end_leq a.high b.high) h).1

-- ---- laws

plus_comm : (a b : Span) → span_plus a b ≡ span_plus b a
plus_comm a b = same (span_plus a b) (span_plus b a) (omega arith) (omega (arith, HPlus a b, HPlus b a))

times_comm : (a b : Span) → span_times a b ≡ span_times b a
times_comm a b = same (span_times a b) (span_times b a) (omega arith) (omega (arith, HTimes a b, HTimes b a))

plus_assoc : (a b c : Span) → span_plus (span_plus a b) c ≡ span_plus a (span_plus b c)
plus_assoc a b c =
    same (span_plus (span_plus a b) c) (span_plus a (span_plus b c)) (omega arith)
    (omega (arith, HPlus (span_plus a b) c, HPlus a b, HPlus a (span_plus b c), HPlus b c))

times_assoc : (a b c : Span) → span_times (span_times a b) c ≡ span_times a (span_times b c)
times_assoc a b c =
    same (span_times (span_times a b) c) (span_times a (span_times b c))
    (omega (arith, sat_mul_l greatest (a.low * b.low) c.low, sat_mul_r greatest a.low (b.low * c.low)))
    (HTimes (span_times a b) c ∙ ap (λ n. min (n * H c) beyond) (HTimes a b)
    ∙ omega (arith, sat_mul_l beyond (H a * H b) (H c), sat_mul_r beyond (H a) (H b * H c))
    ∙ sym (HTimes a (span_times b c) ∙ ap (λ n. min (H a * n) beyond) (HTimes b c)))

plus_times : (a b c : Span) → span_times (span_plus a b) c ≡ span_plus (span_times a c) (span_times b c)
plus_times a b c =
    same (span_times (span_plus a b) c) (span_plus (span_times a c) (span_times b c))
    (omega (arith, sat_mul_l greatest (a.low + b.low) c.low))
    (HTimes (span_plus a b) c ∙ ap (λ n. min (n * H c) beyond) (HPlus a b) ∙ sat_mul_l beyond (H a + H b) (H c)
    ∙ omega (arith, HPlus (span_times a c) (span_times b c), HTimes a c, HTimes b c))

times_plus : (a b c : Span) → span_times a (span_plus b c) ≡ span_plus (span_times a b) (span_times a c)
times_plus a b c = times_comm a (span_plus b c) ∙ plus_times b c a ∙ ap₂ span_plus (times_comm b a) (times_comm c a)

leq_refl : (a : Span) → span_leq a a ≡ true
leq_refl a = below a a (omega arith) (omega arith)

HOnes : (k : ℕ) → H (ones span_ops k) ≡ min k beyond
HOnes zero = refl
HOnes (suc k) = omega (arith, HPlus span_one (ones span_ops k), HOnes k)

low_ones : (k : ℕ) → (ones span_ops k).low ≡ min k greatest
low_ones zero = refl
low_ones (suc k) = omega (arith, low_ones k)

pub span_exact : ExactlyOne span_ops
span_exact k h = omega (arith, low_ones k, HOnes k, lows (ones span_ops k) span_one h, highs (ones span_ops k) span_one h)

pub span_laws : Laws span_ops
span_laws = record {
  plus_comm = plus_comm;
  plus_assoc = plus_assoc;
  plus_zero = λ a. same (span_plus span_zero a) a (omega (arith, a.fits)) (omega (arith, HPlus span_zero a, HLe a));
  times_assoc = times_assoc;
  one_times = λ a. same (span_times span_one a) a (omega (arith, a.fits)) (omega (arith, HTimes span_one a, HLe a));
  times_one = λ a. same (span_times a span_one) a (omega (arith, a.fits)) (omega (arith, HTimes a span_one, HLe a));
  zero_times = λ a. same (span_times span_zero a) span_zero (omega arith) (omega (arith, HTimes span_zero a));
  times_zero = λ a. same (span_times a span_zero) span_zero (omega arith) (omega (arith, HTimes a span_zero));
  plus_times = plus_times;
  times_plus = λ a b c. subst (λ (x : Span). span_leq (span_times a (span_plus b c)) x ≡ true) (times_plus a b c) (leq_refl (span_times a (span_plus b c)));
  leq_refl = leq_refl;
  leq_trans = λ a b c h k. below a c (omega (arith, lows a b h, lows b c k)) (omega (arith, highs a b h, highs b c k));
  leq_anti = λ a b h k. same a b (omega (arith, lows a b h, lows b a k)) (omega (arith, highs a b h, highs b a k));
  plus_mono = λ a b c h. below (span_plus a c) (span_plus b c) (omega (arith, lows a b h)) (omega (arith, highs a b h, HPlus a c, HPlus b c));
  times_mono_l = λ a b c h. below (span_times a c) (span_times b c) (omega (arith, mul-le-mul_right c.low (lows a b h))) (omega (arith, mul-le-mul_right (H c) (highs a b h), HTimes a c, HTimes b c));
  times_mono_r = λ a b c h. below (span_times c a) (span_times c b) (omega (arith, mul-le-mul_left c.low (lows a b h))) (omega (arith, mul-le-mul_left (H c) (highs a b h), HTimes c a, HTimes c b));
  join_l = λ a b. below a (span_join a b) (omega arith) (omega (arith, HJoin a b));
  join_r = λ a b. below b (span_join a b) (omega arith) (omega (arith, HJoin a b));
  join_least = λ a b c h k. below (span_join a b) c (omega (arith, lows a c h, lows b c k)) (omega (arith, highs a c h, highs b c k, HJoin a b));
  ones_within = λ a k h. within_size k a.high a.proper (omega (arith, HOnes k, highs (ones span_ops k) a h));
}
