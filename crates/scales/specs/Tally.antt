-- None, one or many, by tables. Only none and one lie below many; neither lies below the other.
use Rattle.std.specs.Prelude.{Bool, true, false}
use Rattle.scales.specs.Laws.{Ops}
use Rattle.scales.specs.declared.scale.Ceiling.{Ceiling}
use Rattle.scales.specs.declared.scale.Ceiling.TheVariants.{Count, Unbounded}
use Rattle.scales.specs.declared.tally.Tally.{Tally}
use Rattle.scales.specs.declared.tally.Tally.TheVariants.{Zero, One, Many}

abbrev pub tally_plus : Tally → Tally → Tally
tally_plus Zero y = y
tally_plus One Zero = One
tally_plus One One = Many
tally_plus One Many = Many
tally_plus Many y = Many

abbrev pub tally_times : Tally → Tally → Tally
tally_times Zero y = Zero
tally_times One y = y
tally_times Many Zero = Zero
tally_times Many One = Many
tally_times Many Many = Many

abbrev pub tally_leq : Tally → Tally → Bool
tally_leq Zero Zero = true
tally_leq Zero One = false
tally_leq Zero Many = true
tally_leq One Zero = false
tally_leq One One = true
tally_leq One Many = true
tally_leq Many Zero = false
tally_leq Many One = false
tally_leq Many Many = true

abbrev pub tally_join : Tally → Tally → Tally
tally_join Zero Zero = Zero
tally_join Zero One = Many
tally_join Zero Many = Many
tally_join One Zero = Many
tally_join One One = One
tally_join One Many = Many
tally_join Many y = Many

abbrev pub tally_ceiling : Tally → Ceiling
tally_ceiling Zero = Count 0
tally_ceiling One = Count 1
tally_ceiling Many = Unbounded

abbrev pub tally_ops : Ops Tally
tally_ops = record { zero = Zero; one = One; plus = tally_plus; times = tally_times; leq = tally_leq; join = tally_join; ceiling = tally_ceiling }
