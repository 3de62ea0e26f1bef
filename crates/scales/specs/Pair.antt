-- Two scales side by side: each operation works on each side, the order needs both, the ceiling is the smaller.
use Rattle.std.specs.Prelude.{Bool, ◌&&◌}
use Rattle.scales.specs.Laws.{Ops}
use Rattle.scales.specs.Ends.{end_min}
use Rattle.scales.specs.declared.scale.Ceiling.{Ceiling}
use Rattle.scales.specs.declared.pair.Pair.{Pair}

abbrev pub side_by_side : {X Y : Type 0} → X → Y → Pair X Y
side_by_side x y = record { first = x; second = y }

abbrev pub on_each : {X Y : Type 0} → (X → X → X) → (Y → Y → Y) → Pair X Y → Pair X Y → Pair X Y
on_each f g a b = record { first = f a.first b.first; second = g a.second b.second }

abbrev pub pair_leq : {X Y : Type 0} → (X → X → Bool) → (Y → Y → Bool) → Pair X Y → Pair X Y → Bool
pair_leq f g a b = f a.first b.first && g a.second b.second

abbrev pub pair_ceiling : {X Y : Type 0} → (X → Ceiling) → (Y → Ceiling) → Pair X Y → Ceiling
pair_ceiling f g a = end_min (f a.first) (g a.second)

abbrev pub pair_ops : {X Y : Type 0} → Ops X → Ops Y → Ops (Pair X Y)
pair_ops f g = record {
  zero = side_by_side f.zero g.zero;
  one = side_by_side f.one g.one;
  plus = on_each f.plus g.plus;
  times = on_each f.times g.times;
  leq = pair_leq f.leq g.leq;
  join = on_each f.join g.join;
  ceiling = pair_ceiling f.ceiling g.ceiling;
}
