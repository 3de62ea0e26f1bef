-- The laws of two scales side by side, from those of each.
use Rattle.std.specs.Prelude.{◌≡◌, ℕ, zero, suc, true, refl}
use Rattle.std.proofs.Common.{ap, ap₂, subst, arith}
use Rattle.std.proofs.lemmas.Bool.{and_parts, and_from}
use Rattle.scales.specs.Laws.{Laws, Ops, Within, ones}
use Rattle.scales.specs.Ends.{end_min}
use Rattle.scales.specs.Pair.{pair_ops, side_by_side, on_each, pair_leq, pair_ceiling}
use Rattle.scales.specs.declared.scale.Ceiling.{Ceiling}
use Rattle.scales.specs.declared.scale.Ceiling.TheVariants.{Count, Unbounded}
use Rattle.scales.specs.declared.pair.Pair.{Pair}

within_min : (k : ℕ) (c d : Ceiling) → Within k c → Within k d → Within k (end_min c d)
within_min k (Count m) (Count n) h l = omega arith
within_min k (Count m) Unbounded h l = h
within_min k Unbounded d h l = l

module _ {X Y : Type 0} {f : Ops X} {g : Ops Y} (P : Laws f) (Q : Laws g) where
  abbrev pair : X → Y → Pair X Y
  pair = side_by_side

  l : (a b : Pair X Y) → pair_leq f.leq g.leq a b ≡ true → f.leq a.first b.first ≡ true
  l a b h = (and_parts (f.leq a.first b.first) (g.leq a.second b.second) h).0

  r : (a b : Pair X Y) → pair_leq f.leq g.leq a b ≡ true → g.leq a.second b.second ≡ true
  r a b h = (and_parts (f.leq a.first b.first) (g.leq a.second b.second) h).1

  both : (a b : Pair X Y) → f.leq a.first b.first ≡ true → g.leq a.second b.second ≡ true → pair_leq f.leq g.leq a b ≡ true
  both a b h k = and_from (f.leq a.first b.first) (g.leq a.second b.second) h k

  ones_pair : (k : ℕ) → ones (pair_ops f g) k ≡ pair (ones f k) (ones g k)
  ones_pair zero = refl
  ones_pair (suc k) = ap (on_each f.plus g.plus (pair f.one g.one)) (ones_pair k)

  ones_within : (a : Pair X Y) (k : ℕ) → pair_leq f.leq g.leq (ones (pair_ops f g) k) a ≡ true → Within k (pair_ceiling f.ceiling g.ceiling a)
  ones_within a k h =
      let h' : pair_leq f.leq g.leq (pair (ones f k) (ones g k)) a ≡ true = subst (λ (x : Pair X Y). pair_leq f.leq g.leq x a ≡ true) (ones_pair k) h in
      within_min k (f.ceiling a.first) (g.ceiling a.second) (P.ones_within a.first k (l _ a h')) (Q.ones_within a.second k (r _ a h'))

  pub pair_laws : Laws (pair_ops f g)
  pair_laws = record {
    plus_comm = λ a b. ap₂ pair (P.plus_comm a.first b.first) (Q.plus_comm a.second b.second);
    plus_assoc = λ a b c. ap₂ pair (P.plus_assoc a.first b.first c.first) (Q.plus_assoc a.second b.second c.second);
    plus_zero = λ a. ap₂ pair (P.plus_zero a.first) (Q.plus_zero a.second);
    times_assoc = λ a b c. ap₂ pair (P.times_assoc a.first b.first c.first) (Q.times_assoc a.second b.second c.second);
    one_times = λ a. ap₂ pair (P.one_times a.first) (Q.one_times a.second);
    times_one = λ a. ap₂ pair (P.times_one a.first) (Q.times_one a.second);
    zero_times = λ a. ap₂ pair (P.zero_times a.first) (Q.zero_times a.second);
    times_zero = λ a. ap₂ pair (P.times_zero a.first) (Q.times_zero a.second);
    plus_times = λ a b c. ap₂ pair (P.plus_times a.first b.first c.first) (Q.plus_times a.second b.second c.second);
    times_plus = λ a b c. both _ _ (P.times_plus a.first b.first c.first) (Q.times_plus a.second b.second c.second);
    leq_refl = λ a. both a a (P.leq_refl a.first) (Q.leq_refl a.second);
    leq_trans = λ a b c h k. both a c (P.leq_trans _ _ _ (l a b h) (l b c k)) (Q.leq_trans _ _ _ (r a b h) (r b c k));
    leq_anti = λ a b h k. ap₂ pair (P.leq_anti _ _ (l a b h) (l b a k)) (Q.leq_anti _ _ (r a b h) (r b a k));
    plus_mono = λ a b c h. both _ _ (P.plus_mono _ _ c.first (l a b h)) (Q.plus_mono _ _ c.second (r a b h));
    times_mono_l = λ a b c h. both _ _ (P.times_mono_l _ _ c.first (l a b h)) (Q.times_mono_l _ _ c.second (r a b h));
    times_mono_r = λ a b c h. both _ _ (P.times_mono_r _ _ c.first (l a b h)) (Q.times_mono_r _ _ c.second (r a b h));
    join_l = λ a b. both _ _ (P.join_l a.first b.first) (Q.join_l a.second b.second);
    join_r = λ a b. both _ _ (P.join_r a.first b.first) (Q.join_r a.second b.second);
    join_least = λ a b c h k. both _ _ (P.join_least _ _ _ (l a c h) (l b c k)) (Q.join_least _ _ _ (r a c h) (r b c k));
    ones_within = ones_within;
  }
