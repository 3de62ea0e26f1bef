-- Names stand in scope, and calls have a lower leg's parameters. Assumes nothing.
use Rattle.std.proofs.Common.{◌≡◌, ℕ, suc, ◌<◌, List, [], ◌∷◌, length}
use Rattle.plan.specs.Trees.{Term, t_unit, t_number, t_name, t_let, t_take, t_pair, t_split, t_left, t_right, t_case, t_call, t_add, t_less, Terms, t_none, t_more, how_many, Leg}
use Rattle.grading.specs.Grading.{at, no_leg, arity}

abbrev mutual
  pub Formed : List Leg → Term → ℕ → Type 0
  Formed legs t_unit n = Unit {0}
  Formed legs (t_number v) n = Unit {0}
  Formed legs (t_name j) n = j < n
  Formed legs (t_let k a b) n = Formed legs a n × Formed legs b (suc n)
  Formed legs (t_take k a b) n = Formed legs a n × Formed legs b (suc n)
  Formed legs (t_pair a b) n = Formed legs a n × Formed legs b n
  Formed legs (t_split k a b) n = Formed legs a n × Formed legs b (suc (suc n))
  Formed legs (t_left y a) n = Formed legs a n
  Formed legs (t_right y a) n = Formed legs a n
  Formed legs (t_case k a b c) n = Formed legs a n × Formed legs b (suc n) × Formed legs c (suc n)
  Formed legs (t_call i ts) n = (i < length legs) × (how_many ts ≡ arity (at no_leg legs i)) × AllFormed legs ts n
  Formed legs (t_add a b) n = Formed legs a n × Formed legs b n
  Formed legs (t_less a b) n = Formed legs a n × Formed legs b n

  pub AllFormed : List Leg → Terms → ℕ → Type 0
  AllFormed legs t_none n = Unit {0}
  AllFormed legs (t_more a ts) n = Formed legs a n × AllFormed legs ts n

-- the legs from the last to the first
abbrev pub LegsFormed : List Leg → Type 0
LegsFormed [] = Unit {0}
LegsFormed (g ∷ legs) = Formed legs g.body (arity g) × LegsFormed legs
