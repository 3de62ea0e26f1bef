-- How many levels are in scope at each node of an expression, in prefix order. Assumes nothing.
use Rattle.std.specs.Prelude.{ℕ, ◌+◌, List, [], ◌∷◌, ◌++◌, length}
use Rattle.plan.specs.Trees.{Term, t_unit, t_number, t_name, t_let, t_take, t_pair, t_split, t_left, t_right, t_case, t_call, t_add, t_less, Terms, t_none, t_more, Leg, Plan}

-- d levels are in scope at the node itself.
abbrev mutual
  pub levels : ℕ → Term → List ℕ
  levels d t_unit = d ∷ []
  levels d (t_number n) = d ∷ []
  levels d (t_name l) = d ∷ []
  levels d (t_let k a b) = d ∷ (levels d a ++ levels (d + 1) b)
  levels d (t_take k a b) = d ∷ (levels d a ++ levels (d + 1) b)
  levels d (t_pair a b) = d ∷ (levels d a ++ levels d b)
  levels d (t_split k a b) = d ∷ (levels d a ++ levels (d + 2) b)
  levels d (t_left y a) = d ∷ levels d a
  levels d (t_right y a) = d ∷ levels d a
  levels d (t_case k a b c) = d ∷ (levels d a ++ (levels (d + 1) b ++ levels (d + 1) c))
  levels d (t_call l ts) = d ∷ levels_of_each d ts
  levels d (t_add a b) = d ∷ (levels d a ++ levels d b)
  levels d (t_less a b) = d ∷ (levels d a ++ levels d b)

  pub levels_of_each : ℕ → Terms → List ℕ
  levels_of_each d t_none = []
  levels_of_each d (t_more a ts) = levels d a ++ levels_of_each d ts

abbrev pub leg_levels : List Leg → List ℕ
leg_levels [] = []
leg_levels (g ∷ gs) = levels (length g.params) g.body ++ leg_levels gs

abbrev pub plan_levels : Plan → List ℕ
plan_levels p = leg_levels p.legs
