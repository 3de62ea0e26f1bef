-- What holds of every node of an expression. Assumes nothing.
use Rattle.std.specs.Prelude.{ℕ, suc}
use Rattle.plan.specs.Trees.{Term, t_unit, t_number, t_name, t_let, t_take, t_pair, t_split, t_left, t_right, t_case, t_call, t_add, t_less, Terms, t_none, t_more}

-- `EveryNode P t n`: with n levels in scope at t, P holds of each node of t and the number of levels in scope there.
abbrev mutual
  pub EveryNode : (Term → ℕ → Type 0) → Term → ℕ → Type 0
  EveryNode P t_unit n = P t_unit n
  EveryNode P (t_number v) n = P (t_number v) n
  EveryNode P (t_name j) n = P (t_name j) n
  EveryNode P (t_let k a b) n = P (t_let k a b) n × EveryNode P a n × EveryNode P b (suc n)
  EveryNode P (t_take k a b) n = P (t_take k a b) n × EveryNode P a n × EveryNode P b (suc n)
  EveryNode P (t_pair a b) n = P (t_pair a b) n × EveryNode P a n × EveryNode P b n
  EveryNode P (t_split k a b) n = P (t_split k a b) n × EveryNode P a n × EveryNode P b (suc (suc n))
  EveryNode P (t_left y a) n = P (t_left y a) n × EveryNode P a n
  EveryNode P (t_right y a) n = P (t_right y a) n × EveryNode P a n
  EveryNode P (t_case k a b c) n = P (t_case k a b c) n × EveryNode P a n × EveryNode P b (suc n) × EveryNode P c (suc n)
  EveryNode P (t_call i ts) n = P (t_call i ts) n × EveryArgument P ts n
  EveryNode P (t_add a b) n = P (t_add a b) n × EveryNode P a n × EveryNode P b n
  EveryNode P (t_less a b) n = P (t_less a b) n × EveryNode P a n × EveryNode P b n

  pub EveryArgument : (Term → ℕ → Type 0) → Terms → ℕ → Type 0
  EveryArgument P t_none n = Unit {0}
  EveryArgument P (t_more a ts) n = EveryNode P a n × EveryArgument P ts n
