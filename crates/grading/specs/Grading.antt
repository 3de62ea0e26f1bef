-- Which gradings of a plan are allowed, for any scale. Assumes nothing.
use Rattle.std.specs.Prelude.{◌≡◌, ℕ, suc, ◌+◌, ◌<◌, true, cond, List, [], ◌∷◌, length, ◌==◌}
use Rattle.scales.specs.Laws.{Ops}
use Rattle.plan.specs.Trees.{Term, t_unit, t_number, t_name, t_let, t_take, t_pair, t_split, t_left, t_right, t_case, t_call, t_add, t_less, Terms, t_none, t_more, how_many, Leg, Plan, the_type}

-- The legs of a plan from the last to the first, so that behind each leg stand those that it may call.
abbrev pub turned : List Leg → List Leg → List Leg
turned below [] = below
turned below (g ∷ gs) = turned (g ∷ below) gs

abbrev pub last_first : Plan → List Leg
last_first p = turned [] p.legs

-- What has the number i in such a list: the last of a list has the number 0.
abbrev pub at : {A : Type 0} → A → List A → ℕ → A
at d [] i = d
at d (x ∷ xs) i = cond (i == length xs) x (at d xs i)

abbrev pub no_leg : Leg
no_leg = record { params = []; result = the_type 0; first = 0; body = t_unit }

-- how many parameters a leg has
abbrev pub arity : Leg → ℕ
arity g = length g.params

-- In what follows o are the operations of a scale with the grades G. A context gives each level in scope a grade.
-- The grade x lies at or below y.
abbrev pub Leq : {G : Type 0} → Ops G → G → G → Type 0
Leq o x y = o.leq x y ≡ true

-- The context γ lies at or above δ at each of n levels.
abbrev pub Above : {G : Type 0} → Ops G → ℕ → (ℕ → G) → (ℕ → G) → Type 0
Above o n δ γ = (l : ℕ) → l < n → Leq o (δ l) (γ l)

-- no use of any level
abbrev pub nothing : {G : Type 0} → Ops G → ℕ → G
nothing o l = o.zero

-- one use of the level j, and none of the others
abbrev pub one_of : {G : Type 0} → Ops G → ℕ → ℕ → G
one_of o j l = cond (l == j) o.one o.zero

-- the uses in two parts
abbrev pub both : {G : Type 0} → Ops G → (ℕ → G) → (ℕ → G) → ℕ → G
both o δ ε l = o.plus (δ l) (ε l)

-- the uses in one of two parts
abbrev pub either_one : {G : Type 0} → Ops G → (ℕ → G) → (ℕ → G) → ℕ → G
either_one o δ ε l = o.join (δ l) (ε l)

-- the uses in a part that is itself used r
abbrev pub scaled : {G : Type 0} → Ops G → G → (ℕ → G) → ℕ → G
scaled o r δ l = o.times r (δ l)

-- `Graded o R legs n t γ`: over the lower legs `legs`, with n levels in scope, the expression t may have the context γ if each binder k has the grade R k.
-- A binding node holds its first binder k. Its kids' contexts are those that stand in front of what is asked of them.
abbrev mutual
  pub Graded : {G : Type 0} → Ops G → (ℕ → G) → List Leg → ℕ → Term → (ℕ → G) → Type 0
  Graded o R legs n t_unit γ = Above o n (nothing o) γ
  Graded o R legs n (t_number v) γ = Above o n (nothing o) γ
  Graded o R legs n (t_name j) γ = (j < n) × Above o n (one_of o j) γ
  Graded {G} o R legs n (t_let k a b) γ =
      (δ : ℕ → G) × (ε : ℕ → G) × Graded o R legs n a δ × Graded o R legs (suc n) b ε × Leq o (ε n) (R k)
      × Above o n (both o (scaled o (R k) δ) ε) γ
  Graded {G} o R legs n (t_take k a b) γ =
      (δ : ℕ → G) × (ε : ℕ → G) × Graded o R legs n a δ × Graded o R legs (suc n) b ε × Leq o (ε n) (R k)
      × Above o n (both o δ ε) γ
  Graded {G} o R legs n (t_pair a b) γ =
      (δ : ℕ → G) × (ε : ℕ → G) × Graded o R legs n a δ × Graded o R legs n b ε × Above o n (both o δ ε) γ
  Graded {G} o R legs n (t_split k a b) γ =
      (δ : ℕ → G) × (ε : ℕ → G) × Graded o R legs n a δ × Graded o R legs (suc (suc n)) b ε × Leq o (ε n) (R k)
      × Leq o (ε (suc n)) (R (suc k)) × Above o n (both o δ ε) γ
  Graded o R legs n (t_left y a) γ = Graded o R legs n a γ
  Graded o R legs n (t_right y a) γ = Graded o R legs n a γ
  Graded {G} o R legs n (t_case k a b c) γ =
      (δ : ℕ → G) × (ε : ℕ → G) × (φ : ℕ → G) × Graded o R legs n a δ × Graded o R legs (suc n) b ε × Graded o R legs (suc n) c φ
      × Leq o (ε n) (R k) × Leq o (φ n) (R (suc k)) × Above o n (both o δ (either_one o ε φ)) γ
  Graded o R legs n (t_call i ts) γ =
      (i < length legs) × (how_many ts ≡ arity (at no_leg legs i)) × Arguments o R legs n ts (at no_leg legs i).first γ
  Graded {G} o R legs n (t_add a b) γ =
      (δ : ℕ → G) × (ε : ℕ → G) × Graded o R legs n a δ × Graded o R legs n b ε × Above o n (both o δ ε) γ
  Graded {G} o R legs n (t_less a b) γ =
      (δ : ℕ → G) × (ε : ℕ → G) × Graded o R legs n a δ × Graded o R legs n b ε × Above o n (both o δ ε) γ

  -- the arguments for the parameters from binder k on: each scaled by its parameter's grade
  pub Arguments : {G : Type 0} → Ops G → (ℕ → G) → List Leg → ℕ → Terms → ℕ → (ℕ → G) → Type 0
  Arguments o R legs n t_none k γ = Above o n (nothing o) γ
  Arguments {G} o R legs n (t_more a ts) k γ =
      (δ : ℕ → G) × (ε : ℕ → G) × Graded o R legs n a δ × Arguments o R legs n ts (suc k) ε
      × Above o n (both o (scaled o (R k) δ) ε) γ

-- A leg's parameters are the levels of its body, from 0 on, and its first binders.
abbrev pub LegAllowed : {G : Type 0} → Ops G → (ℕ → G) → List Leg → Leg → Type 0
LegAllowed {G} o R legs g =
    (γ : ℕ → G) × Graded o R legs (arity g) g.body γ × ((i : ℕ) → i < arity g → Leq o (γ i) (R (g.first + i)))

-- the legs from the last to the first, each over those behind it
abbrev pub LegsAllowed : {G : Type 0} → Ops G → (ℕ → G) → List Leg → Type 0
LegsAllowed o R [] = Unit {0}
LegsAllowed o R (g ∷ legs) = LegAllowed o R legs g × LegsAllowed o R legs

-- The grading that gives each binder k the grade R k is allowed.
abbrev pub Allowed : {G : Type 0} → Ops G → (ℕ → G) → Plan → Type 0
Allowed o R p = LegsAllowed o R (last_first p)
