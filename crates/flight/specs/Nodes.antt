-- What the nodes of a flat plan do. Assumes nothing.
use Rattle.std.specs.Prelude.{◌≡◌, ℕ, zero, suc, ◌+◌, ◌<◌, List, [], ◌∷◌, length, slice_index, slice_index_or}
use Rattle.evaluation.specs.Flight.{at, house, Value, v_unit, v_number, v_pair, v_left, v_right, State, Out, value, Comp, Scope, Limits, and_then, make, bound, kept, begin, either_of, first_of, second_of, sum_of, less_of}
use Rattle.plan.specs.declared.Node.{Node}
use Rattle.plan.specs.declared.Node.TheVariants.{Unit, Number, Name, Let, Take, Pair, Split, Left, Right, Case, Call, Add, Less}
use Rattle.plan.specs.declared.Row.{Row}
use Rattle.plan.specs.declared.Leg.{Leg}
use Rattle.plan.specs.Trees.{the_type, the_binder}
use Rattle.plan.specs.Table.{row_at}
use Rattle.plan.specs.Plans.{legs_in}
use Rattle.typer.specs.Levels.{leg_levels}

abbrev pub no_leg : Leg
no_leg = record { params = record { items = []; spare = [] }; result = the_type 0; first = 0; binder = the_binder 0 }

-- under how many names each node stands
abbrev pub level_of : List Row → List Leg → ℕ → ℕ
level_of ns gs i = slice_index (leg_levels (legs_in ns gs)) i

abbrev pub kind_at : List Row → ℕ → Node
kind_at ns i = (row_at ns i).node

abbrev pub end_at : List Row → ℕ → ℕ
end_at ns i = (row_at ns i).end

-- the second and the third kid of a node; the first is the next node
abbrev pub kid2 : List Row → ℕ → ℕ
kid2 ns i = end_at ns (i + 1)

abbrev pub kid3 : List Row → ℕ → ℕ
kid3 ns i = end_at ns (kid2 ns i)

-- What each node does once its evaluation has begun, in a scope.
abbrev pub Runner : Type 0
Runner = Limits → ℕ → Scope → Comp

abbrev pub both : Node → Value → Value → Value
both Unit v w = w
both (Number n) v w = w
both (Name l) v w = w
both (Let k) v w = w
both (Take k) v w = w
both Pair v w = v_pair v w
both (Split k) v w = w
both (Left z) v w = w
both (Right z) v w = w
both (Case k) v w = w
both (Call g n) v w = w
both Add v w = sum_of v w
both Less v w = less_of v w

-- then the second kid, and both values joined
abbrev pub second : Runner → Limits → Node → List Row → ℕ → Scope → ℕ → Value → State → Out
second E L k ns i ρ d v s = and_then (begin L (E L (kid2 ns i) ρ) (d + 1) s) (λ w s. value (both k v w) s)

-- what a node does once its first kid gave v
abbrev pub after : Runner → Limits → List Row → Node → ℕ → Scope → ℕ → Value → State → Out
after E L ns Unit i ρ d v s = value v s
after E L ns (Number n) i ρ d v s = value v s
after E L ns (Name l) i ρ d v s = value v s
after E L ns (Let k) i ρ d v s = value v s
after E L ns (Take k) i ρ d v s = make L k.index s (λ b s. begin L (E L (kid2 ns i) (bound L k.index b (kept v) ∷ ρ)) (d + 1) s)
after E L ns Pair i ρ d v s = second E L Pair ns i ρ d v s
after E L ns (Split k) i ρ d v s =
    make L k.index s (λ b s. make L (k.index + 1) s
    (λ c s. begin L (E L (kid2 ns i) (bound L (k.index + 1) c (kept (second_of v)) ∷ bound L k.index b (kept (first_of v)) ∷ ρ)) (d + 1) s))
after E L ns (Left z) i ρ d v s = value (v_left v) s
after E L ns (Right z) i ρ d v s = value (v_right v) s
after E L ns (Case k) i ρ d v s =
    either_of v
    (λ v. make L k.index s (λ b s. begin L (E L (kid2 ns i) (bound L k.index b (kept v) ∷ ρ)) (d + 1) s))
    (λ v. make L (k.index + 1) s (λ b s. begin L (E L (kid3 ns i) (bound L (k.index + 1) b (kept v) ∷ ρ)) (d + 1) s))
after E L ns (Call g n) i ρ d v s = value v s
after E L ns Add i ρ d v s = second E L Add ns i ρ d v s
after E L ns Less i ρ d v s = second E L Less ns i ρ d v s

-- bindings of as many kids as the number says, from the kid at q and the binder k on
abbrev pub bind_kids : Runner → Limits → List Row → ℕ → ℕ → ℕ → Scope → Scope → (Scope → Comp) → Comp
bind_kids E L ns zero q k ρ σ body d s = body σ d s
bind_kids E L ns (suc c) q k ρ σ body d s =
    make L k s (λ b s. bind_kids E L ns c (end_at ns q) (k + 1) ρ (bound L k b (begin L (E L q ρ)) ∷ σ) body d s)

abbrev pub first : Runner → Limits → List Row → Node → ℕ → Scope → Comp
first E L ns k i ρ d s = and_then (begin L (E L (i + 1) ρ) (d + 1) s) (after E L ns k i ρ d)

abbrev pub node_does : Runner → Limits → List Row → List Leg → Node → ℕ → Scope → Comp
node_does E L ns gs Unit i ρ d s = value v_unit s
node_does E L ns gs (Number n) i ρ d s = value (v_number n) s
node_does E L ns gs (Name l) i ρ d s = at (kept v_unit) ρ l.index d s
node_does E L ns gs (Let k) i ρ d s =
    make L k.index s (λ b s. begin L (E L (kid2 ns i) (bound L k.index b (begin L (E L (i + 1) ρ)) ∷ ρ)) (d + 1) s)
node_does E L ns gs (Take k) i ρ d s = first E L ns (Take k) i ρ d s
node_does E L ns gs Pair i ρ d s = first E L ns Pair i ρ d s
node_does E L ns gs (Split k) i ρ d s = first E L ns (Split k) i ρ d s
node_does E L ns gs (Left z) i ρ d s = first E L ns (Left z) i ρ d s
node_does E L ns gs (Right z) i ρ d s = first E L ns (Right z) i ρ d s
node_does E L ns gs (Case k) i ρ d s = first E L ns (Case k) i ρ d s
node_does E L ns gs (Call g n) i ρ d s =
    bind_kids E L ns n (i + 1) (slice_index_or gs g.index no_leg).binder.index ρ []
    (λ σ. begin L (E L (slice_index_or gs g.index no_leg).first σ)) (d + 1) s
node_does E L ns gs Add i ρ d s = first E L ns Add i ρ d s
node_does E L ns gs Less i ρ d s = first E L ns Less i ρ d s

-- The nodes do what their kinds say.
abbrev pub Runs : List Row → List Leg → Runner → Type 0
Runs ns gs E =
    (n : ℕ) (i : ℕ) (ρ : Scope) (d : ℕ) (s : State) → i < length ns
    → E (house n) i ρ d s ≡ node_does E (house n) ns gs (kind_at ns i) i ρ d s
