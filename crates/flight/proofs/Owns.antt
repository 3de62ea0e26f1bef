-- What the nodes of a leg's body owe to no other, from its reading and its types. Assumes nothing.
use Rattle.std.proofs.Common.{◌≡◌, ℕ, zero, suc, ◌+◌, ◌*◌, ◌<◌, ◌≤◌, Bool, true, false, cond, eqb, List, [], ◌∷◌, ◌++◌, length, get_or, Some, sym, refl, subst, add-one, arith, eqb-true}
use Rattle.plan.specs.declared.TypeId.{TypeId}
use Rattle.plan.specs.declared.Node.{Node}
use Rattle.plan.specs.declared.Node.TheVariants.{Unit as k_unit, Number, Name, Let, Take, Pair, Split, Left, Right, Case, Call, Add, Less}
use Rattle.plan.specs.declared.Row.{Row}
use Rattle.plan.specs.declared.Leg.{Leg}
use Rattle.plan.specs.Trees as plan
use Rattle.plan.specs.Trees.{Term, Terms, t_unit, t_number, t_name, t_let, t_take, t_pair, t_split, t_left, t_right, t_case, t_call, t_add, t_less, t_none, t_more, flat, flats}
use Rattle.plan.specs.Kinds.{binders}
use Rattle.plan.specs.Written.{Run, with_node, NodeLaid}
use Rattle.typer.specs.Typing.{World, found, Typed, AllTyped}
use Rattle.typer.specs.Levels.{levels, levels_of_each}
use Rattle.flight.proofs.Placed.{Lower, Own}

abbrev Low : Node → ℕ → Type 0
Low k_unit d = Unit {0}
Low (Number n) d = Unit {0}
Low (Name l) d = l.index < d
Low (Let k) d = Unit {0}
Low (Take k) d = Unit {0}
Low Pair d = Unit {0}
Low (Split k) d = Unit {0}
Low (Left y) d = Unit {0}
Low (Right y) d = Unit {0}
Low (Case k) d = Unit {0}
Low (Call l n) d = Unit {0}
Low Add d = Unit {0}
Low Less d = Unit {0}

-- Names are in scope, with the levels of each node.
abbrev pub Fit : List Node → List ℕ → Type 0
Fit [] [] = Unit {0}
Fit [] (d ∷ ds) = ⊥
Fit (o ∷ os) [] = ⊥
Fit (o ∷ os) (d ∷ ds) = Low o d × Fit os ds

fit_append : (xs ys : List Node) (ds es : List ℕ) → Fit xs ds → Fit ys es → Fit (xs ++ ys) (ds ++ es)
fit_append [] ys [] es h g = g
fit_append [] ys (d ∷ ds) es h g = absurd h
fit_append (x ∷ xs) ys [] es h g = absurd h
fit_append (x ∷ xs) ys (d ∷ ds) es h g = (h.0, fit_append xs ys ds es h.1 g)

found_low : (Γ : List TypeId) (l : ℕ) (y : TypeId) → found Γ l ≡ Some y → l < length Γ
found_low [] l y e = absurd (let z : ◌≡◌ {A = ℕ} 0 1 = cc in omega arith)
found_low (x ∷ Γ) l y e = go (eqb l (length Γ)) refl e (found_low Γ l y)
  where
    go : (b : Bool) → eqb l (length Γ) ≡ b → cond b (Some x) (found Γ l) ≡ Some y → (found Γ l ≡ Some y → l < length Γ) → l < suc (length Γ)
    go true q e ih = let p : l ≡ length Γ = eqb-true l (length Γ) q in omega arith
    go false q e ih = let p = ih e in omega arith

one_deeper : (b : Term) (n : ℕ) → Fit (flat b) (levels (suc n) b) → Fit (flat b) (levels (n + 1) b)
one_deeper b n h = subst (λ (m : ℕ). Fit (flat b) (levels m b)) (sym (add-one n)) h

module _ (w : World) where
  mutual
    pub fits : (Γ : List TypeId) (t : Term) (y : TypeId) → Typed w Γ t y → Fit (flat t) (levels (length Γ) t)
    fits Γ t_unit y h = (tt, tt)
    fits Γ (t_number n) y h = (tt, tt)
    fits Γ (t_name l) y h = (found_low Γ l y h, tt)
    fits Γ (t_let k a b) y h = (tt, fit_append (flat a) (flat b) (levels (length Γ) a) (levels (length Γ + 1) b) (fits Γ a h.0 h.1) (one_deeper b (length Γ) (fits (h.0 ∷ Γ) b y h.3)))
    fits Γ (t_take k a b) y h = (tt, fit_append (flat a) (flat b) (levels (length Γ) a) (levels (length Γ + 1) b) (fits Γ a h.0 h.1) (one_deeper b (length Γ) (fits (h.0 ∷ Γ) b y h.3)))
    fits Γ (t_pair a b) y h = (tt, fit_append (flat a) (flat b) (levels (length Γ) a) (levels (length Γ) b) (fits Γ a h.0 h.2) (fits Γ b h.1 h.3))
    fits Γ (t_split k a b) y h =
        let two : suc (suc (length Γ)) ≡ length Γ + 2 = omega arith in (
          tt,
          fit_append (flat a) (flat b) (levels (length Γ) a) (levels (length Γ + 2) b) (fits Γ a h.0 h.3)
              (subst (λ (n : ℕ). Fit (flat b) (levels n b)) two (fits (h.2 ∷ h.1 ∷ Γ) b y h.6)),
        )
    fits Γ (t_left x a) y h = (tt, fits Γ a h.0 h.2)
    fits Γ (t_right x a) y h = (tt, fits Γ a h.1 h.2)
    fits Γ (t_case k a b c) y h = (
      tt,
      fit_append (flat a) (flat b ++ flat c) (levels (length Γ) a) (levels (length Γ + 1) b ++ levels (length Γ + 1) c) (fits Γ a h.0 h.3)
          (fit_append (flat b) (flat c) (levels (length Γ + 1) b) (levels (length Γ + 1) c) (one_deeper b (length Γ) (fits (h.1 ∷ Γ) b y h.6)) (one_deeper c (length Γ) (fits (h.2 ∷ Γ) c y h.7))),
    )
    fits Γ (t_call l ts) y h = (tt, all_fit Γ ts h.1 h.2)
    fits Γ (t_add a b) y h = (tt, fit_append (flat a) (flat b) (levels (length Γ) a) (levels (length Γ) b) (fits Γ a _ h.0) (fits Γ b _ h.1))
    fits Γ (t_less a b) y h = (tt, fit_append (flat a) (flat b) (levels (length Γ) a) (levels (length Γ) b) (fits Γ a _ h.0) (fits Γ b _ h.1))

    all_fit : (Γ : List TypeId) (ts : Terms) (ys : List TypeId) → AllTyped w Γ ts ys → Fit (flats ts) (levels_of_each (length Γ) ts)
    all_fit Γ t_none ys h = tt
    all_fit Γ (t_more a ts) ys h = fit_append (flat a) (flats ts) (levels (length Γ) a) (levels_of_each (length Γ) ts) (fits Γ a h.0 h.2) (all_fit Γ ts h.1 h.3)

pub two_at_most : (o : Node) → binders o ≤ 2
two_at_most k_unit = omega arith
two_at_most (Number n) = omega arith
two_at_most (Name l) = omega arith
two_at_most (Let k) = omega arith
two_at_most (Take k) = omega arith
two_at_most Pair = omega arith
two_at_most (Split k) = omega arith
two_at_most (Left y) = omega arith
two_at_most (Right y) = omega arith
two_at_most (Case k) = omega arith
two_at_most (Call l n) = omega arith
two_at_most Add = omega arith
two_at_most Less = omega arith

module _ (ns : List Row) (gs : List Leg) (lv : ℕ → ℕ) (ls : List plan.Leg) (types : ℕ) (arities : List ℕ) (low : (l : ℕ) → l < length arities → Lower ns gs lv ls l (get_or arities l 0)) where
  own_of : (o : Node) (d b : ℕ) → NodeLaid types arities b o → Low o d → b < 65535 → Own ns gs lv ls o d
  own_of k_unit d b h n lt = tt
  own_of (Number x) d b h n lt = h
  own_of (Name l) d b h n lt = n
  own_of (Let k) d b h n lt = tt
  own_of (Take k) d b h n lt = tt
  own_of Pair d b h n lt = tt
  own_of (Split k) d b h n lt = omega arith
  own_of (Left y) d b h n lt = tt
  own_of (Right y) d b h n lt = tt
  own_of (Case k) d b h n lt = omega arith
  own_of (Call l c) d b h n lt = subst (λ (x : ℕ). Lower ns gs lv ls l.index x) (sym h.1) (low l.index h.0)
  own_of Add d b h n lt = tt
  own_of Less d b h n lt = tt

  pub owns : (os : List Node) (ds : List ℕ) (b : ℕ) → Run with_node (NodeLaid types arities) b os → Fit os ds → b + 2 * length os < 65535
      → (k : ℕ) → k < length os → Own ns gs lv ls (get_or os k k_unit) (get_or ds k 0)
  owns [] ds b r f lt k kl = absurd (omega arith)
  owns (o ∷ os) [] b r f lt k kl = absurd f
  owns (o ∷ os) (d ∷ ds) b r f lt zero kl = own_of o d b r.0 f.0 (omega arith)
  owns (o ∷ os) (d ∷ ds) b r f lt (suc k) kl = let two = two_at_most o in owns os ds (with_node b o) r.1 f.1 (omega arith) k (omega arith)
