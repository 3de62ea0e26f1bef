-- A graded expression costs the sum of its grades times the usages of its scope. Assumes nothing.
use Rattle.std.proofs.Common.{◌≡◌, ℕ, suc, ◌+◌, ◌<◌, ◌≤◌, List, [], ◌∷◌, length, sym, ◌∙◌, subst, le_refl, add-zero, zero-add, arith}
use Rattle.scales.specs.Laws.{Ops, Laws}
use Rattle.plan.specs.Trees.{Term, t_unit, t_number, t_name, t_let, t_take, t_pair, t_split, t_left, t_right, t_case, t_call, t_add, t_less, Terms, t_none, t_more, how_many, Leg}
use Rattle.evaluation.specs.Flight.{v_unit, v_number, v_pair, v_left, v_right, sum_of, less_of, first_of, second_of, State, value, Comp, Scope, at, a_name, Limits, absent, numbers, bound, tick, bump, Meaning, no_meaning, eval, bind_all}
use Rattle.grading.specs.Grading.{at as leg_at, no_leg, arity, Leq, nothing, scaled, Graded, Arguments}
use Rattle.grading.proofs.AtMost.{plus_both, times_both}
use Rattle.accounting.proofs.Sums.{total, plus_zero', leq_eq, leq_from, total_le, total_zero, total_scale}
use Rattle.accounting.proofs.Costs.{After, Costs, Scoped, gate_good, weaken}
use Rattle.accounting.proofs.Rules.{scoped_later, total_ends, bound_costs, bring_more, above_add, numbers_quiet, rule_leaf, rule_name, rule_let, rule_take, rule_two, rule_one, rule_split, rule_case}

-- What is known of a leg's meaning.
abbrev pub Serve : {G : Type 0} → Ops G → (ℕ → G) → Leg → Meaning → Type 0
Serve {G} S R leg mean =
    (mean.binder ≡ leg.first) × (ε : ℕ → G) × ((j : ℕ) → j < arity leg → Leq S (ε j) (R (leg.first + j)))
    × ((σ : Scope) (Vs : List (ℕ → G)) (m : ℕ) → length Vs ≡ arity leg → Scoped S R m σ Vs → Costs S R m (total S ε Vs) (mean.does σ))

module _ {G : Type 0} {S : Ops G} (Z : Laws S) (R : ℕ → G) (L : Limits) (legs : List Leg) (M : List Meaning)
    (serves : (i : ℕ) → i < length legs → Serve S R (leg_at no_leg legs i) (at (no_meaning L) M i)) where
  mutual
    pub eval_costs : (t : Term) (γ : ℕ → G) (ρ : Scope) (Us : List (ℕ → G)) (m : ℕ) → Graded S R legs (length Us) t γ
        → Scoped S R m ρ Us → Costs S R m (total S γ Us) (eval L M t ρ)
    eval_costs t_unit γ ρ Us m g sc = rule_leaf Z R L v_unit γ ρ Us m sc g
    eval_costs (t_number n) γ ρ Us m g sc = rule_leaf Z R L (v_number n) γ ρ Us m sc g
    eval_costs (t_name j) γ ρ Us m g sc = rule_name Z R L (absent L a_name) j γ ρ Us m sc g.0 g.1
    eval_costs (t_let k a e) γ ρ Us m g sc =
        rule_let Z R L k (eval L M a ρ) (λ c. eval L M e (c ∷ ρ)) g.0 g.1 γ ρ Us m sc
        (eval_costs a g.0 ρ Us m g.2 sc)
        (λ n c U le h. eval_costs e g.1 (c ∷ ρ) (U ∷ Us) n g.3 (h, scoped_later Z R L m n ρ Us le sc))
        g.4 g.5
    eval_costs (t_take k a e) γ ρ Us m g sc =
        rule_take Z R L k (eval L M a ρ) (λ c. eval L M e (c ∷ ρ)) g.0 g.1 γ ρ Us m sc
        (eval_costs a g.0 ρ Us m g.2 sc)
        (λ n c U le h. eval_costs e g.1 (c ∷ ρ) (U ∷ Us) n g.3 (h, scoped_later Z R L m n ρ Us le sc))
        g.4 g.5
    eval_costs (t_pair a e) γ ρ Us m g sc =
        rule_two Z R L (λ v w s. value (v_pair v w) s) (eval L M a ρ) (eval L M e ρ) g.0 g.1 γ ρ Us m (λ v u l n w s h. h) sc
        (eval_costs a g.0 ρ Us m g.2 sc) (eval_costs e g.1 ρ Us m g.3 sc) g.4
    eval_costs (t_split k a e) γ ρ Us m g sc =
        rule_split Z R L k (eval L M a ρ) (λ c d. eval L M e (d ∷ c ∷ ρ)) first_of second_of g.0 g.1 γ ρ Us m sc
        (eval_costs a g.0 ρ Us m g.2 sc)
        (λ n c d U V le h i. eval_costs e g.1 (d ∷ c ∷ ρ) (V ∷ U ∷ Us) n g.3 (i, (h, scoped_later Z R L m n ρ Us le sc)))
        g.4 g.5 g.6
    eval_costs (t_left y a) γ ρ Us m g sc = rule_one Z R L v_left (eval L M a ρ) γ ρ Us m sc (eval_costs a γ ρ Us m g sc)
    eval_costs (t_right y a) γ ρ Us m g sc = rule_one Z R L v_right (eval L M a ρ) γ ρ Us m sc (eval_costs a γ ρ Us m g sc)
    eval_costs (t_case k a e f) γ ρ Us m g sc =
        rule_case Z R L k (eval L M a ρ) (λ c. eval L M e (c ∷ ρ)) (λ c. eval L M f (c ∷ ρ)) g.0 g.1 g.2 γ ρ Us m sc
        (eval_costs a g.0 ρ Us m g.3 sc)
        (λ n c U le h. eval_costs e g.1 (c ∷ ρ) (U ∷ Us) n g.4 (h, scoped_later Z R L m n ρ Us le sc))
        (λ n c U le h. eval_costs f g.2 (c ∷ ρ) (U ∷ Us) n g.5 (h, scoped_later Z R L m n ρ Us le sc))
        g.6 g.7 g.8
    eval_costs (t_call i ts) γ ρ Us m g sc =
        let leg = leg_at no_leg legs i in
        let p = serves i g.0 in
        record {
          ends = total_ends Z R L m ρ Us γ sc;
          does = λ d s le.
              gate_good Z R _ _ _ (L.stops s.begun d) s _
              (subst (λ k. After S R (total S γ Us) s.log s.next (bind_all L M ts k ρ [] (at (no_meaning L) M i).does (suc d) (tick s))) (sym p.0)
              (weaken Z R _ _ _ _ _ (λ b x. leq_eq Z _ _ (Z.plus_zero _))
              (args_costs ts γ leg.first ρ Us m g.2 sc (at (no_meaning L) M i).does p.1 (arity leg) leg.first p.3 p.2
              [] [] s.next (zero-add _ ∙ g.1) (sym (add-zero _)) le tt (suc d) (tick s) (le_refl _))));
        }
    eval_costs (t_add a e) γ ρ Us m g sc =
        rule_two Z R L (numbers L sum_of) (eval L M a ρ) (eval L M e ρ) g.0 g.1 γ ρ Us m (numbers_quiet Z R L sum_of) sc
        (eval_costs a g.0 ρ Us m g.2 sc) (eval_costs e g.1 ρ Us m g.3 sc) g.4
    eval_costs (t_less a e) γ ρ Us m g sc =
        rule_two Z R L (numbers L less_of) (eval L M a ρ) (eval L M e ρ) g.0 g.1 γ ρ Us m (numbers_quiet Z R L less_of) sc
        (eval_costs a g.0 ρ Us m g.2 sc) (eval_costs e g.1 ρ Us m g.3 sc) g.4

    -- f is the leg's first binder, and p the number of its parameters
    pub args_costs : (ts : Terms) (γ : ℕ → G) (k : ℕ) (ρ : Scope) (Us : List (ℕ → G)) (m : ℕ) → Arguments S R legs (length Us) ts k γ
        → Scoped S R m ρ Us → (body : Scope → Comp) (ε : ℕ → G) (p f : ℕ)
        → ((σ : Scope) (Vs : List (ℕ → G)) (n : ℕ) → length Vs ≡ p → Scoped S R n σ Vs → Costs S R n (total S ε Vs) (body σ))
        → ((j : ℕ) → j < p → Leq S (ε j) (R (f + j)))
        → (σ : Scope) (Vs : List (ℕ → G)) (n : ℕ) → length Vs + how_many ts ≡ p → k ≡ f + length Vs → m ≤ n → Scoped S R n σ Vs
        → (d : ℕ) (s : State) → n ≤ s.next
        → After S R (λ b. S.plus (total S ε Vs b) (total S γ Us b)) s.log s.next (bind_all L M ts k ρ σ body d s)
    args_costs t_none γ k ρ Us m g sc body ε p f does ups σ Vs n len is le sv d s at_n =
        weaken Z R (total S ε Vs) _ _ _ _
        (λ b x. leq_from Z _ _ _ (sym (plus_zero' Z _))
        (plus_both Z (Z.leq_refl _) (leq_from Z _ _ _ (sym (total_zero Z Us b)) (total_le Z Us (nothing S) γ b g))))
        ((does σ Vs n (omega arith) sv).does d s at_n)
    args_costs (t_more a ts) γ k ρ Us m g sc body ε p f does ups σ Vs n len is le sv d s at_n =
        let r : Leq S (ε (length Vs)) (R k) = subst (λ i. Leq S (ε (length Vs)) (R i)) (sym is) (ups (length Vs) (omega arith)) in
        let A = eval_costs a g.0 ρ Us m g.2 sc in
        gate_good Z R _ _ _ (L.room (length s.log)) s _
        (bring_more Z R L k n s.next s.log σ Vs (total S g.0 Us) ε (total S g.1 Us) _ _ at_n sv
        (λ b x. A.ends b (omega arith)) (λ b x. total_ends Z R L m ρ Us g.1 sc b (omega arith)) r
        (λ b. leq_from Z _ _ _ (Z.plus_assoc _ _ _)
        (plus_both Z (Z.leq_refl _)
        (Z.leq_trans _ _ _
        (plus_both Z (Z.leq_trans _ _ _ (times_both Z r (Z.leq_refl _)) (total_scale Z Us (R k) g.0 b)) (Z.leq_refl _))
        (above_add Z R L Us (scaled S (R k) g.0) g.1 γ g.4 b))))
        (args_costs ts g.1 (suc k) ρ Us m g.3 sc body ε p f does ups
        (bound L k s.next (eval L M a ρ) ∷ σ) (_ ∷ Vs) (suc s.next) (omega arith) (omega arith) (omega arith)
        (bound_costs Z R L k s.next m _ (eval L M a ρ) (omega arith) A, scoped_later Z R L n (suc s.next) σ Vs (omega arith) sv)
        d (bump k s) (le_refl _)))
