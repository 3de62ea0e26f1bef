-- Stocks that cover the ceilings of an allowed grading never run out. Assumes nothing.
use Rattle.std.proofs.Common.{◌≡◌, ℕ, zero, suc, ◌+◌, ◌<◌, ◌≤◌, Bool, true, false, cond, eqb, List, [], ◌∷◌, ◌++◌, reverse, length, get_or, sym, refl, ap, ◌∙◌, subst, inl, inr, le_trans, arith}
use Rattle.std.proofs.lemmas.Bool.{eqb-true, eqb-false, eq-eqb, lt-ltb}
use Rattle.scales.specs.Laws.{Ops, Laws, Within}
use Rattle.scales.specs.declared.scale.Ceiling.{Ceiling}
use Rattle.scales.specs.declared.scale.Ceiling.TheVariants.{Count, Unbounded}
use Rattle.plan.specs.Trees.{Leg, Plan}
use Rattle.evaluation.specs.Flight.{Entry, made, lookups, Readings, house, free, stores_log, fly_legs, fly, flight, state_at}
use Rattle.evaluation.specs.Laws.{stores_in, stores_of, store_lookups}
use Rattle.evaluation.proofs.Bounded.{lookups_append, stocks_add_up}
use Rattle.evaluation.proofs.Follows.{unlimited_extends}
use Rattle.grading.specs.Grading.{arity}
use Rattle.grading.specs.Least.{first_of, main_leg, ceilings}
use Rattle.grading.specs.Laws.{Accepted}
use Rattle.grading.proofs.Whole.{least_allowed, ceilings_of}
use Rattle.accounting.specs.Accounting.{Made, Covers, StocksSuffice, Stocked, Guards, AllowedGuards}
use Rattle.accounting.proofs.Grades.{same_order, keeps_within}

made_left : (k b : ℕ) (l m : List Entry) → Made k b l → Made k b (l ++ m)
made_left k b [] m h = absurd h
made_left k b (e ∷ l) m (inl p) = inl p
made_left k b (e ∷ l) m (inr h) = inr (made_left k b l m h)

made_last : (k b : ℕ) (l : List Entry) → Made k b (l ++ (made k b ∷ []))
made_last k b [] = inl refl
made_last k b (e ∷ l) = inr (made_last k b l)

-- The log of a flight has the stores' bindings from the start; the one with no budget has no more.
stores_have : (f n i : ℕ) → i < n → Made (f + i) i (stores_log f n)
stores_have f zero i lt = absurd (omega arith)
stores_have f (suc n) i lt = go (stores_have f n i) (eqb i n) refl
  where
    go : (i < n → Made (f + i) i (stores_log f n)) → (x : Bool) → eqb i n ≡ x → Made (f + i) i (stores_log f (suc n))
    go ih true e = subst (λ j. Made (f + i) i (stores_log f n ++ (made (f + j) j ∷ []))) (eqb-true i n e) (made_last (f + i) i (stores_log f n))
    go ih false e = made_left (f + i) i (stores_log f n) _ (ih (let q : ¬ (i ≡ n) = eqb-false i n e in omega arith))

at_start : (gs : List Leg) (r : Readings) (i : ℕ) → i < stores_in gs → Made ((first_of gs).first + i) i (state_at (fly_legs (house 0) gs r)).log
at_start [] r i lt = absurd (omega arith)
at_start (main ∷ below) r i lt = stores_have main.first (arity main) i lt

store_made : (p : Plan) (r : Readings) (i : ℕ) → i < stores_of p → Made ((main_leg p).first + i) i (state_at (fly free p r)).log
store_made p r i lt =
    let h = unlimited_extends.prefix 0 p r in
    subst (Made ((main_leg p).first + i) i) (sym h.1)
    (made_left ((main_leg p).first + i) i (state_at (flight 0 p r)).log h.0
    (subst (λ gs. Made ((first_of gs).first + i) i (state_at (flight 0 p r)).log) (sym (same_order p)) (at_start (reverse p.legs) r i lt)))

covered : (c : Ceiling) (k n : ℕ) → Within k c → Covers c n → k ≤ n
covered (Count m) k n w v = le_trans w v
covered Unbounded k n w v = absurd v

-- At EMPTY the store's lookups so far are its whole stock, and without limits one more comes.
pub stocks_suffice : {G : Type 0} {S : Ops G} → Laws S → StocksSuffice S
stocks_suffice Z p R al r cov n s e =
    let a = unlimited_extends.awaits n p r s e in
    let i = a.1 in
    let f = unlimited_extends.gives p r in
    let t = f.1 in
    let l : (state_at (fly free p r)).log ≡ t.log = ap (λ o. (state_at o).log) f.2 in
    let m : Made ((main_leg p).first + i) i t.log = subst (Made ((main_leg p).first + i) i) l (store_made p r i a.4) in
    let w : lookups i t.log ≤ length (r i) = covered _ _ _ (Z.ones_within _ _ (keeps_within Z free p R al r f.0 t f.2 ((main_leg p).first + i) i m)) (cov i a.4) in
    let c : lookups i t.log ≡ lookups i s.log + suc (lookups i a.2)
    = ap (lookups i) (sym l ∙ a.3) ∙ lookups_append i s.log _
    ∙ ap (λ x. lookups i s.log + cond x (suc (lookups i a.2)) (lookups i a.2)) (eq-eqb i i refl) in
    let d : length (r i) ≡ length (s.left i) + lookups i s.log
    = stocks_add_up.counts n p r i
    ∙ ap (λ o. length ((state_at o).left i) + store_lookups (stores_of p) i (state_at o).log) e
    ∙ ap (λ x. length (s.left i) + cond x (lookups i s.log) 0) (lt-ltb i (stores_of p) a.4) in
    let b : length (s.left i) ≡ 0 = ap length a.5 in
    omega arith

-- A store beyond the list has the ceiling 0, which any stock covers.
all_covered : (cs : List Ceiling) (r : Readings) → Stocked cs r → (i : ℕ) → Covers (get_or cs i (Count 0)) (length (r i))
all_covered [] r h i = omega arith
all_covered (c ∷ cs) r h zero = h zero (omega arith)
all_covered (c ∷ cs) r h (suc i) = all_covered cs (λ j. r (suc j)) (λ j lt. h (suc j) (omega arith)) i

stores_arity : (gs : List Leg) → stores_in gs ≡ arity (first_of gs)
stores_arity [] = refl
stores_arity (main ∷ below) = refl

main_arity : (p : Plan) → stores_of p ≡ arity (main_leg p)
main_arity p = stores_arity (reverse p.legs) ∙ ap (λ gs. arity (first_of gs)) (sym (same_order p))

pub allowed_guards : {G : Type 0} {S : Ops G} → Laws S → AllowedGuards S
allowed_guards Z p R al cs has r st = stocks_suffice Z p R al r (λ i lt. subst (λ c. Covers c (length (r i))) (has i lt) (all_covered cs r st i))

-- The least grading is allowed, and has these ceilings at the stores.
pub least_guards : {G : Type 0} {S : Ops G} → Laws S → (p : Plan) → Accepted p → Guards p (ceilings S p)
least_guards {G} {S} Z p ok =
    let a = (least_allowed Z).at_stores p ok in
    allowed_guards Z p a.0 a.1 (ceilings S p)
    (λ i lt. let lt' : i < arity (main_leg p) = subst (λ n. i < n) (main_arity p) lt in (ceilings_of S).of_stores p ok i lt' ∙ ap S.ceiling (sym (a.2 i lt')))
