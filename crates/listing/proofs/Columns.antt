-- As many kinds as grades are listed, and the grades fill their lists. Assumes nothing.
use Rattle.std.proofs.Common.{◌≡◌, ℕ, ◌+◌, ◌≤◌, Bool, true, false, cond, nat_le, List, [], ◌∷◌, ◌++◌, length, take, drop, Ok, Err, Result, sym, refl, ap, ◌∙◌, append-nil, arith, length-append, le-leb}
use Rattle.std.proofs.lemmas.List.{drop_all, take_at, length-replicate}
use Rattle.std.proofs.lemmas.Result.{err_from_is_err_and}
use Rattle.std.specs.Result.{IsErrAnd}
use Rattle.scales.specs.Laws.{Ops}
use Rattle.plan.specs.declared.Node.{Node}
use Rattle.plan.specs.declared.Node.TheVariants.{Unit as Unit', Number, Name, Let, Take, Pair, Split, Left, Right, Case, Call, Add, Less}
use Rattle.plan.specs.Trees.{Leg, Plan, flat}
use Rattle.plan.specs.Written.{with_node, binders_in}
use Rattle.plan.specs.Kinds.{binders}
use Rattle.typer.specs.Accepted.{typed}
use Rattle.grading.specs.Grading.{turned, last_first, arity}
use Rattle.grading.specs.Least.{least, binder_count, legs_binders}
use Rattle.grading.proofs.Standing.{legs_counted}
use Rattle.grader.specs.declared.faults.GradeFault.{GradeFault}
use Rattle.grader.specs.declared.faults.GradeFault.TheVariants.{Short, Plan as OfPlan}
use Rattle.plan.specs.declared.faults.PlanFault.{PlanFault}
use Rattle.plan.specs.declared.faults.PlanFault.TheVariants.{Read, Typing, Memory}
use Rattle.grader.specs.Walk.{put}
use Rattle.grader.specs.Grades.{work_places, graded, if_plan, GradesAnswer}
use Rattle.listing.specs.declared.BinderKind.{BinderKind}
use Rattle.listing.specs.declared.BinderKind.TheVariants.{Param}
use Rattle.listing.specs.declared.table.Listing.{Listing}
use Rattle.listing.specs.Binders.{bound_by, bound_in, params, leg_kinds, binder_kinds}
use Rattle.listing.specs.Listings.{ColumnRefused, ListingAnswer}

bound_counted : (o : Node) → length (bound_by o) ≡ binders o
bound_counted Unit' = refl
bound_counted (Number v) = refl
bound_counted (Name l) = refl
bound_counted (Let k) = refl
bound_counted (Take k) = refl
bound_counted Pair = refl
bound_counted (Split k) = refl
bound_counted (Left y) = refl
bound_counted (Right y) = refl
bound_counted (Case k) = refl
bound_counted (Call l n) = refl
bound_counted Add = refl
bound_counted Less = refl

in_counted : (os : List Node) (s : ℕ) → binders_in s os ≡ s + length (bound_in os)
in_counted [] s = omega arith
in_counted (o ∷ os) s =
    let b = bound_counted o in
    let h = in_counted os (with_node s o) in
    let a = length-append (bound_by o) (bound_in os) in
    omega arith

kinds_turned : (gs below : List Leg) → legs_binders (turned below gs) ≡ legs_binders below + length (leg_kinds gs)
kinds_turned [] below = omega arith
kinds_turned (g ∷ gs) below =
    let h = kinds_turned gs (g ∷ below) in
    let i = in_counted (flat g.body) (legs_binders below + arity g) in
    let a = length-append (params (arity g) ++ bound_in (flat g.body)) (leg_kinds gs) in
    let b = length-append (params (arity g)) (bound_in (flat g.body)) in
    let p = length-replicate (arity g) Param in
    omega arith

-- a kind for each binder
pub kinds_counted : (p : Plan) → binder_count p ≡ length (binder_kinds p)
kinds_counted p = let h = kinds_turned p.legs [] in omega arith

-- With room for its work and a place for each binder, a plan is graded.
fits : {G : Type 0} (o : Ops G) (work n : ℕ) (bs : List ℕ) (p : Plan) → work_places ≤ work → typed bs ≡ Ok p → binder_count p ≡ n → graded o work n bs ≡ Ok (least o p)
fits o work n bs p w t c =
    ap (λ b. cond b (if_plan o n (typed bs)) (Err Short)) (le-leb work_places work w) ∙ ap (if_plan o n) t
    ∙ ap (λ b. cond b (Ok (least o p)) (Err Short)) (le-leb (binder_count p) n (omega arith))

never_short : {G : Type 0} (o : Ops G) (work n : ℕ) (bs : List ℕ) (p : Plan) → work_places ≤ work → typed bs ≡ Ok p → binder_count p ≡ n → graded o work n bs ≡ Err Short → ⊥
never_short o work n bs p w t c e = let q = fits o work n bs p w t c in cc

plan_refused : {G : Type 0} (o : Ops G) (work n : ℕ) (bs : List ℕ) (e : PlanFault) → work_places ≤ work → graded o work n bs ≡ Err (OfPlan e) → typed bs ≡ Err e
plan_refused {G} o work n bs e w h =
    go (typed bs) (ap (λ b. cond b (if_plan o n (typed bs)) (Err Short)) (sym (le-leb work_places work w)) ∙ h)
  where
    counted : (b : Bool) (gs : List G) → ◌≡◌ {A = Result (List G) GradeFault} (cond b (Ok gs) (Err Short)) (Err (OfPlan e)) → ⊥
    counted true gs h = cc
    counted false gs h = cc

    go : (r : Result Plan PlanFault) → if_plan o n r ≡ Err (OfPlan e) → r ≡ Err e
    go (Ok p) h = absurd (counted (nat_le (binder_count p) n) (least o p) h)
    go (Err x) h = cc

-- The grades fill a list of as many places.
fills : {G : Type 0} (o : Ops G) (work : ℕ) (answers : List G) (bs : List ℕ) (p : Plan) (gs : List G) → work_places ≤ work → typed bs ≡ Ok p → binder_count p ≡ length answers
    → graded o work (length answers) bs ≡ Ok gs → put 0 gs answers ≡ least o p
fills o work answers bs p gs w t c e =
    let fit = fits o work (length answers) bs p w t c in
    let same : gs ≡ least o p = cc in
    let l : length gs ≡ binder_count p = ap length same ∙ legs_counted o (last_first p) in
    let e : drop (0 + length gs) answers ≡ [] = drop_all (0 + length gs) answers (omega arith) in
    ap (λ r. gs ++ r) e ∙ append-nil gs ∙ same

-- A list that was lent and came back full.
pub refilled : {G : Type 0} (o : Ops G) (work n : ℕ) (answers after items : List G) (bs : List ℕ) (gs : List G) → work_places ≤ work → length answers ≡ n → graded o work (length answers) bs ≡ Ok gs → after ≡ put 0 gs answers
    → (p : Plan) → typed bs ≡ Ok p → binder_count p ≡ n → take n (after ++ items) ≡ least o p
refilled o work n answers after items bs gs w l e a p t c =
    let full : after ≡ least o p = a ∙ fills o work answers bs p gs w t (omega arith) e in
    let long : length after ≡ n = ap length full ∙ legs_counted o (last_first p) ∙ c in
    take_at after items n long ∙ full

-- What refuses the grades refuses the column.
pub column_refused : {G : Type 0} (o : Ops G) (work after answers left : List G) (n : ℕ) (bs : List ℕ) (e : GradeFault) → work_places ≤ length work → length answers ≡ n
    → GradesAnswer o bs work after answers left (Err e) → ColumnRefused bs n e
column_refused o work after answers left n bs Short w l h = λ p t b. never_short o (length work) (length answers) bs p w t (omega arith) h.0
column_refused o work after answers left n bs (OfPlan (Read e)) w l h = plan_refused o (length work) (length answers) bs (Read e) w h.0
column_refused o work after answers left n bs (OfPlan (Typing e)) w l h = plan_refused o (length work) (length answers) bs (Typing e) w h.0
column_refused o work after answers left n bs (OfPlan Memory) w l h = tt

-- What refuses a column refuses the listing: the plan was read, and has a kind for each binder.
pub column_refuses : (bs : List ℕ) (n : ℕ) (p : Plan) (kinds : List BinderKind) (r : Result Listing GradeFault) (e : GradeFault) → typed bs ≡ Ok p → kinds ≡ binder_kinds p → length kinds ≡ n
    → ColumnRefused bs n e → IsErrAnd r (λ x. x ≡ e) → ListingAnswer bs r
column_refuses bs n p kinds r e t is c h i =
    let s = err_from_is_err_and r i in
    rw (s.1, s.2) (go e h)
  where
    go : (e : GradeFault) → ColumnRefused bs n e → ListingAnswer bs (Err e)
    go Short h = h p t (kinds_counted p ∙ ap length (sym is) ∙ c)
    go (OfPlan (Read e)) h = h
    go (OfPlan (Typing e)) h = h
    go (OfPlan Memory) h = h
