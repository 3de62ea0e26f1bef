-- A flat plan that spells trees does what the trees do. Assumes nothing.
use Rattle.std.proofs.Common.{◌≡◌, ℕ, zero, suc, ◌+◌, ◌<◌, ◌≤◌, Bool, true, false, cond, eqb, List, [], ◌∷◌, ◌++◌, reverse, length, get_or, sym, refl, ap, ◌∙◌, subst, ap₂, add-one, arith, length-append}
use mathlib.Core.List.{map-append}
use lib.Seq.{get_or-append_seam}
use Rattle.plan.specs.Trees as plan
use Rattle.evaluation.specs.Flight as byname
use Rattle.flight.specs.Nodes.{Runner, Runs, no_leg, kind_at, end_at, kid2, kid3, node_does, bind_kids}
use Rattle.flight.specs.Tables.{Tables, the_spot, opened, new_binding, size_at, no_binding}
use Rattle.flight.specs.Means.{scope_at, entry_of}
use Rattle.flight.specs.Sound.{Ready}
use Rattle.flight.specs.Spelled.{trees, below, SameLeg, from_leg, Spells, Spelled, runner, Main, blank, Storing, Begun}
use Rattle.plan.specs.Table.{term_at}
use Rattle.plan.specs.Plans.{leg_in, params_of}
use Rattle.plan.specs.declared.Node.{Node}
use Rattle.plan.specs.declared.Node.TheVariants.{Unit as k_unit, Number, Name, Let, Take, Pair, Split, Left, Right, Case, Call, Add, Less}
use Rattle.plan.specs.declared.Row.{Row}
use Rattle.plan.specs.declared.Leg.{Leg}
use Rattle.flight.specs.declared.machine.Binding.{Binding}
use Rattle.flight.specs.declared.machine.What.TheVariants.{Store}
use Rattle.flight.specs.Tables.{Made}
use Rattle.flight.specs.declared.machine.Control.TheVariants.{Eval}
use Rattle.flight.specs.Means.{unwind}
use Rattle.flight.proofs.Keeps.{sound_opened}
use Rattle.flight.proofs.Links.{parts_blank}
use Rattle.flight.proofs.Decode.{scope_new}

legs_length : (L : byname.Limits) (ls : List plan.Leg) → length (byname.meanings L ls) ≡ length ls
legs_length L [] = refl
legs_length L (l ∷ ls) = ap suc (legs_length L ls)

abbrev meaning : byname.Limits → plan.Leg → List plan.Leg → byname.Meaning
meaning L l ls = record { binder = l.first; does = byname.eval L (byname.meanings L ls) l.body }

-- the meaning of a leg that is there
leg_meaning : (L : byname.Limits) (ls : List plan.Leg) (g : ℕ) (l : plan.Leg) (rest : List plan.Leg) → from_leg ls g ≡ l ∷ rest
    → byname.at (byname.no_meaning L) (byname.meanings L ls) g ≡ meaning L l rest
leg_meaning L [] g l rest e = absurd (let z : ◌≡◌ {A = ℕ} 0 1 = cc in omega arith)
leg_meaning L (x ∷ xs) g l rest e =
    ap (λ (n : ℕ). cond (eqb g n) (meaning L x xs) (byname.at (byname.no_meaning L) (byname.meanings L xs) g)) (legs_length L xs)
    ∙ go (eqb g (length xs)) e (leg_meaning L xs g l rest)
  where
    go : (b : Bool) → cond b (x ∷ xs) (from_leg xs g) ≡ l ∷ rest → (from_leg xs g ≡ l ∷ rest → byname.at (byname.no_meaning L) (byname.meanings L xs) g ≡ meaning L l rest)
        → cond b (meaning L x xs) (byname.at (byname.no_meaning L) (byname.meanings L xs) g) ≡ meaning L l rest
    go true e ih = ap₂ (meaning L) (let p : x ≡ l = cc in p) (let p : xs ≡ rest = cc in p)
    go false e ih = ih e

module _ (ns : List Row) (gs : List Leg) where
  abbrev E : Runner
  E = runner ns gs

  binds : (L : byname.Limits) (ls : List plan.Leg) (c x k : ℕ) (ρ σ : byname.Scope) (f : byname.Scope → byname.Comp) (d : ℕ) (s : byname.State) → SameLeg ns gs ls c x
      → byname.bind_all L (byname.meanings L ls) (trees ns c x) k ρ σ f d s ≡ bind_kids E L ns c x k ρ σ f d s
  binds L ls zero x k ρ σ f d s h = refl
  binds L ls (suc c) x k ρ σ f d s h =
      ap (byname.make L k s)
      (λ j b s.
      (ap (λ (m : ℕ). byname.bind_all L (byname.meanings L ls) (trees ns c (end_at ns x)) m ρ (byname.bound L k b (byname.begin L (byname.inside L (byname.meanings L ls) (term_at ns x) ρ)) ∷ σ) f d s) (sym (add-one k))
      ∙ ap (λ (z : List plan.Leg). byname.bind_all L (byname.meanings L ls) (trees ns c (end_at ns x)) (k + 1) ρ (byname.bound L k b (byname.begin L (byname.inside L (byname.meanings L z) (term_at ns x) ρ)) ∷ σ) f d s) (sym h.0)
      ∙ binds L ls c (end_at ns x) (k + 1) ρ (byname.bound L k b (byname.begin L (E L x ρ)) ∷ σ) f d s h.1) j)

  abbrev As : byname.Limits → ℕ → byname.Scope → ℕ → byname.State → plan.Term → byname.Out
  As L i ρ d s t = byname.inside L (byname.meanings L (below ns gs i)) t ρ d s

  -- the kid at x, one deeper, in a leg that is the node's own
  abbrev Kid : byname.Limits → List plan.Leg → ℕ → byname.Scope → byname.Comp
  Kid L ls x ρ = byname.begin L (byname.inside L (byname.meanings L ls) (term_at ns x) ρ)

  does : (n : ℕ) (k : Node) (i : ℕ) (ρ : byname.Scope) (d : ℕ) (s : byname.State) → Spells ns gs k i → E (byname.house n) i ρ d s ≡ node_does E (byname.house n) ns gs k i ρ d s
  does n k_unit i ρ d s h = ap (As (byname.house n) i ρ d s) h
  does n (Number m) i ρ d s h = ap (As (byname.house n) i ρ d s) h
  does n (Name l) i ρ d s h = ap (As (byname.house n) i ρ d s) h
  does n (Let k) i ρ d s h =
      let L = byname.house n in
      ap (As L i ρ d s) h.0
      ∙ (λ j. byname.make L k.index s (λ b s. Kid L (sym h.2 j) (kid2 ns i) (byname.bound L k.index b (Kid L (sym h.1 j) (i + 1) ρ) ∷ ρ) (sym (add-one d) j) s))
  does n (Take k) i ρ d s h =
      let L = byname.house n in
      ap (As L i ρ d s) h.0
      ∙ (λ j. byname.and_then (Kid L (sym h.1 j) (i + 1) ρ (sym (add-one d) j) s)
      (λ v s. byname.make L k.index s (λ b s. Kid L (sym h.2 j) (kid2 ns i) (byname.bound L k.index b (byname.kept v) ∷ ρ) (sym (add-one d) j) s)))
  does n Pair i ρ d s h =
      let L = byname.house n in
      ap (As L i ρ d s) h.0
      ∙ (λ j. byname.and_then (Kid L (sym h.1 j) (i + 1) ρ (sym (add-one d) j) s)
      (λ v s. byname.and_then (Kid L (sym h.2 j) (kid2 ns i) ρ (sym (add-one d) j) s) (λ w s. byname.value (byname.v_pair v w) s)))
  does n (Split k) i ρ d s h =
      let L = byname.house n in
      ap (As L i ρ d s) h.0
      ∙ (λ j. byname.and_then (Kid L (sym h.1 j) (i + 1) ρ (sym (add-one d) j) s)
      (λ v s. byname.make L k.index s (λ b s. byname.make L (sym (add-one k.index) j) s (λ c s. Kid L (sym h.2 j) (kid2 ns i)
      (byname.bound L (sym (add-one k.index) j) c (byname.kept (byname.second_of v)) ∷ byname.bound L k.index b (byname.kept (byname.first_of v)) ∷ ρ) (sym (add-one d) j) s))))
  does n (Left y) i ρ d s h =
      let L = byname.house n in
      ap (As L i ρ d s) h.0
      ∙ (λ j. byname.and_then (Kid L (sym h.1 j) (i + 1) ρ (sym (add-one d) j) s) (λ v s. byname.value (byname.v_left v) s))
  does n (Right y) i ρ d s h =
      let L = byname.house n in
      ap (As L i ρ d s) h.0
      ∙ (λ j. byname.and_then (Kid L (sym h.1 j) (i + 1) ρ (sym (add-one d) j) s) (λ v s. byname.value (byname.v_right v) s))
  does n (Case k) i ρ d s h =
      let L = byname.house n in
      ap (As L i ρ d s) h.0
      ∙ (λ j. byname.and_then (Kid L (sym h.1 j) (i + 1) ρ (sym (add-one d) j) s)
      (λ v s. byname.either_of v
      (λ v. byname.make L k.index s (λ b s. Kid L (sym h.2 j) (kid2 ns i) (byname.bound L k.index b (byname.kept v) ∷ ρ) (sym (add-one d) j) s))
      (λ v. byname.make L (sym (add-one k.index) j) s (λ b s. Kid L (sym h.3 j) (kid3 ns i) (byname.bound L (sym (add-one k.index) j) b (byname.kept v) ∷ ρ) (sym (add-one d) j) s))))
  does n (Call g m) i ρ d s h =
      let L = byname.house n in
      let l = get_or gs g.index no_leg in
      let ls = below ns gs i in
      let body = byname.eval L (byname.meanings L (below ns gs l.first)) (term_at ns l.first) in
      ap (As L i ρ d s) h.0
      ∙ ap (λ (x : byname.Meaning). byname.bind_all L (byname.meanings L ls) (trees ns m (i + 1)) x.binder ρ [] x.does (suc d) s)
      (leg_meaning L ls g.index (leg_in ns l) (below ns gs l.first) h.2)
      ∙ ap (λ (x : ℕ). byname.bind_all L (byname.meanings L ls) (trees ns m (i + 1)) l.binder.index ρ [] body x s) (sym (add-one d))
      ∙ binds L ls m (i + 1) l.binder.index ρ [] body (d + 1) s h.1
  does n Add i ρ d s h =
      let L = byname.house n in
      ap (As L i ρ d s) h.0
      ∙ (λ j. byname.and_then (Kid L (sym h.1 j) (i + 1) ρ (sym (add-one d) j) s)
      (λ v s. byname.and_then (Kid L (sym h.2 j) (kid2 ns i) ρ (sym (add-one d) j) s) (λ w s. byname.value (byname.sum_of v w) s)))
  does n Less i ρ d s h =
      let L = byname.house n in
      ap (As L i ρ d s) h.0
      ∙ (λ j. byname.and_then (Kid L (sym h.1 j) (i + 1) ρ (sym (add-one d) j) s)
      (λ v s. byname.and_then (Kid L (sym h.2 j) (kid2 ns i) ρ (sym (add-one d) j) s) (λ w s. byname.value (byname.less_of v w) s)))

pub runs : (ns : List Row) (gs : List Leg) → Spelled ns gs → Runs ns gs (runner ns gs)
runs ns gs S n i ρ d s lt = does ns gs n (kind_at ns i) i ρ d s (S i lt)

-- a flight that begins

module _ (ns : List Row) (gs : List Leg) (g : Leg) where
  pub store_start : Main ns gs g → Storing ns gs g blank 0
  store_start M =
      record {
        main = M;
        sound = record {
          bindings = λ i lt. absurd (omega arith);
          values = parts_blank;
          frames = λ i lt. absurd (omega arith);
          made = omega arith;
          log = omega arith;
          begun = omega arith;
          room = omega arith;
          high = omega arith;
          three = omega arith;
          nothing = tt;
          yes = refl;
          not = refl;
        };
        upto = omega arith;
        made = refl;
        log = refl;
        short = refl;
        size = refl;
        frames = refl;
        begun = refl;
        scope = λ E L. refl;
      }

  pub store_more : (t : Tables) (i : ℕ) → Storing ns gs g t i → i < length (params_of g) → Storing ns gs g (opened (g.binder.index + i) Store i t) (i + 1)
  store_more t i S lt =
      let M = S.main in
      let B = t.bindings in
      let ps = M.few in
      let nb = new_binding B (g.binder.index + i) Store i in
      let md = S.made in
      let sh = S.short in
      let e : length (B ++ (nb ∷ [])) ≡ length B + 1 = length-append B (nb ∷ []) in
      let l : length (t.log ++ (Made (g.binder.index + i) (length B) ∷ [])) ≡ length t.log + 1 = length-append t.log _ in
      record {
        main = M;
        sound = sound_opened ns M.lv t (g.binder.index + i) Store i S.sound (omega arith) (omega arith) (omega arith);
        upto = omega arith;
        made = omega arith;
        log = map-append entry_of t.log (Made (g.binder.index + i) (length B) ∷ [])
            ∙ ap₂ (λ (x : List byname.Entry) (n : ℕ). x ++ (byname.made (g.binder.index + i) n ∷ [])) S.log md
            ∙ ap (byname.stores_log g.binder.index) (sym (add-one i));
        short = omega arith;
        size = ap (size_at (B ++ (nb ∷ []))) (add-one i) ∙ ap (λ (n : ℕ). suc (get_or (B ++ (nb ∷ [])) n no_binding).level) (sym md)
            ∙ ap (λ (b : Binding). suc b.level) (get_or-append_seam B nb [] no_binding) ∙ ap suc S.size ∙ sym (add-one i);
        frames = S.frames;
        begun = S.begun;
        scope = λ E L.
            ap (λ (n : ℕ). scope_at E L t.values (B ++ (nb ∷ [])) (n + 1)) (sym md)
            ∙ scope_new E L t.values B nb
            ∙ ap₂ (λ (n : ℕ) (ρ : byname.Scope). byname.store L (g.binder.index + i) n ∷ ρ) md (S.scope E L)
            ∙ ap (byname.stores L g.binder.index) (sym (add-one i));
      }

  pub storing_at : (t t' : Tables) (i : ℕ) → t' ≡ t → Storing ns gs g t i → Storing ns gs g t' i
  storing_at t t' i e S = subst (λ (x : Tables). Storing ns gs g x i) (sym e) S

  module _ (t : Tables) (i : ℕ) (S : Storing ns gs g t i) (ge : length (params_of g) ≤ i) where
    same : i ≡ length (params_of g)
    same = let u = S.upto in omega arith

    pub begin_ready : Ready ns gs t (Eval (the_spot g.first (length (params_of g)) 1))
    begin_ready =
        let M = S.main in
        let fr : length t.frames ≡ 0 = ap length S.frames in
        let u = S.upto in
        let md = S.made in
        record {
          lv = M.lv;
          lv_is = M.lv_is;
          laid = M.laid;
          sound = S.sound;
          control = ((M.node.0, M.node.1 ∙ sym (ap (size_at t.bindings) (sym same) ∙ S.size ∙ same)), omega arith, omega arith, omega arith);
        }

    pub begin_stands : Begun ns gs g t (Eval (the_spot g.first (length (params_of g)) 1))
    begin_stands y =
        let E = runner ns gs in
        let bg = S.begun in
        let f = g.binder.index in
        record {
          rest = bg;
          most = omega arith;
          means = λ n le. (let L = byname.house n in
              let e = same in
              (λ j. unwind E L ns t.values t.bindings (reverse (S.frames j))
              (byname.begin L (E L g.first ((ap (scope_at E L t.values t.bindings) (sym same) ∙ S.scope E L ∙ ap (byname.stores L f) e) j)) 1
              (record { begun = S.begun j; log = (S.log ∙ ap (byname.stores_log f) e) j; next = (S.made ∙ e) j; left = y }))));
        }
