-- Legs, tables and whole plans: accepted exactly if written. Assumes nothing.
use Rattle.std.proofs.Common.{◌≡◌, ℕ, ◌+◌, ◌-◌, ◌*◌, ◌/◌, ◌%◌, ◌<◌, ◌≤◌, Bool, true, false, cond, ◌&&◌, ◌||◌, eqb, ltb, leb, List, [], ◌∷◌, ◌++◌, length, Ok, Err, Result, sym, refl, ap, ◌∙◌, subst, ap₂, inl, inr, append_assoc, append-nil, arith, ltb-true, lt-ltb, eqb-true, le-leb, leb-true}
use mathlib.Core.Option.{some, none}
use Rattle.std.proofs.lemmas.Bool.{or_cases, and_parts, and_from}
use Rattle.plan.specs.declared.faults.ReadFault.{ReadFault}
use Rattle.plan.specs.declared.faults.ReadFault.TheVariants.{Bits, Limit, «Ref»}
use Rattle.plan.specs.declared.Type.{«Type» as Shape}
use Rattle.plan.specs.declared.Type.TheVariants.{Unit as UnitType, Number as NumberType, Pair as PairType, Either as EitherType}
use Rattle.plan.specs.declared.TypeId.{TypeId}
use Rattle.plan.specs.Limits.{max_bytes, max_entries, max_legs, max_params, max_nodes}
use Rattle.plan.specs.Trees.{Term, Leg, Plan, flat, stack, Stack, the_type}
use Rattle.plan.specs.Written.{all_bytes, node_bytes, entry_bytes, table_bytes, nodes_bytes, type_byte, leg_bytes, map_byte, written, Run, built_in, listed, New, EntryLaid, with_entry, with_node, NodeLaid, Before, none_before, with_leg, same_state, Below, LegLaid, WellLaid}
use Rattle.reader.specs.Reading.{Got, then_read, many, byte_if, read_type, entry_of, new_entry, read_entry, read_node, read_count, single, read_body, read_params, read_leg, between, read_table, read_map, read_legs, read_front, read_plan, to_the_end, read}
use Rattle.reader.specs.Laws.{Bytes, ReadExactly}
use Rattle.reader.proofs.Exact.{Exact, bytes_after, then_inv, then_on, ok_same, cond_ok, byte_exact, many_sound, many_full}
use Rattle.plan.proofs.Stacks.{stack_one, one_back_flat}
use Rattle.plan.proofs.Ends.{some_nodes}
use Rattle.reader.proofs.Nodes.{node_exact}

pub type_exact : (all types : ℕ) → Exact (Below types) type_byte (read_type all types)
type_exact all types =
    let b = byte_exact (λ t. ltb t types) «Ref» all in record {
      sound = λ bs x rest y e. (
          let i = then_inv (byte_if (λ t. ltb t types) «Ref» all bs) _ (x, rest) e in
          let s = b.sound bs i.0 i.1 y i.2 in
          let q = ok_same (the_type i.0, i.1) (x, rest) i.3 in
          let n : i.0 ≡ x.index = ap (λ p. p.0.index) q in
          let r : i.1 ≡ rest = ap (λ p. p.1) q in
          (s.0 ∙ ap₂ (λ h t. h ∷ t) n r, subst (λ t. t < types) n (ltb-true i.0 types s.1)));
      full = λ x rest lt. then_on (byte_if (λ t. ltb t types) «Ref» all (x.index ∷ rest)) _ x.index rest (b.full x.index rest (lt-ltb x.index types lt));
    }

-- entries
module _ (all : ℕ) (ts : List Shape) where
  new_inv : (at : ℕ) (e q : Shape) (r rest : List ℕ) → new_entry at ts e r ≡ Ok (q, rest) → (listed e ts ≡ false) × (e ≡ q) × (r ≡ rest)
  new_inv at e q r rest h = go (listed e ts) refl h
    where
      go : (b : Bool) → listed e ts ≡ b → cond {A = Got Shape} b (Err («Ref» at)) (Ok (e, r)) ≡ Ok (q, rest) → (listed e ts ≡ false) × (e ≡ q) × (r ≡ rest)
      go true t h = cc
      go false t h = let i = ok_same (e, r) (q, rest) h in (t, ap (λ p. p.0) i, ap (λ p. p.1) i)

  new_on : (at : ℕ) (e : Shape) (r : List ℕ) → listed e ts ≡ false → new_entry at ts e r ≡ Ok (e, r)
  new_on at e r h = ap (λ b. cond b (Err («Ref» at)) (Ok (e, r))) h

  entry_at : (tag : ℕ) (a b : TypeId) → (eqb tag 1 || eqb tag 2) ≡ true → Below (length ts) a → Below (length ts) b → listed (entry_of tag a b) ts ≡ false
      → (tag ∷ a.index ∷ b.index ∷ [] ≡ entry_bytes (entry_of tag a b)) × EntryLaid ts (entry_of tag a b)
  entry_at tag a b t la lb n =
      elim (or_cases (eqb tag 1) (eqb tag 2) t) [
        | inl h ↦ subst (λ x. listed (entry_of x a b) ts ≡ false → (x ∷ a.index ∷ b.index ∷ [] ≡ entry_bytes (entry_of x a b)) × EntryLaid ts (entry_of x a b)) (sym (eqb-true tag 1 h)) (λ n. (refl, (la, lb, n))) n
        | inr h ↦ subst (λ x. listed (entry_of x a b) ts ≡ false → (x ∷ a.index ∷ b.index ∷ [] ≡ entry_bytes (entry_of x a b)) × EntryLaid ts (entry_of x a b)) (sym (eqb-true tag 2 h)) (λ n. (refl, (la, lb, n))) n
      ]

  entry_sound : (bs : List ℕ) (q : Shape) (rest : List ℕ) → Bytes bs → read_entry all ts bs ≡ Ok (q, rest) → (bs ≡ entry_bytes q ++ rest) × EntryLaid ts q
  entry_sound bs q rest y e =
      let i = then_inv (byte_if (λ t. eqb t 1 || eqb t 2) «Ref» all bs) _ (q, rest) e in
      let bi = (byte_exact (λ t. eqb t 1 || eqb t 2) «Ref» all).sound bs i.0 i.1 y i.2 in
      let yi = bytes_after (i.0 ∷ []) i.1 (subst Bytes bi.0 y) in
      let j = then_inv (read_type all (length ts) i.1) _ (q, rest) i.3 in
      let bj = (type_exact all (length ts)).sound i.1 j.0 j.1 yi j.2 in
      let yj = bytes_after (type_byte j.0) j.1 (subst Bytes bj.0 yi) in
      let l = then_inv (read_type all (length ts) j.1) _ (q, rest) j.3 in
      let bl = (type_exact all (length ts)).sound j.1 l.0 l.1 yj l.2 in
      let n = new_inv (all - length bs) (entry_of i.0 j.0 l.0) q l.1 rest l.3 in
      let g = entry_at i.0 j.0 l.0 bi.1 bj.1 bl.1 n.0 in
      subst (λ x. (bs ≡ entry_bytes x ++ rest) × EntryLaid ts x) n.1
      (bi.0 ∙ ap (λ r. i.0 ∷ r) (bj.0 ∙ ap (λ r. j.0.index ∷ r) (bl.0 ∙ ap (λ r. l.0.index ∷ r) n.2)) ∙ ap (λ h. h ++ rest) g.0, g.1)

  three_full : (tag : ℕ) (a b : TypeId) (q : Shape) (rest : List ℕ) → (eqb tag 1 || eqb tag 2) ≡ true → entry_of tag a b ≡ q → New ts q a b → read_entry all ts (tag ∷ a.index ∷ b.index ∷ rest) ≡ Ok (q, rest)
  three_full tag a b q rest t e n =
      then_on (byte_if (λ t. eqb t 1 || eqb t 2) «Ref» all (tag ∷ a.index ∷ b.index ∷ rest)) _ tag (a.index ∷ b.index ∷ rest) ((byte_exact (λ t. eqb t 1 || eqb t 2) «Ref» all).full tag (a.index ∷ b.index ∷ rest) t)
      ∙ then_on (read_type all (length ts) (a.index ∷ b.index ∷ rest)) _ a (b.index ∷ rest) ((type_exact all (length ts)).full a (b.index ∷ rest) n.0)
      ∙ then_on (read_type all (length ts) (b.index ∷ rest)) _ b rest ((type_exact all (length ts)).full b rest n.1)
      ∙ ap (λ x. new_entry (all - length (tag ∷ a.index ∷ b.index ∷ rest)) ts x rest) e ∙ new_on (all - length (tag ∷ a.index ∷ b.index ∷ rest)) q rest n.2

  entry_full : (q : Shape) (rest : List ℕ) → EntryLaid ts q → read_entry all ts (entry_bytes q ++ rest) ≡ Ok (q, rest)
  entry_full UnitType rest l = absurd l
  entry_full NumberType rest l = absurd l
  entry_full (PairType a b) rest l = three_full 1 a b (PairType a b) rest refl refl l
  entry_full (EitherType a b) rest l = three_full 2 a b (EitherType a b) rest refl refl l

  pub entry_exact : Exact (EntryLaid ts) entry_bytes (read_entry all ts)
  entry_exact = record { sound = entry_sound; full = entry_full }

-- a count, then so many things
abbrev pub Counted : {X S : Type 0} → (S → X → S) → (S → X → Type 0) → (ℕ → Bool) → S → List X → Type 0
Counted next ok test s xs = (test (length xs) ≡ true) × Run next ok s xs

abbrev pub counted_bytes : {X : Type 0} → (X → List ℕ) → List X → List ℕ
counted_bytes write xs = length xs ∷ all_bytes write xs

abbrev pub counted : {X S : Type 0} → (S → X → S) → (S → List ℕ → Got X) → (ℕ → Bool) → ℕ → S → List ℕ → Got (List X)
counted next P test all s bs = then_read (byte_if test Limit all bs) (λ n r. many next P n s r)

module _ {X S : Type 0} (next : S → X → S) (ok : S → X → Type 0) (write : X → List ℕ) (P : S → List ℕ → Got X) (each : (s : S) → Exact (ok s) write (P s)) (test : ℕ → Bool) (all : ℕ) (s : S) where
  pub counted_exact : Exact (Counted next ok test s) (counted_bytes write) (counted next P test all s)
  counted_exact = record { sound = sound; full = full }
    where
      sound : (bs : List ℕ) (xs : List X) (rest : List ℕ) → Bytes bs → counted next P test all s bs ≡ Ok (xs, rest) → (bs ≡ counted_bytes write xs ++ rest) × Counted next ok test s xs
      sound bs xs rest y e =
          let i = then_inv (byte_if test Limit all bs) _ (xs, rest) e in
          let bi = (byte_exact test Limit all).sound bs i.0 i.1 y i.2 in
          let m = many_sound next ok write P each i.0 s i.1 xs rest (bytes_after (i.0 ∷ []) i.1 (subst Bytes bi.0 y)) i.3 in
          (bi.0 ∙ ap₂ (λ h r. h ∷ r) (sym m.2) m.0, (subst (λ n. test n ≡ true) (sym m.2) bi.1, m.1))

      full : (xs : List X) (rest : List ℕ) → Counted next ok test s xs → counted next P test all s (counted_bytes write xs ++ rest) ≡ Ok (xs, rest)
      full xs rest c =
          then_on (byte_if test Limit all (length xs ∷ (all_bytes write xs ++ rest))) _ (length xs) (all_bytes write xs ++ rest) ((byte_exact test Limit all).full (length xs) _ c.0)
          ∙ many_full next ok write P each xs s rest c.1

-- the body of a leg
pub record BodyLaid (types used : ℕ) (arities : List ℕ) (k : ℕ) (t : Term) : Type 0 where
  pub few_nodes : used + length (flat t) ≤ max_nodes
  pub nodes_laid : Run with_node (NodeLaid types arities) k (flat t)

abbrev two_bytes : ℕ → List ℕ
two_bytes n = (n / 0x100) ∷ (n % 0x100) ∷ []

abbrev in_count : ℕ → ℕ → Bool
in_count used n = leb 1 n && leb (used + n) max_nodes

pub count_exact : (all used : ℕ) → Exact (λ n. in_count used n ≡ true) two_bytes (read_count all used)
count_exact all used = record { sound = sound; full = full }
  where
    sound : (bs : List ℕ) (n : ℕ) (rest : List ℕ) → Bytes bs → read_count all used bs ≡ Ok (n, rest) → (bs ≡ two_bytes n ++ rest) × (in_count used n ≡ true)
    sound [] n rest y e = cc
    sound (h ∷ []) n rest y e = cc
    sound (h ∷ l ∷ bs) n rest y e =
        let i = cond_ok (in_count used (h * 0x100 + l)) (h * 0x100 + l, bs) (n, rest) (Limit (all - length (h ∷ l ∷ bs))) e in
        let en : h * 0x100 + l ≡ n = ap (λ p. p.0) i.1 in
        let er : bs ≡ rest = ap (λ p. p.1) i.1 in
        let lt = y.1.0 in
        let eh : h ≡ n / 0x100 = omega arith in
        let el : l ≡ n % 0x100 = omega arith in
        ((let q : h ∷ l ∷ bs ≡ (n / 0x100) ∷ (n % 0x100) ∷ rest = cc in q), subst (λ x. in_count used x ≡ true) en i.0)

    full : (n : ℕ) (rest : List ℕ) → in_count used n ≡ true → read_count all used (two_bytes n ++ rest) ≡ Ok (n, rest)
    full n rest t =
        let e : n / 0x100 * 0x100 + n % 0x100 ≡ n = omega arith in
        ap (λ x. cond (in_count used x) (Ok (x, rest)) (Err (Limit (all - length (two_bytes n ++ rest))))) e ∙ ap (λ b. cond b (Ok (n, rest)) (Err (Limit (all - length (two_bytes n ++ rest))))) t

single_inv : (at : ℕ) (s : Stack) (r : List ℕ) (t : Term) (rest : List ℕ) → single at s r ≡ Ok (t, rest) → (s ≡ some (t ∷ [])) × (r ≡ rest)
single_inv at none r t rest e = cc
single_inv at (some []) r t rest e = cc
single_inv at (some (u ∷ [])) r t rest e = let i = ok_same (u, r) (t, rest) e in (ap (λ p. some (p.0 ∷ [])) i, ap (λ p. p.1) i)
single_inv at (some (u ∷ v ∷ us)) r t rest e = cc

abbrev body_bytes : Term → List ℕ
body_bytes t = nodes_bytes (flat t)

pub body_exact : (all types : ℕ) (s : Before) (k : ℕ) → Exact (BodyLaid types s.used s.arities k) body_bytes (read_body all types s k)
body_exact all types s k = record { sound = sound; full = full }
  where
    sound : (bs : List ℕ) (t : Term) (rest : List ℕ) → Bytes bs → read_body all types s k bs ≡ Ok (t, rest) → (bs ≡ body_bytes t ++ rest) × BodyLaid types s.used s.arities k t
    sound bs t rest y e =
        let i = then_inv (read_count all s.used bs) _ (t, rest) e in
        let ci = (count_exact all s.used).sound bs i.0 i.1 y i.2 in
        let yi = bytes_after (two_bytes i.0) i.1 (subst Bytes ci.0 y) in
        let j = then_inv (many with_node (read_node all types s.arities) i.0 k i.1) _ (t, rest) i.3 in
        let m = many_sound with_node (NodeLaid types s.arities) node_bytes (read_node all types s.arities) (node_exact all types s.arities) i.0 k i.1 j.0 j.1 yi j.2 in
        let g = single_inv (all - length bs) (stack j.0) j.1 t rest j.3 in
        let os : j.0 ≡ flat t = one_back_flat j.0 t g.0 in
        let n : i.0 ≡ length (flat t) = sym m.2 ∙ ap length os in
        let fits = and_parts (leb 1 i.0) (leb (s.used + i.0) max_nodes) ci.1 in
        let few = leb-true (s.used + i.0) max_nodes fits.1 in (
          ci.0 ∙ ap₂ (λ c r. two_bytes c ++ r) n (m.0 ∙ ap₂ (λ o r. all_bytes node_bytes o ++ r) os g.1),
          record { few_nodes = omega arith; nodes_laid = subst (Run with_node (NodeLaid types s.arities) k) os m.1 },
        )

    full : (t : Term) (rest : List ℕ) → BodyLaid types s.used s.arities k t → read_body all types s k (body_bytes t ++ rest) ≡ Ok (t, rest)
    full t rest l =
        let n = length (flat t) in
        let few = l.few_nodes in
        let pos = some_nodes t in
        then_on (read_count all s.used (body_bytes t ++ rest)) _ n (all_bytes node_bytes (flat t) ++ rest)
        ((count_exact all s.used).full n _ (and_from (leb 1 n) (leb (s.used + n) max_nodes) (le-leb 1 n pos) (le-leb (s.used + n) max_nodes few)))
        ∙ then_on (many with_node (read_node all types s.arities) n k (all_bytes node_bytes (flat t) ++ rest)) _ (flat t) rest
        (many_full with_node (NodeLaid types s.arities) node_bytes (read_node all types s.arities) (node_exact all types s.arities) (flat t) k rest l.nodes_laid)
        ∙ ap (λ x. single (all - length (body_bytes t ++ rest)) x rest) (stack_one t)

-- legs
abbrev few_enough : ℕ → Bool
few_enough c = between 0 max_params c

module _ (all types : ℕ) where
  params_exact : Exact (Counted same_state Below few_enough types) (counted_bytes type_byte) (read_params all types)
  params_exact = counted_exact same_state Below type_byte (read_type all) (type_exact all) few_enough all types

  leg_spelled : (ps : List TypeId) (y : TypeId) (t : Term) (rest : List ℕ)
      → counted_bytes type_byte ps ++ (y.index ∷ (body_bytes t ++ rest)) ≡ (length ps ∷ (all_bytes type_byte ps ++ (y.index ∷ body_bytes t))) ++ rest
  leg_spelled ps y t rest = ap (λ l. length ps ∷ l) (sym (append_assoc (all_bytes type_byte ps) (y.index ∷ body_bytes t) rest))

  abbrev leg_of : Before → List TypeId → TypeId → Term → Leg
  leg_of s ps y t = record { params = ps; result = y; first = s.next; body = t }

  leg_sound : (s : Before) (bs : List ℕ) (g : Leg) (rest : List ℕ) → Bytes bs → read_leg all types s bs ≡ Ok (g, rest) → (bs ≡ leg_bytes g ++ rest) × LegLaid types s g
  leg_sound s bs g rest b e =
      let i = then_inv (read_params all types bs) _ (g, rest) e in
      let pi = params_exact.sound bs i.0 i.1 b i.2 in
      let yi = bytes_after (counted_bytes type_byte i.0) i.1 (subst Bytes pi.0 b) in
      let j = then_inv (read_type all types i.1) _ (g, rest) i.3 in
      let pj = (type_exact all types).sound i.1 j.0 j.1 yi j.2 in
      let yj = bytes_after (type_byte j.0) j.1 (subst Bytes pj.0 yi) in
      let l = then_inv (read_body all types s (s.next + length i.0) j.1) _ (g, rest) j.3 in
      let pl = (body_exact all types s (s.next + length i.0)).sound j.1 l.0 l.1 yj l.2 in
      let w = ok_same (leg_of s i.0 j.0 l.0, l.1) (g, rest) l.3 in
      let er : l.1 ≡ rest = ap (λ p. p.1) w in
      subst (λ x. (bs ≡ leg_bytes x ++ rest) × LegLaid types s x) (ap (λ p. p.0) w) (
        pi.0 ∙ ap (λ r. counted_bytes type_byte i.0 ++ r) (pj.0 ∙ ap (λ r. j.0.index ∷ r) (pl.0 ∙ ap (λ r. body_bytes l.0 ++ r) er)) ∙ leg_spelled i.0 j.0 l.0 rest,
        record {
          few_params = leb-true (length i.0) max_params (and_parts (leb 0 (length i.0)) (leb (length i.0) max_params) pi.1.0).1;
          params_there = pi.1.1;
          result_there = pj.1;
          numbered = refl;
          few_nodes = pl.1.few_nodes;
          nodes_laid = pl.1.nodes_laid;
        },
      )

  leg_full : (s : Before) (g : Leg) (rest : List ℕ) → LegLaid types s g → read_leg all types s (leg_bytes g ++ rest) ≡ Ok (g, rest)
  leg_full s g rest l =
      ap (read_leg all types s) (sym (leg_spelled g.params g.result g.body rest))
      ∙ then_on (read_params all types (counted_bytes type_byte g.params ++ (g.result.index ∷ (body_bytes g.body ++ rest)))) _ g.params (g.result.index ∷ (body_bytes g.body ++ rest))
      (params_exact.full g.params _ (and_from (leb 0 (length g.params)) (leb (length g.params) max_params) (le-leb 0 (length g.params) (omega arith)) (le-leb (length g.params) max_params l.few_params), l.params_there))
      ∙ then_on (read_type all types (g.result.index ∷ (body_bytes g.body ++ rest))) _ g.result (body_bytes g.body ++ rest) ((type_exact all types).full g.result _ l.result_there)
      ∙ then_on (read_body all types s (s.next + length g.params) (body_bytes g.body ++ rest)) _ g.body rest
      ((body_exact all types s (s.next + length g.params)).full g.body rest (record { few_nodes = l.few_nodes; nodes_laid = l.nodes_laid }))
      ∙ ap (λ f. Ok (record { params = g.params; result = g.result; first = f; body = g.body }, rest)) (sym l.numbered)

  pub leg_exact : (s : Before) → Exact (LegLaid types s) leg_bytes (read_leg all types s)
  leg_exact s = record { sound = leg_sound s; full = leg_full s }

  pub legs_exact : Exact (Counted with_leg (LegLaid types) (between 1 max_legs) none_before) (counted_bytes leg_bytes) (read_legs all types)
  legs_exact = counted_exact with_leg (LegLaid types) leg_bytes (read_leg all types) leg_exact (between 1 max_legs) all none_before

-- the table
module _ (all : ℕ) where
  table_exact : Exact (Counted with_entry EntryLaid (between 1 max_entries) built_in) (counted_bytes entry_bytes) (read_table all)
  table_exact = counted_exact with_entry EntryLaid entry_bytes (read_entry all) (entry_exact all) (between 1 max_entries) all built_in

  pub record TableLaid (es : List Shape) : Type 0 where
    pub few_entries : length es ≤ max_entries
    pub entries_laid : Run with_entry EntryLaid built_in es

  counted_table : (es : List Shape) → 1 ≤ length es → (counted_bytes entry_bytes es ≡ table_bytes es) × (6 ≡ map_byte es)
  counted_table [] h = absurd (omega arith)
  counted_table (e ∷ es) h = (refl, refl)

  map_inv : (m : ℕ) (bs : List ℕ) (es : List Shape) (rest : List ℕ) → (eqb m 4 || eqb m 6) ≡ true → Bytes bs → read_map all m bs ≡ Ok (es, rest)
      → (m ≡ map_byte es) × (bs ≡ table_bytes es ++ rest) × TableLaid es
  map_inv m bs es rest t b e = go (eqb m 4) refl t e
    where
      go : (x : Bool) → eqb m 4 ≡ x → (x || eqb m 6) ≡ true → cond {A = Got (List Shape)} x (Ok ([], bs)) (read_table all bs) ≡ Ok (es, rest) → (m ≡ map_byte es) × (bs ≡ table_bytes es ++ rest) × TableLaid es
      go true q t e =
          let i = ok_same ([], bs) (es, rest) e in
          let n : [] ≡ es = ap (λ p. p.0) i in
          subst (λ l. (m ≡ map_byte l) × (bs ≡ table_bytes l ++ rest) × TableLaid l) n
          (eqb-true m 4 q, ap (λ p. p.1) i, record { few_entries = omega arith; entries_laid = tt })
      go false q t e =
          let i = table_exact.sound bs es rest b e in
          let f = and_parts (leb 1 (length es)) (leb (length es) max_entries) i.1.0 in
          let c = counted_table es (leb-true 1 (length es) f.0) in
          (eqb-true m 6 t ∙ c.1, i.0 ∙ ap (λ l. l ++ rest) c.0, record { few_entries = leb-true (length es) max_entries f.1; entries_laid = i.1.1 })

  map_full : (es : List Shape) (rest : List ℕ) → TableLaid es → ((eqb (map_byte es) 4 || eqb (map_byte es) 6) ≡ true) × (read_map all (map_byte es) (table_bytes es ++ rest) ≡ Ok (es, rest))
  map_full [] rest l = (refl, refl)
  map_full (e ∷ es) rest l =
      let n = length (e ∷ es) in
      let few = l.few_entries in
      (refl, table_exact.full (e ∷ es) rest (and_from (leb 1 n) (leb n max_entries) (le-leb 1 n (omega arith)) (le-leb n max_entries few), l.entries_laid))

  pub record Laid (p : Plan) : Type 0 where
    pub table : TableLaid p.entries
    pub legs : Counted with_leg (LegLaid (3 + length p.entries)) (between 1 max_legs) none_before p.legs

  plan_spelled : (es : List Shape) (gs : List Leg) (rest : List ℕ)
      → map_byte es ∷ (table_bytes es ++ (counted_bytes leg_bytes gs ++ rest)) ≡ written (record { entries = es; legs = gs }) ++ rest
  plan_spelled es gs rest = ap (λ l. map_byte es ∷ l) (sym (append_assoc (table_bytes es) (counted_bytes leg_bytes gs) rest))

  plan_sound : (bs : List ℕ) (p : Plan) (rest : List ℕ) → Bytes bs → read_plan all bs ≡ Ok (p, rest) → (bs ≡ written p ++ rest) × Laid p
  plan_sound bs p rest b e =
      let o = then_inv (read_front all bs) _ (p, rest) e in
      let i = then_inv (byte_if (λ m. eqb m 4 || eqb m 6) Bits all bs) _ (o.0, o.1) o.2 in
      let pi = (byte_exact (λ m. eqb m 4 || eqb m 6) Bits all).sound bs i.0 i.1 b i.2 in
      let yi = bytes_after (i.0 ∷ []) i.1 (subst Bytes pi.0 b) in
      let pj = map_inv i.0 i.1 o.0 o.1 pi.1 yi i.3 in
      let yj = bytes_after (table_bytes o.0) o.1 (subst Bytes pj.1 yi) in
      let l = then_inv (read_legs all (3 + length o.0) o.1) _ (p, rest) o.3 in
      let pl = (legs_exact all (3 + length o.0)).sound o.1 l.0 l.1 yj l.2 in
      let w = ok_same (record { entries = o.0; legs = l.0 }, l.1) (p, rest) l.3 in
      let er : l.1 ≡ rest = ap (λ p. p.1) w in
      subst (λ x. (bs ≡ written x ++ rest) × Laid x) (ap (λ p. p.0) w) (
        pi.0 ∙ ap₂ (λ h r. h ∷ r) pj.0 (pj.1 ∙ ap (λ r. table_bytes o.0 ++ r) (pl.0 ∙ ap (λ r. counted_bytes leg_bytes l.0 ++ r) er)) ∙ plan_spelled o.0 l.0 rest,
        record { table = pj.2; legs = pl.1 },
      )

  plan_full : (p : Plan) (rest : List ℕ) → Laid p → read_plan all (written p ++ rest) ≡ Ok (p, rest)
  plan_full p rest l =
      let es = p.entries in
      let m = map_full es (counted_bytes leg_bytes p.legs ++ rest) l.table in
      ap (read_plan all) (sym (plan_spelled es p.legs rest))
      ∙ then_on (read_front all (map_byte es ∷ (table_bytes es ++ (counted_bytes leg_bytes p.legs ++ rest)))) _ es (counted_bytes leg_bytes p.legs ++ rest)
      (then_on (byte_if (λ m. eqb m 4 || eqb m 6) Bits all (map_byte es ∷ (table_bytes es ++ (counted_bytes leg_bytes p.legs ++ rest)))) _ (map_byte es) (table_bytes es ++ (counted_bytes leg_bytes p.legs ++ rest))
      ((byte_exact (λ m. eqb m 4 || eqb m 6) Bits all).full (map_byte es) _ m.0) ∙ m.1)
      ∙ then_on (read_legs all (3 + length es) (counted_bytes leg_bytes p.legs ++ rest)) _ p.legs rest ((legs_exact all (3 + length es)).full p.legs rest l.legs)

end_inv : (all : ℕ) (g : Got Plan) (p : Plan) → to_the_end all g ≡ Ok p → g ≡ Ok (p, [])
end_inv all (Err x) p e = cc
end_inv all (Ok (q, [])) p e = ap (λ x. Ok (x, [])) (ok_same q p e)
end_inv all (Ok (q, b ∷ bs)) p e = cc

accepted : (bs : List ℕ) (p : Plan) → Bytes bs → read bs ≡ Ok p → WellLaid p × (written p ≡ bs)
accepted bs p b e = go (leb (length bs) max_bytes) refl e
  where
    go : (x : Bool) → leb (length bs) max_bytes ≡ x → cond {A = Result Plan ReadFault} x (to_the_end (length bs) (read_plan (length bs) bs)) (Err (Limit max_bytes)) ≡ Ok p → WellLaid p × (written p ≡ bs)
    go false q e = cc
    go true q e =
        let s = plan_sound (length bs) bs p [] b (end_inv (length bs) (read_plan (length bs) bs) p e) in
        let same : bs ≡ written p = s.0 ∙ append-nil (written p) in
        let t = s.1.table in
        let g = s.1.legs in
        let f = and_parts (leb 1 (length p.legs)) (leb (length p.legs) max_legs) g.0 in
        let short = leb-true (length bs) max_bytes q in (
          record {
            few_entries = t.few_entries;
            entries_laid = t.entries_laid;
            some_legs = leb-true 1 (length p.legs) f.0;
            few_legs = leb-true (length p.legs) max_legs f.1;
            legs_laid = g.1;
            few_bytes = subst (λ l. length l ≤ max_bytes) same short;
          },
          sym same,
        )

written_read : (p : Plan) → WellLaid p → read (written p) ≡ Ok p
written_read p w =
    let bs = written p in
    let n = length p.legs in
    let laid : Laid (length bs) p = record {
      table = record { few_entries = w.few_entries; entries_laid = w.entries_laid };
      legs = (and_from (leb 1 n) (leb n max_legs) (le-leb 1 n w.some_legs) (le-leb n max_legs w.few_legs), w.legs_laid);
    } in
    ap (λ x. cond {A = Result Plan ReadFault} x (to_the_end (length bs) (read_plan (length bs) bs)) (Err (Limit max_bytes))) (le-leb (length bs) max_bytes w.few_bytes)
    ∙ ap (λ l. to_the_end (length bs) (read_plan (length bs) l)) (sym (append-nil bs))
    ∙ ap (to_the_end (length bs)) (plan_full (length bs) p [] laid)

pub read_exactly : (bs : List ℕ) → Bytes bs → (p : Plan) → ReadExactly bs p
read_exactly bs b p = record { accepted = accepted bs p b; spelled = λ w e. subst (λ x. read x ≡ Ok p) e (written_read p w) }
