-- A node's bytes. Assumes nothing.
use Rattle.std.proofs.Common.{◌≡◌, ℕ, zero, suc, ◌+◌, ◌-◌, ◌*◌, ◌/◌, ◌%◌, ◌^◌, ◌<◌, ◌≤◌, Bool, true, false, cond, eqb, ltb, leb, ◌⊎◌, List, [], ◌∷◌, ◌++◌, length, get_or, Some, None, Ok, Err, Option, sym, refl, ap, ◌∙◌, subst, ap₂, inl, inr, arith, ltb-true, lt-ltb, eqb-true, leb-true}
use lib.Dec.{eqb-suc-zero}
use Rattle.plan.specs.declared.faults.ReadFault.TheVariants.{Bits}
use Rattle.plan.specs.declared.Node.{Node}
use Rattle.plan.specs.declared.Node.TheVariants.{Unit as Unit', Number, Name, Let, Take, Pair, Split, Left, Right, Case, Call, Add, Less}
use Rattle.plan.specs.Written.{node_bytes, byte_field, number_field, NodeLaid}
use Rattle.plan.specs.declared.kinds.Field.{Field}
use Rattle.plan.specs.declared.kinds.Field.TheVariants.{Absent, Byte, Number as Word}
use Rattle.plan.specs.Kinds.{rule, announced, shape_of}
use Rattle.plan.specs.Trees.{the_type, the_leg, the_level, the_binder}
use Rattle.reader.specs.Reading.{Head, not_zero, read_byte, read_number, by_shape, typed_node, node_of, field_place, there, node_from, read_node}
use Rattle.reader.specs.Laws.{Bytes}
use Rattle.reader.proofs.Exact.{Exact, ok_same}

some_same : {X : Type 0} (x y : X) → ◌≡◌ {A = Option X} (Some x) (Some y) → x ≡ y
some_same x y e = cc

not_zero_suc : (at k v : ℕ) (rest : List ℕ) → not_zero at k (suc v) rest ≡ Ok (k, suc v, rest)
not_zero_suc at k v rest = ap (λ b. cond b (Err (Bits at)) (Ok (k, suc v, rest))) (eqb-suc-zero v)

-- ---- a node's first byte

abbrev bits_of : Field → ℕ
bits_of Absent = 0
bits_of Byte = 1
bits_of Word = 2

abbrev Announces : ℕ → ℕ → Field → ℕ → Field → Type 0
Announces bits j g k f = (j ≡ k) × (bits ≡ bits_of f) × ((f ≡ Absent) ⊎ (f ≡ g))

-- a test that passed, and the tests after it
tested : (bits j : ℕ) (h g : Field) (more : Option (ℕ × Field)) (k : ℕ) (f : Field) → (h ≡ Absent) ⊎ (h ≡ g) → (more ≡ Some (k, f) → Announces bits j g k f)
    → cond (eqb bits (bits_of h)) (Some (j, h)) more ≡ Some (k, f) → Announces bits j g k f
tested bits j h g more k f own next e = go (eqb bits (bits_of h)) refl e
  where
    go : (t : Bool) → eqb bits (bits_of h) ≡ t → cond t (Some (j, h)) more ≡ Some (k, f) → Announces bits j g k f
    go false q e = next e
    go true q e =
        let p = some_same (j, h) (k, f) e in
        let same : h ≡ f = ap (λ x. x.1) p in
        (ap (λ x. x.0) p, eqb-true bits (bits_of h) q ∙ ap bits_of same, subst (λ x. (x ≡ Absent) ⊎ (x ≡ g)) same own)

nothing : {X : Type 0} (k : ℕ) (f : Field) → ◌≡◌ {A = Option (ℕ × Field)} None (Some (k, f)) → X
nothing k f e = cc

announces : (bits j : ℕ) (g : Field) (k : ℕ) (f : Field) → announced bits j g ≡ Some (k, f) → Announces bits j g k f
announces bits j Absent k f e = tested bits j Absent Absent None k f (inl refl) (nothing k f) e
announces bits j Byte k f e = tested bits j Absent Byte _ k f (inl refl) (tested bits j Byte Byte None k f (inr refl) (nothing k f)) e
announces bits j Word k f e = tested bits j Absent Word _ k f (inl refl) (tested bits j Word Word None k f (inr refl) (nothing k f)) e

-- The kind is one of the table, and a field that is announced is the kind's own.
record Shaped (h k : ℕ) (f : Field) : Type 0 where
  pub known : k ≤ 12
  pub head_is : h ≡ k + 16 * bits_of f
  pub own : (f ≡ Absent) ⊎ (f ≡ (rule k).field)

shaped : (h k : ℕ) (f : Field) → shape_of h ≡ Some (k, f) → Shaped h k f
shaped h k f e = go (leb (h % 16) 12) refl e
  where
    go : (t : Bool) → leb (h % 16) 12 ≡ t → cond t (announced (h / 16) (h % 16) (rule (h % 16)).field) None ≡ Some (k, f) → Shaped h k f
    go false t e = nothing k f e
    go true t e =
        let a = announces (h / 16) (h % 16) (rule (h % 16)).field k f e in
        let low = a.0 in
        let high = a.1 in
        record {
          known = subst (λ x. x ≤ 12) low (leb-true (h % 16) 12 t);
          head_is = omega arith;
          own = subst (λ x. (f ≡ Absent) ⊎ (f ≡ (rule x).field)) low a.2;
        }

own_field : {h k : ℕ} (f : Field) → Shaped h k f → ¬ (f ≡ Absent) → (rule k).field ≡ f
own_field f s no-absent = elim s.own [ inl e ↦ absurd (no-absent e) | inr e ↦ sym e ]

-- only numbers have a field of four bytes
word_kind : (j : ℕ) → j ≤ 12 → (rule j).field ≡ Word → j ≡ 1
word_kind zero le e = cc
word_kind (suc zero) le e = refl
word_kind (suc (suc zero)) le e = cc
word_kind (suc (suc (suc zero))) le e = cc
word_kind (suc (suc (suc (suc zero)))) le e = cc
word_kind (suc (suc (suc (suc (suc zero))))) le e = cc
word_kind (suc (suc (suc (suc (suc (suc zero)))))) le e = cc
word_kind (suc (suc (suc (suc (suc (suc (suc zero))))))) le e = cc
word_kind (suc (suc (suc (suc (suc (suc (suc (suc zero)))))))) le e = cc
word_kind (suc (suc (suc (suc (suc (suc (suc (suc (suc zero))))))))) le e = cc
word_kind (suc (suc (suc (suc (suc (suc (suc (suc (suc (suc zero)))))))))) le e = cc
word_kind (suc (suc (suc (suc (suc (suc (suc (suc (suc (suc (suc zero))))))))))) le e = cc
word_kind (suc (suc (suc (suc (suc (suc (suc (suc (suc (suc (suc (suc zero)))))))))))) le e = cc
word_kind (suc (suc (suc (suc (suc (suc (suc (suc (suc (suc (suc (suc (suc j))))))))))))) le e = absurd (omega arith)

typed_there : (types y : ℕ) (o : Node) → y < types → typed_node types y o ≡ Some o
typed_there types y o lt = ap (λ b. cond b (Some o) None) (lt-ltb y types lt)

typed_inv : (types y : ℕ) (o q : Node) → typed_node types y o ≡ Some q → (y < types) × (o ≡ q)
typed_inv types y o q e = go (ltb y types) refl e
  where
    go : (b : Bool) → ltb y types ≡ b → cond b (Some o) None ≡ Some q → (y < types) × (o ≡ q)
    go true t e = (ltb-true y types t, some_same o q e)
    go false t e = cc

module _ (all types : ℕ) (arities : List ℕ) (k : ℕ) where
  abbrev Reads : Node → Type 0
  Reads o = (rest : List ℕ) → read_node all types arities k (node_bytes o ++ rest) ≡ Ok (o, rest)

  -- a field of one byte that is not zero
  byte_there : (h kind v : ℕ) (o : Node) (rest : List ℕ) → shape_of h ≡ Some (kind, Byte) → node_of types arities k kind (suc v) ≡ Some o → read_node all types arities k (h ∷ suc v ∷ rest) ≡ Ok (o, rest)
  byte_there h kind v o rest e q =
      let at = all - length (h ∷ suc v ∷ rest) in
      ap (node_from types arities at k) (ap (λ s. by_shape all at s (suc v ∷ rest)) e ∙ not_zero_suc at kind v rest) ∙ ap (λ x. there (field_place at (suc v)) x rest) q

  four : (v : ℕ) → v < 2 ^ 32 → v / 0x1000000 * 0x1000000 + v / 0x10000 % 0x100 * 0x10000 + v / 0x100 % 0x100 * 0x100 + v % 0x100 ≡ v
  four v lt = omega arith

  number_there : (v : ℕ) (rest : List ℕ) → suc v < 2 ^ 32 → read_node all types arities k (number_field 1 (suc v) ++ rest) ≡ Ok (Number (suc v), rest)
  number_there v rest lt =
      let at = all - length (number_field 1 (suc v) ++ rest) in
      ap (λ x. node_from types arities at k (not_zero at 1 x rest)) (four (suc v) lt) ∙ ap (node_from types arities at k) (not_zero_suc at 1 v rest)

  byte_full : (kind v : ℕ) (o : Node) (rest : List ℕ) → shape_of kind ≡ Some (kind, Absent) → shape_of (0x10 + kind) ≡ Some (kind, Byte) → node_of types arities k kind v ≡ Some o
      → read_node all types arities k (byte_field kind v ++ rest) ≡ Ok (o, rest)
  byte_full kind zero o rest bare wide q =
      let at = all - length (kind ∷ rest) in
      ap (λ s. node_from types arities at k (by_shape all at s rest)) bare ∙ ap (λ x. there at x rest) q
  byte_full kind (suc v) o rest bare wide q = byte_there (0x10 + kind) kind v o rest wide q

  number_full : (v : ℕ) (rest : List ℕ) → v < 2 ^ 32 → read_node all types arities k (number_field 1 v ++ rest) ≡ Ok (Number v, rest)
  number_full zero rest lt = refl
  number_full (suc v) rest lt = number_there v rest lt

  pub node_full : (o : Node) → NodeLaid types arities k o → Reads o
  node_full Unit' l rest = refl
  node_full (Number v) l rest = number_full v rest l
  node_full (Name x) l rest = byte_full 2 x.index (Name x) rest refl refl refl
  node_full (Let b) l rest = ap (λ x. Ok (Let (the_binder x), rest)) (sym l)
  node_full (Take b) l rest = ap (λ x. Ok (Take (the_binder x), rest)) (sym l)
  node_full Pair l rest = refl
  node_full (Split b) l rest = ap (λ x. Ok (Split (the_binder x), rest)) (sym l)
  node_full (Left y) l rest = byte_full 7 y.index (Left y) rest refl refl (typed_there types y.index (Left y) l)
  node_full (Right y) l rest = byte_full 8 y.index (Right y) rest refl refl (typed_there types y.index (Right y) l)
  node_full (Case b) l rest = ap (λ x. Ok (Case (the_binder x), rest)) (sym l)
  node_full (Call g n) l rest =
      byte_full 10 g.index (Call g (get_or arities g.index 0)) rest refl refl (typed_there (length arities) g.index (Call g (get_or arities g.index 0)) l.0)
      ∙ ap (λ x. Ok (Call g x, rest)) (sym l.1)
  node_full Add l rest = refl
  node_full Less l rest = refl

  abbrev Good : List ℕ → Node → Type 0
  Good bs o = (bs ≡ node_bytes o) × NodeLaid types arities k o

  good : (bs : List ℕ) (o q : Node) → Good bs o → Some o ≡ Some q → Good bs q
  good bs o q g e = subst (Good bs) (some_same o q e) g

  good_typed : (bs : List ℕ) (n y : ℕ) (o q : Node) → (y < n → Good bs o) → typed_node n y o ≡ Some q → Good bs q
  good_typed bs n y o q g e = let i = typed_inv n y o q e in subst (Good bs) i.1 (g i.0)

  bare_good : (h : ℕ) (q : Node) → h ≤ 12 → node_of types arities k h 0 ≡ Some q → Good (h ∷ []) q
  bare_good zero q le e = good (0 ∷ []) Unit' q (refl, tt) e
  bare_good (suc zero) q le e = good (1 ∷ []) (Number 0) q (refl, omega arith) e
  bare_good (suc (suc zero)) q le e = good (2 ∷ []) (Name (the_level 0)) q (refl, omega arith) e
  bare_good (suc (suc (suc zero))) q le e = good (3 ∷ []) (Let (the_binder k)) q (refl, refl) e
  bare_good (suc (suc (suc (suc zero)))) q le e = good (4 ∷ []) (Take (the_binder k)) q (refl, refl) e
  bare_good (suc (suc (suc (suc (suc zero))))) q le e = good (5 ∷ []) Pair q (refl, tt) e
  bare_good (suc (suc (suc (suc (suc (suc zero)))))) q le e = good (6 ∷ []) (Split (the_binder k)) q (refl, refl) e
  bare_good (suc (suc (suc (suc (suc (suc (suc zero))))))) q le e = good_typed (7 ∷ []) types 0 (Left (the_type 0)) q (λ lt. (refl, lt)) e
  bare_good (suc (suc (suc (suc (suc (suc (suc (suc zero)))))))) q le e = good_typed (8 ∷ []) types 0 (Right (the_type 0)) q (λ lt. (refl, lt)) e
  bare_good (suc (suc (suc (suc (suc (suc (suc (suc (suc zero))))))))) q le e = good (9 ∷ []) (Case (the_binder k)) q (refl, refl) e
  bare_good (suc (suc (suc (suc (suc (suc (suc (suc (suc (suc zero)))))))))) q le e = good_typed (10 ∷ []) (length arities) 0 (Call (the_leg 0) (get_or arities 0 0)) q (λ lt. (refl, (lt, refl))) e
  bare_good (suc (suc (suc (suc (suc (suc (suc (suc (suc (suc (suc zero))))))))))) q le e = good (11 ∷ []) Add q (refl, tt) e
  bare_good (suc (suc (suc (suc (suc (suc (suc (suc (suc (suc (suc (suc zero)))))))))))) q le e = good (12 ∷ []) Less q (refl, tt) e
  bare_good (suc (suc (suc (suc (suc (suc (suc (suc (suc (suc (suc (suc (suc h))))))))))))) q le e = absurd (omega arith)

  -- the three ways to read a field
  abbrev Way : List ℕ → ℕ → ℕ → List ℕ → Type 0
  Way bs kind v rest =
      ((bs ≡ kind ∷ rest) × (kind ≤ 12) × (v ≡ 0))
      ⊎ (((bs ≡ (0x10 + kind) ∷ v ∷ rest) × (¬ (v ≡ 0)) × (v < 256) × (kind ≤ 12) × ((rule kind).field ≡ Byte))
      ⊎ ((a b c d : ℕ) × (bs ≡ 0x21 ∷ a ∷ b ∷ c ∷ d ∷ rest) × (kind ≡ 1) × (¬ (v ≡ 0)) × (v ≡ a * 0x1000000 + b * 0x10000 + c * 0x100 + d) × (a < 256) × (b < 256) × (c < 256) × (d < 256)))

  not_zero_inv : (at kind v : ℕ) (rest : List ℕ) (q : ℕ × ℕ × List ℕ) → not_zero at kind v rest ≡ Ok q → (¬ (v ≡ 0)) × ((kind, v, rest) ≡ q)
  not_zero_inv at kind zero rest q e = cc
  not_zero_inv at kind (suc v) rest q e = (λ z. omega arith, ok_same (kind, suc v, rest) q (sym (not_zero_suc at kind v rest) ∙ e))

  read_byte_way : (at h j : ℕ) (bs : List ℕ) (kind v : ℕ) (rest : List ℕ) → Bytes bs → Shaped h j Byte → read_byte all at j bs ≡ Ok (kind, v, rest) → Way (h ∷ bs) kind v rest
  read_byte_way at h j [] kind v rest b s e = cc
  read_byte_way at h j (x ∷ bs) kind v rest b s e =
      let i = not_zero_inv at j x bs (kind, v, rest) e in
      let ek : j ≡ kind = ap (λ p. p.0) i.1 in
      let ev : x ≡ v = ap (λ p. p.1) i.1 in
      let er : bs ≡ rest = ap (λ p. p.2) i.1 in
      let head = s.head_is in
      let eh : h ≡ 0x10 + kind = omega arith in
      inr (inl (
        cc,
        (λ z. i.0 (ev ∙ z)),
        subst (λ n. n < 256) ev b.0,
        subst (λ n. n ≤ 12) ek s.known,
        subst (λ n. (rule n).field ≡ Byte) ek (own_field Byte s (λ z. cc)),
      ))

  read_number_way : (at : ℕ) (bs : List ℕ) (kind v : ℕ) (rest : List ℕ) → Bytes bs → read_number all at 1 bs ≡ Ok (kind, v, rest) → Way (0x21 ∷ bs) kind v rest
  read_number_way at [] kind v rest b e = cc
  read_number_way at (x ∷ []) kind v rest b e = cc
  read_number_way at (x ∷ y ∷ []) kind v rest b e = cc
  read_number_way at (x ∷ y ∷ w ∷ []) kind v rest b e = cc
  read_number_way at (x ∷ y ∷ w ∷ u ∷ bs) kind v rest b e =
      let n = x * 0x1000000 + y * 0x10000 + w * 0x100 + u in
      let i = not_zero_inv at 1 n bs (kind, v, rest) e in
      let ek : 1 ≡ kind = ap (λ p. p.0) i.1 in
      let ev : n ≡ v = ap (λ p. p.1) i.1 in
      let er : bs ≡ rest = ap (λ p. p.2) i.1 in
      inr (inr (x, y, w, u, ap (λ r. 0x21 ∷ x ∷ y ∷ w ∷ u ∷ r) er, sym ek, (λ z. i.0 (ev ∙ z)), sym ev, b.0, b.1.0, b.1.1.0, b.1.1.1.0))

  head_way : (at h : ℕ) (bs : List ℕ) (kind v : ℕ) (rest : List ℕ) → Bytes bs → by_shape all at (shape_of h) bs ≡ Ok (kind, v, rest) → Way (h ∷ bs) kind v rest
  head_way at h bs kind v rest b e = go (shape_of h) refl e
    where
      go : (s : Option (ℕ × Field)) → shape_of h ≡ s → by_shape all at s bs ≡ Ok (kind, v, rest) → Way (h ∷ bs) kind v rest
      go None q e = cc
      go (Some (j, Absent)) q e =
          let s = shaped h j Absent q in
          let i = ok_same (j, 0, bs) (kind, v, rest) e in
          let ek : j ≡ kind = ap (λ p. p.0) i in
          let er : bs ≡ rest = ap (λ p. p.2) i in
          let head = s.head_is in
          let eh : h ≡ kind = omega arith in
          inl (ap₂ (λ x y. x ∷ y) eh er, subst (λ x. x ≤ 12) ek s.known, sym (ap (λ p. p.1) i))
      go (Some (j, Byte)) q e = read_byte_way at h j bs kind v rest b (shaped h j Byte q) e
      go (Some (j, Word)) q e =
          let s = shaped h j Word q in
          let one = word_kind j s.known (own_field Word s (λ z. cc)) in
          let head = s.head_is in
          let eh : 0x21 ≡ h = omega arith in
          subst (λ x. Way (x ∷ bs) kind v rest) eh (read_number_way at bs kind v rest b (subst (λ x. read_number all at x bs ≡ Ok (kind, v, rest)) one e))

  byte_good : (kind v : ℕ) (q : Node) → kind ≤ 12 → (rule kind).field ≡ Byte → suc v < 256 → node_of types arities k kind (suc v) ≡ Some q → Good ((0x10 + kind) ∷ suc v ∷ []) q
  byte_good zero v q le own lt e = cc
  byte_good (suc zero) v q le own lt e = cc
  byte_good (suc (suc zero)) v q le own lt e = good (0x12 ∷ suc v ∷ []) (Name (the_level (suc v))) q (refl, lt) e
  byte_good (suc (suc (suc zero))) v q le own lt e = cc
  byte_good (suc (suc (suc (suc zero)))) v q le own lt e = cc
  byte_good (suc (suc (suc (suc (suc zero))))) v q le own lt e = cc
  byte_good (suc (suc (suc (suc (suc (suc zero)))))) v q le own lt e = cc
  byte_good (suc (suc (suc (suc (suc (suc (suc zero))))))) v q le own lt e = good_typed (0x17 ∷ suc v ∷ []) types (suc v) (Left (the_type (suc v))) q (λ l. (refl, l)) e
  byte_good (suc (suc (suc (suc (suc (suc (suc (suc zero)))))))) v q le own lt e = good_typed (0x18 ∷ suc v ∷ []) types (suc v) (Right (the_type (suc v))) q (λ l. (refl, l)) e
  byte_good (suc (suc (suc (suc (suc (suc (suc (suc (suc zero))))))))) v q le own lt e = cc
  byte_good (suc (suc (suc (suc (suc (suc (suc (suc (suc (suc zero)))))))))) v q le own lt e = good_typed (0x1a ∷ suc v ∷ []) (length arities) (suc v) (Call (the_leg (suc v)) (get_or arities (suc v) 0)) q (λ l. (refl, (l, refl))) e
  byte_good (suc (suc (suc (suc (suc (suc (suc (suc (suc (suc (suc zero))))))))))) v q le own lt e = cc
  byte_good (suc (suc (suc (suc (suc (suc (suc (suc (suc (suc (suc (suc zero)))))))))))) v q le own lt e = cc
  byte_good (suc (suc (suc (suc (suc (suc (suc (suc (suc (suc (suc (suc (suc j))))))))))))) v q le own lt e = absurd (omega arith)

  number_good : (v a b c d : ℕ) (q : Node) → suc v ≡ a * 0x1000000 + b * 0x10000 + c * 0x100 + d → a < 256 → b < 256 → c < 256 → d < 256 → node_of types arities k 1 (suc v) ≡ Some q
      → Good (0x21 ∷ a ∷ b ∷ c ∷ d ∷ []) q
  number_good v a b c d q e la lb lc ld f =
      let ea : a ≡ suc v / 0x1000000 = omega arith in
      let eb : b ≡ suc v / 0x10000 % 0x100 = omega arith in
      let ec : c ≡ suc v / 0x100 % 0x100 = omega arith in
      let ed : d ≡ suc v % 0x100 = omega arith in
      let lt : suc v < 2 ^ 32 = omega arith in
      good (0x21 ∷ a ∷ b ∷ c ∷ d ∷ []) (Number (suc v)) q (cc, lt) f

  way_good : (bs : List ℕ) (kind v : ℕ) (rest : List ℕ) (q : Node) → Way bs kind v rest → node_of types arities k kind v ≡ Some q → (bs ≡ node_bytes q ++ rest) × NodeLaid types arities k q
  way_good bs kind v rest q (inl w) e =
      let g = bare_good kind q w.1 (subst (λ x. node_of types arities k kind x ≡ Some q) w.2 e) in
      (w.0 ∙ ap (λ l. l ++ rest) g.0, g.1)
  way_good bs kind zero rest q (inr (inl w)) e = absurd (w.1 refl)
  way_good bs kind (suc v) rest q (inr (inl w)) e =
      let g = byte_good kind v q w.3 w.4 w.2 e in
      (w.0 ∙ ap (λ l. l ++ rest) g.0, g.1)
  way_good bs kind zero rest q (inr (inr w)) e = absurd (w.6 refl)
  way_good bs kind (suc v) rest q (inr (inr w)) e =
      let g = number_good v w.0 w.1 w.2 w.3 q w.7 w.8 w.9 w.10 w.11 (subst (λ x. node_of types arities k x (suc v) ≡ Some q) w.5 e) in
      (w.4 ∙ ap (λ l. l ++ rest) g.0, g.1)

  there_inv : (at : ℕ) (o : Option Node) (r : List ℕ) (q : Node) (rest : List ℕ) → there at o r ≡ Ok (q, rest) → (o ≡ Some q) × (r ≡ rest)
  there_inv at None r q rest e = cc
  there_inv at (Some o) r q rest e = let i = ok_same (o, r) (q, rest) e in (ap (λ p. Some p.0) i, ap (λ p. p.1) i)

  from_inv : (at : ℕ) (f : Head) (q : Node) (rest : List ℕ) → node_from types arities at k f ≡ Ok (q, rest) → (kind v : ℕ) × (f ≡ Ok (kind, v, rest)) × (node_of types arities k kind v ≡ Some q)
  from_inv at (Err x) q rest e = cc
  from_inv at (Ok p) q rest e =
      let i = there_inv (field_place at p.1) (node_of types arities k p.0 p.1) p.2 q rest e in
      (p.0, p.1, ap (λ r. Ok (p.0, p.1, r)) i.1, i.0)

  node_sound : (bs : List ℕ) (q : Node) (rest : List ℕ) → Bytes bs → read_node all types arities k bs ≡ Ok (q, rest) → (bs ≡ node_bytes q ++ rest) × NodeLaid types arities k q
  node_sound [] q rest b e = cc
  node_sound (h ∷ bs) q rest b e =
      let at = all - length (h ∷ bs) in
      let i = from_inv at (by_shape all at (shape_of h) bs) q rest e in
      way_good (h ∷ bs) i.0 i.1 rest q (head_way at h bs i.0 i.1 rest b.1 i.2) i.3

  pub node_exact : Exact (NodeLaid types arities k) node_bytes (read_node all types arities k)
  node_exact = record { sound = node_sound; full = λ o rest l. node_full o l rest }
