-- The plan that bytes hold, or the first fault and its place. Assumes nothing.
use Rattle.std.specs.Prelude.{ℕ, zero, suc, ◌+◌, ◌-◌, ◌*◌, Bool, cond, ◌&&◌, ◌||◌, ltb, List, [], ◌∷◌, length, Some, None, Ok, Err, Option as Maybe, Result, ◌==◌, nat_le, nat_lt, slice_index, slice_index_or}
use Rattle.std.proofs.Math.Option.{some, none}
use Rattle.plan.specs.declared.faults.ReadFault.{ReadFault}
use Rattle.plan.specs.declared.faults.ReadFault.TheVariants.{Cut, Bits, Limit, «Ref», Shape as NotOne, Tail}
use Rattle.plan.specs.declared.Type.{«Type» as Shape}
use Rattle.plan.specs.declared.Type.TheVariants.{Pair as PairType, Either as EitherType}
use Rattle.plan.specs.declared.Node.{Node}
use Rattle.plan.specs.declared.Node.TheVariants.{Unit as Unit', Number, Name, Let, Take, Pair, Split, Left, Right, Case, Call, Add, Less}
use Rattle.plan.specs.declared.TypeId.{TypeId}
use Rattle.plan.specs.declared.kinds.Field.{Field}
use Rattle.plan.specs.declared.kinds.Field.TheVariants.{Absent, Byte, Number as Word}
use Rattle.plan.specs.Kinds.{shape_of}
use Rattle.plan.specs.Limits.{max_bytes, max_entries, max_legs, max_params, max_nodes}
use Rattle.plan.specs.Trees.{Term, Leg, Plan, stack, Stack, the_type, the_leg, the_level, the_binder}
use Rattle.plan.specs.Written.{built_in, listed, same_state, with_entry, with_node, with_leg, Before, none_before}

-- What is read off the front, and the bytes after it.
abbrev pub Got : Type 0 → Type 0
Got X = Result (X × List ℕ) ReadFault

abbrev pub then_read : {X Y : Type 0} → Got X → (X → List ℕ → Got Y) → Got Y
then_read (Ok p) f = f p.0 p.1
then_read (Err e) f = Err e

-- So many things, each read in the state that those before it leave.
abbrev pub many : {X S : Type 0} → (S → X → S) → (S → List ℕ → Got X) → ℕ → S → List ℕ → Got (List X)
many next read_one zero s bs = Ok ([], bs)
many next read_one (suc n) s bs =
    then_read (read_one s bs) (λ x rest. then_read (many next read_one n (next s x) rest) (λ xs rest'. Ok (x ∷ xs, rest')))

-- In what follows `all` is the length of the input, so that the place of a part is `all` less its length.
abbrev pub byte_if : (ℕ → Bool) → (ℕ → ReadFault) → ℕ → List ℕ → Got ℕ
byte_if ok fault all [] = Err (Cut all)
byte_if ok fault all (b ∷ bs) = cond (ok b) (Ok (b, bs)) (Err (fault (all - length (b ∷ bs))))

abbrev pub read_type : ℕ → ℕ → List ℕ → Got TypeId
read_type all types bs = then_read (byte_if (λ t. ltb t types) «Ref» all bs) (λ t rest. Ok (the_type t, rest))

abbrev pub entry_of : ℕ → TypeId → TypeId → Shape
entry_of tag a b = cond (tag == 1) (PairType a b) (EitherType a b)

abbrev pub new_entry : ℕ → List Shape → Shape → List ℕ → Got Shape
new_entry at ts e rest = cond (listed e ts) (Err («Ref» at)) (Ok (e, rest))

abbrev pub read_entry : ℕ → List Shape → List ℕ → Got Shape
read_entry all ts bs =
    then_read (byte_if (λ t. (t == 1) || t == 2) «Ref» all bs) (λ tag r.
    then_read (read_type all (length ts) r) (λ a r'.
    then_read (read_type all (length ts) r') (λ b r''. new_entry (all - length bs) ts (entry_of tag a b) r'')))

-- The first byte of a node, and its field: the kind and the value, zero if none is written.
abbrev pub Head : Type 0
Head = Result (ℕ × ℕ × List ℕ) ReadFault

abbrev pub not_zero : ℕ → ℕ → ℕ → List ℕ → Head
not_zero at k v rest = cond (v == 0) (Err (Bits at)) (Ok (k, v, rest))

abbrev pub read_byte : ℕ → ℕ → ℕ → List ℕ → Head
read_byte all at k [] = Err (Cut all)
read_byte all at k (x ∷ rest) = not_zero at k x rest

abbrev pub read_number : ℕ → ℕ → ℕ → List ℕ → Head
read_number all at k [] = Err (Cut all)
read_number all at k (a ∷ []) = Err (Cut all)
read_number all at k (a ∷ b ∷ []) = Err (Cut all)
read_number all at k (a ∷ b ∷ c ∷ []) = Err (Cut all)
read_number all at k (a ∷ b ∷ c ∷ d ∷ rest) = not_zero at k (a * 0x1000000 + b * 0x10000 + c * 0x100 + d) rest

abbrev pub by_shape : ℕ → ℕ → Maybe (ℕ × Field) → List ℕ → Head
by_shape all at None rest = Err (Bits at)
by_shape all at (Some (k, Absent)) rest = Ok (k, 0, rest)
by_shape all at (Some (k, Byte)) rest = read_byte all at k rest
by_shape all at (Some (k, Word)) rest = read_number all at k rest

abbrev pub read_head : ℕ → List ℕ → Head
read_head all [] = Err (Cut all)
read_head all (h ∷ rest) = by_shape all (all - length (h ∷ rest)) (shape_of h) rest

-- The node of a kind and a value; None if it names a type or a leg that is not there.
abbrev pub typed_node : ℕ → ℕ → Node → Maybe Node
typed_node types y o = cond (nat_lt y types) (Some o) None

abbrev pub candidates : ℕ → List ℕ → ℕ → ℕ → List (Maybe Node)
candidates types arities k v =
    Some Unit' ∷ Some (Number v) ∷ Some (Name (the_level v)) ∷ Some (Let (the_binder k)) ∷ Some (Take (the_binder k)) ∷ Some Pair ∷ Some (Split (the_binder k))
    ∷ typed_node types v (Left (the_type v)) ∷ typed_node types v (Right (the_type v)) ∷ Some (Case (the_binder k)) ∷ typed_node (length arities) v (Call (the_leg v) (slice_index arities v))
    ∷ Some Add ∷ Some Less ∷ []

abbrev pub node_of : ℕ → List ℕ → ℕ → ℕ → ℕ → Maybe Node
node_of types arities k kind v = slice_index_or (candidates types arities k v) kind None

-- the place of the field's byte, or of the node where there is None
abbrev pub field_place : ℕ → ℕ → ℕ
field_place at v = cond (v == 0) at (at + 1)

abbrev pub there : ℕ → Maybe Node → List ℕ → Got Node
there at None rest = Err («Ref» at)
there at (Some o) rest = Ok (o, rest)

abbrev pub node_from : ℕ → List ℕ → ℕ → ℕ → Head → Got Node
node_from types arities at k (Err e) = Err e
node_from types arities at k (Ok (kind, v, rest)) = there (field_place at v) (node_of types arities k kind v) rest

abbrev pub read_node : ℕ → ℕ → List ℕ → ℕ → List ℕ → Got Node
read_node all types arities k bs = node_from types arities (all - length bs) k (read_head all bs)

-- A count of nodes in two bytes.
abbrev pub read_count : ℕ → ℕ → List ℕ → Got ℕ
read_count all used [] = Err (Cut all)
read_count all used (h ∷ []) = Err (Cut all)
read_count all used (h ∷ l ∷ bs) =
    cond (nat_le 1 (h * 0x100 + l) && nat_le (used + (h * 0x100 + l)) max_nodes) (Ok (h * 0x100 + l, bs)) (Err (Limit (all - length (h ∷ l ∷ bs))))

-- The nodes are one expression.
abbrev pub single : ℕ → Stack → List ℕ → Got Term
single at none rest = Err (NotOne at)
single at (some []) rest = Err (NotOne at)
single at (some (t ∷ [])) rest = Ok (t, rest)
single at (some (t ∷ u ∷ ts)) rest = Err (NotOne at)

abbrev pub read_body : ℕ → ℕ → Before → ℕ → List ℕ → Got Term
read_body all types s k bs =
    then_read (read_count all s.used bs) (λ n r.
    then_read (many with_node (read_node all types s.arities) n k r) (λ os r'. single (all - length bs) (stack os) r'))

abbrev pub between : ℕ → ℕ → ℕ → Bool
between low high c = nat_le low c && nat_le c high

abbrev pub read_params : ℕ → ℕ → List ℕ → Got (List TypeId)
read_params all types bs =
    then_read (byte_if (between 0 max_params) Limit all bs) (λ n r. many same_state (read_type all) n types r)

abbrev pub read_leg : ℕ → ℕ → Before → List ℕ → Got Leg
read_leg all types s bs =
    then_read (read_params all types bs) (λ ps r.
    then_read (read_type all types r) (λ y r'.
    then_read (read_body all types s (s.next + length ps) r') (λ t r''. Ok (record { params = ps; result = y; first = s.next; body = t }, r''))))

abbrev pub read_table : ℕ → List ℕ → Got (List Shape)
read_table all bs = then_read (byte_if (between 1 max_entries) Limit all bs) (λ n r. many with_entry (read_entry all) n built_in r)

abbrev pub read_map : ℕ → ℕ → List ℕ → Got (List Shape)
read_map all m rest = cond (m == 4) (Ok ([], rest)) (read_table all rest)

abbrev pub read_legs : ℕ → ℕ → List ℕ → Got (List Leg)
read_legs all types bs = then_read (byte_if (between 1 max_legs) Limit all bs) (λ n r. many with_leg (read_leg all types) n none_before r)

abbrev pub read_front : ℕ → List ℕ → Got (List Shape)
read_front all bs = then_read (byte_if (λ m. (m == 4) || m == 6) Bits all bs) (λ m r. read_map all m r)

abbrev pub read_plan : ℕ → List ℕ → Got Plan
read_plan all bs =
    then_read (read_front all bs) (λ es r.
    then_read (read_legs all (3 + length es) r) (λ gs r'. Ok (record { entries = es; legs = gs }, r')))

abbrev pub to_the_end : ℕ → Got Plan → Result Plan ReadFault
to_the_end all (Err e) = Err e
to_the_end all (Ok (p, [])) = Ok p
to_the_end all (Ok (p, b ∷ bs)) = Err (Tail (all - length (b ∷ bs)))

abbrev pub read : List ℕ → Result Plan ReadFault
read bs = cond (nat_le (length bs) max_bytes) (to_the_end (length bs) (read_plan (length bs) bs)) (Err (Limit max_bytes))
