-- The examples. Assumes nothing.
use Rattle.std.proofs.Common.{◌≡◌, ℕ, zero, suc, ◌≤◌, Bool, true, false, ◌&&◌, ltb, List, [], ◌∷◌, length, get_or, Ok, refl, inl, arith}
use Rattle.std.proofs.lemmas.Bool.{ltb-true}
use Rattle.scales.specs.Tally.{tally_ops}
use Rattle.scales.specs.declared.scale.Ceiling.TheVariants.{Count}
use Rattle.scales.specs.TallyLaws.{tally_laws, tally_exact}
use Rattle.scales.specs.SpanLaws.{span_laws}
use Rattle.plan.specs.Trees.{Plan}
use Rattle.plan.specs.Written.{WellLaid}
use Rattle.reader.specs.Reading.{read}
use Rattle.reader.specs.Laws.{Bytes}
use Rattle.reader.proofs.Accept.{read_exactly}
use Rattle.typer.specs.Typing.{unit_type, number_type, truth_type}
use Rattle.evaluation.specs.Flight.{v_number, Readings, house, flight, state_at, lookups}
use Rattle.evaluation.specs.Examples.{double, double_taken, counter}
use Rattle.evaluation.proofs.Steps.{apart}
use Rattle.grading.specs.Laws.{Accepted}
use Rattle.grading.specs.Least.{least_grading, filled}
use Rattle.grading.proofs.Whole.{least_allowed}
use Rattle.accounting.specs.Accounting.{Covers, Stocked, Guards}
use Rattle.accounting.specs.Examples.{either_way, only, Once, Examples}
use Rattle.accounting.proofs.Grades.{one_is_once}
use Rattle.accounting.proofs.Never.{least_guards}

-- The three plans are accepted, from these bytes.

abbrev small : List ℕ → Bool
small [] = true
small (b ∷ bs) = ltb b 256 && small bs

small_bytes : (bs : List ℕ) → small bs ≡ true → Bytes bs
small_bytes [] e = tt
small_bytes (b ∷ bs) e = go (small_bytes bs) (ltb b 256) refl e
  where
    go : (small bs ≡ true → Bytes bs) → (x : Bool) → ltb b 256 ≡ x → (x && small bs) ≡ true → Bytes (b ∷ bs)
    go ih true p h = (ltb-true b 256 p, ih h)
    go ih false p h = apart cc

laid : (bs : List ℕ) (p : Plan) → small bs ≡ true → read bs ≡ Ok p → WellLaid p
laid bs p e r = ((read_exactly bs (small_bytes bs e) p).accepted r).0

double_accepted : Accepted double
double_accepted = (
  laid (0x04 ∷ 0x01 ∷ 0x01 ∷ 0x01 ∷ 0x01 ∷ 0x00 ∷ 0x05 ∷ 0x03 ∷ 0x02 ∷ 0x0b ∷ 0x12 ∷ 0x01 ∷ 0x12 ∷ 0x01 ∷ []) double refl refl,
  (refl, (number_type, refl, omega arith, (refl, refl, refl))),
)

taken_accepted : Accepted double_taken
taken_accepted = (
  laid (0x04 ∷ 0x01 ∷ 0x01 ∷ 0x01 ∷ 0x01 ∷ 0x00 ∷ 0x05 ∷ 0x04 ∷ 0x02 ∷ 0x0b ∷ 0x12 ∷ 0x01 ∷ 0x12 ∷ 0x01 ∷ []) double_taken refl refl,
  (refl, (number_type, refl, omega arith, (refl, refl, refl))),
)

either_accepted : Accepted either_way
either_accepted = (
  laid (0x04 ∷ 0x01 ∷ 0x01 ∷ 0x01 ∷ 0x01 ∷ 0x00 ∷ 0x06 ∷ 0x09 ∷ 0x0c ∷ 0x21 ∷ 0x00 ∷ 0x00 ∷ 0x00 ∷ 0x01 ∷ 0x21 ∷ 0x00 ∷ 0x00 ∷ 0x00 ∷ 0x02 ∷ 0x02 ∷ 0x02 ∷ []) either_way refl refl,
  (refl, (truth_type, unit_type, unit_type, (refl, refl, refl), refl, omega arith, refl, refl)),
)

-- n readings of store 0 are what is asked for

none_asked : (m i n : ℕ) → Covers (get_or (filled m []) i (Count 0)) n
none_asked zero i n = omega arith
none_asked (suc m) zero n = omega arith
none_asked (suc m) (suc i) n = none_asked m i n

stocked : (n : ℕ) (r : Readings) → n ≤ length (r 0) → Stocked (only n) r
stocked n r h zero lt = h
stocked n r h (suc i) lt = none_asked 7 i _

-- The let's store is looked up twice.
twice : ¬ Once double
twice (R, al, q) =
    let s = state_at (flight 6 double (counter 5)) in
    let once : lookups 0 s.log ≡ 1 = (one_is_once tally_laws tally_exact).once (house 6) double R al (counter 5) (v_number 7) s refl 0 0 (inl refl) q in
    omega (arith, once)

pub enough : Guards double (only 2)
enough = least_guards span_laws double double_accepted

pub too_few : ¬ Guards double (only 1)
too_few h = h (counter 1) (stocked 1 (counter 1) (omega arith)) 6 (state_at (flight 6 double (counter 1))) refl

pub worked_out : Examples
worked_out = record {
  let_needs = refl;
  let_once = twice;
  take_needs = refl;
  take_one = least_guards span_laws double_taken taken_accepted;
  take_none = λ h. h (counter 0) (stocked 0 (counter 0) (omega arith)) 6 (state_at (flight 6 double_taken (counter 0))) refl;
  take_once = (least_grading tally_ops double_taken, (least_allowed tally_laws).allowed double_taken taken_accepted, refl);
  case_needs = refl;
  case_one = least_guards span_laws either_way either_accepted;
  case_none = λ h. h (counter 0) (stocked 0 (counter 0) (omega arith)) 6 (state_at (flight 6 either_way (counter 0))) refl;
  case_once = (least_grading tally_ops either_way, (least_allowed tally_laws).allowed either_way either_accepted, refl);
}
