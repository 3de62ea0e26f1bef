-- From the two layers' laws to the whole. Assumes nothing.
use Rattle.std.proofs.Common.{◌≡◌, ℕ, List, Ok, Err, Result, refl, ap, ◌∙◌, subst, arith}
use Rattle.plan.specs.declared.faults.ReadFault.{ReadFault}
use Rattle.plan.specs.Trees.{Plan}
use Rattle.reader.specs.Reading.{read}
use Rattle.reader.specs.Laws.{ReadExactly}
use Rattle.typer.specs.Typing.{Reached, check_plan}
use Rattle.typer.specs.Accepted.{with_types, then_types, AcceptedExactly}
use Rattle.typer.proofs.Types.{law}

read_ok : (r : Result Plan ReadFault) (p : Plan) → then_types r ≡ Ok p → (r ≡ Ok p) × (check_plan p ≡ Ok tt)
read_ok (Err e) p q = grind arith
read_ok (Ok p') p q = go (check_plan p') refl q
  where
    go : (t : Reached (Unit {0})) → check_plan p' ≡ t → with_types p' t ≡ Ok p → (◌≡◌ {A = Result Plan ReadFault} (Ok p') (Ok p)) × (check_plan p ≡ Ok tt)
    go (Ok u) e q = let same : p' ≡ p = cc in (ap Ok same, subst (λ x. check_plan x ≡ Ok tt) same e)
    go (Err f) e q = grind arith

pub accepted_exactly : (bs : List ℕ) (p : Plan) → ReadExactly bs p → AcceptedExactly bs p
accepted_exactly bs p r = record {
  accepted = λ q. (let b = read_ok (read bs) p q in let a = r.accepted b.0 in (a.0, law.accepted p b.1, a.1));
  spelled = λ w t e. ap then_types (r.spelled w e) ∙ ap (with_types p) (law.typed p t);
}
