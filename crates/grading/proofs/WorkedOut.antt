-- The worked examples. Assumes nothing.
use Rattle.std.proofs.Common.{◌≡◌, ℕ, ◌+◌, min, List, [], ◌∷◌, get_or, sym, refl, ap, ◌∙◌, subst, ap₂, arith}
use Rattle.scales.specs.Laws.{Ops, Laws}
use Rattle.scales.specs.Set.{Holds, set_one, set_plus, ◌∈◌}
use Rattle.scales.specs.declared.set.Set.{Set}
use Rattle.scales.proofs.RowTheorems.{zero_plus}
use Rattle.scales.specs.SetLaws.{set_laws}
use Rattle.scales.proofs.SetMembers.{by_members}
use Rattle.grading.specs.Least.{least}
use Rattle.grading.specs.Examples.{plan_a, AreSets, Examples}

-- In every scale plan A uses the store and x twice.
a_twice : {G : Type 0} {o : Ops G} → Laws o → least o plan_a ≡ o.plus o.one o.one ∷ o.plus o.one o.one ∷ []
a_twice {G} {o} L =
    ap (λ (g : G). g ∷ o.plus o.one o.one ∷ [])
    (ap₂ o.plus (L.times_one (o.plus o.one o.one)) (L.plus_zero o.zero) ∙ zero_plus L (o.plus o.one o.one))

just_two : Holds (set_plus set_one set_one) (2 ∷ [])
just_two = record {
  only = λ x h. let q = (by_members.in_plus set_one set_one x).0 h in (
    0,
    omega arith,
    sym (q.4 ∙ ap₂ (λ (a b : ℕ). min (a + b) 15) ((by_members.in_one q.0).0 q.2) ((by_members.in_one q.1).0 q.3)),
  );
  each = λ k lt. subst (λ (j : ℕ). get_or (2 ∷ []) j 0 ∈ set_plus set_one set_one) (let e : 0 ≡ k = omega arith in e)
      ((by_members.in_plus set_one set_one 2).1 (1, 1, (by_members.in_one 1).1 refl, (by_members.in_one 1).1 refl, refl));
}

pub examples : Examples
examples = record {
  reads_a = refl;
  reads_twice = refl;
  reads_let = refl;
  reads_take = refl;
  reads_join = refl;
  reads_case = refl;
  reads_split = refl;
  tally_a = refl;
  span_a = ((refl, refl), ((refl, refl), tt));
  set_a = subst (λ (gs : List Set). AreSets gs ((2 ∷ []) ∷ (2 ∷ []) ∷ [])) (sym (a_twice set_laws)) (just_two, (just_two, tt));
  span_twice = ((refl, refl), ((refl, refl), tt));
  ceilings_twice = refl;
  tally_let = refl;
  tally_take = refl;
  tally_join = refl;
  span_join = ((refl, refl), ((refl, refl), ((refl, refl), tt)));
  span_case = ((refl, refl), ((refl, refl), ((refl, refl), tt)));
  span_split = ((refl, refl), ((refl, refl), ((refl, refl), tt)));
}
