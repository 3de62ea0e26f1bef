-- From the tables to the plan. Assumes nothing.
use Rattle.std.proofs.Common.{◌≡◌, ℕ, suc, ◌<◌, List, [], ◌∷◌, ◌++◌, get_or, drop, Ok, vec_items, w8, Fits, arith}
use Rattle.plan.specs.declared.Plan.{Plan as FlatPlan}
use Rattle.reader.specs.Laws.{Bytes, ReadExactly}
use Rattle.plan.specs.Trees.{Plan}
use Rattle.plan.specs.Written.{built_in}
use Rattle.plan.specs.Table.{Standing, InOrder}
use Rattle.reader.specs.Reading.{read}
use Rattle.plan.specs.Plans.{tree}
use Rattle.reader.specs.Replies.{ReadAnswer}
use Rattle.reader.proofs.Accept.{read_exactly}
use Rattle.plan.proofs.Kids.{spells}

bytes_are : (bs : List ℕ) → ((i : ℕ) → get_or bs i 0 < 256) → Bytes bs
bytes_are [] f = tt
bytes_are (b ∷ bs) f = (f 0, bytes_are bs (λ i. f (suc i)))

module _ (bs : List ℕ) (fits : (i : ℕ) → Fits w8 (get_or bs i 0)) where
  are_bytes : Bytes bs
  are_bytes = bytes_are bs (λ i. omega (arith, fits i))

  pub exactly : (p : Plan) → ReadExactly bs p
  exactly p = read_exactly bs are_bytes p

  pub reads : (p : FlatPlan) → read bs ≡ Ok (tree p) → Standing 0 (vec_items p.nodes) → InOrder 0 (vec_items p.nodes) (vec_items p.legs) → vec_items p.types ≡ built_in ++ drop 3 (vec_items p.types) → ReadAnswer bs (Ok p)
  reads p e s o t = (e, record { laid = ((exactly (tree p)).accepted e).0; built = t; spells = spells (vec_items p.nodes) s; in_order = o })
