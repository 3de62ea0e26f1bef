use Rattle.grader.proofs.stores.store_places.Goals as goal

pub returns : goal.returns
returns g c = let e = c.in_ok-graded.ensures in (e.0, e.1, e.2.1, e.3)
