-- The number, the layer and the place of each fault of a plan. Assumes nothing.
use Rattle.std.specs.Prelude.{ℕ}
use Rattle.refusal.specs.declared.Layer.TheVariants.{Reader, Typer, Memory as OfMemory}
use Rattle.refusal.specs.declared.Refusal.{Refusal}
use Rattle.plan.specs.declared.faults.ReadFault.{ReadFault}
use Rattle.plan.specs.declared.faults.ReadFault.TheVariants.{Cut, Bits, Limit, «Ref», Shape, Tail}
use Rattle.plan.specs.declared.faults.TypeFault.{TypeFault}
use Rattle.plan.specs.declared.faults.TypeFault.TheVariants.{Name, «Type», Scope}
use Rattle.plan.specs.declared.faults.PlanFault.{PlanFault}
use Rattle.plan.specs.declared.faults.PlanFault.TheVariants.{Read, Typing, Memory}

abbrev pub from_reader : ℕ → ℕ → Refusal
from_reader n place = record { number = n; layer = Reader; place = place }

abbrev pub from_typer : ℕ → ℕ → Refusal
from_typer n place = record { number = n; layer = Typer; place = place }

abbrev pub refused_by_reader : ReadFault → Refusal
refused_by_reader (Cut at) = from_reader 1 at
refused_by_reader (Bits at) = from_reader 2 at
refused_by_reader (Limit at) = from_reader 3 at
refused_by_reader («Ref» at) = from_reader 4 at
refused_by_reader (Shape at) = from_reader 5 at
refused_by_reader (Tail at) = from_reader 6 at

abbrev pub refused_by_typer : TypeFault → Refusal
refused_by_typer (Name node) = from_typer 7 node
refused_by_typer («Type» node) = from_typer 8 node
refused_by_typer (Scope node) = from_typer 9 node

abbrev pub refused : PlanFault → Refusal
refused (Read fault) = refused_by_reader fault
refused (Typing fault) = refused_by_typer fault
refused Memory = record { number = 0; layer = OfMemory; place = 0 }
