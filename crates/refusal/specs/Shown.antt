-- The line that tells a refusal: `refused 8 typer 3`. Assumes nothing.
use Rattle.std.specs.Prelude.{ℕ, List, ◌++◌, codes, decimal}
use Rattle.refusal.specs.declared.Layer.{Layer}
use Rattle.refusal.specs.declared.Layer.TheVariants.{Reader, Typer, Bay, Board, Memory}
use Rattle.refusal.specs.declared.Refusal.{Refusal}

abbrev pub layer_name : Layer → List ℕ
layer_name Reader = codes "reader"
layer_name Typer = codes "typer"
layer_name Bay = codes "bay"
layer_name Board = codes "board"
layer_name Memory = codes "memory"

abbrev pub refusal_line : Refusal → List ℕ
refusal_line r = codes "refused " ++ (decimal r.number ++ (codes " " ++ (layer_name r.layer ++ (codes " " ++ decimal r.place))))
