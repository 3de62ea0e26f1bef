-- A stack of contexts in a lent slice. Assumes nothing.
use Rattle.std.specs.Prelude.{ℕ, ◌+◌, List, length}

-- The grades on the stack, the topmost context last, and those in the places above.
pub record Stack (G : Type 0) : Type 0 where
  pub held : List G
  pub free : List G

-- how many grades there is room for
abbrev pub room : {G : Type 0} → Stack G → ℕ
room s = length s.held + length s.free
