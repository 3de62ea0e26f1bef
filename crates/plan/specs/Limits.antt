-- The limits of a plan: its bytes, the entries of its type table, its legs, a leg's parameters, the nodes of all legs, the levels in scope. Assumes nothing.
use Rattle.std.specs.Prelude.{ℕ}

abbrev pub max_bytes : ℕ
max_bytes = 4096

abbrev pub max_entries : ℕ
max_entries = 29

abbrev pub max_legs : ℕ
max_legs = 16

abbrev pub max_params : ℕ
max_params = 8

abbrev pub max_nodes : ℕ
max_nodes = 256

abbrev pub max_levels : ℕ
max_levels = 16
