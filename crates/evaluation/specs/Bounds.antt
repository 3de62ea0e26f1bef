-- The bounds of a flight: evaluations begun, depth, entries in the log; and the greatest number. Assumes nothing.
use Rattle.std.specs.Prelude.{ℕ}

abbrev pub max_begun : ℕ
max_begun = 2048

abbrev pub max_depth : ℕ
max_depth = 128

abbrev pub max_entries : ℕ
max_entries = 4096

abbrev pub max_number : ℕ
max_number = 4294967295
