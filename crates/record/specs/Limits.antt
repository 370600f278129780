-- The ranges of a record: the only place where specifications and proofs have them as numbers.
use Rattle.std.specs.Prelude.{ℕ}

abbrev pub max_label : ℕ
max_label = 200

-- in millimetres
abbrev pub max_stamp : ℕ
max_stamp = 4000000

abbrev pub max_depth : ℕ
max_depth = 32
