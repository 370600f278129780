-- The sizes of a block: the only place where specifications and proofs have them as numbers.
use Rattle.std.specs.Prelude.{ℕ}

-- the bytes of a whole block, at most
abbrev pub max_block : ℕ
max_block = 4096

-- the bytes before the first name, which hold the count of names
abbrev pub head_size : ℕ
head_size = 1

-- the names of a block, at most
abbrev pub max_names : ℕ
max_names = 200

-- the bytes of one name, at most
abbrev pub max_name : ℕ
max_name = 16
