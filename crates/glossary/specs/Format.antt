-- The block of a list of names: what writes a block and what reads one are both held to this.
use Rattle.std.specs.Prelude.{◌≡◌, ℕ, ◌<◌, ◌≤◌, true, List, [], ◌∷◌, ◌++◌, length, ◌≢◌, slice_index_or}
use Rattle.std.specs.List.{flat_map}
use Rattle.glossary.specs.Limits.{max_block, max_names}
use Rattle.glossary.specs.Names.{good_name}

-- the head of a block that holds n names
abbrev pub head_of : ℕ → List ℕ
head_of n = n ∷ []

-- a name in a block: a byte with its length, then its bytes
abbrev pub entry_of : List ℕ → List ℕ
entry_of name = length name ∷ name

-- the count, then each name in order, and nothing more
abbrev pub written : List (List ℕ) → List ℕ
written names = head_of (length names) ++ flat_map entry_of names

-- names that may stand in a block: not none and not too many, each well formed, none twice
pub record GoodNames (names : List (List ℕ)) : Type 0 where
  pub some : 1 ≤ length names
  pub few : length names ≤ max_names
  pub good : (k : ℕ) → k < length names → good_name (slice_index_or names k []) ≡ true
  pub once : (j k : ℕ) → j < k → k < length names → slice_index_or names j [] ≢ slice_index_or names k []

-- the bytes are the block of the names
pub record BlockOf (names : List (List ℕ)) (block : List ℕ) : Type 0 where
  pub names_are_good : GoodNames names
  pub bytes : block ≡ written names
  pub short : length block ≤ max_block
