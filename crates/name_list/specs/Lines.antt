-- The lines of a text.
use Rattle.std.specs.Prelude.{◌≡◌, ℕ, ◌-◌, ◌<◌, ◌⊎◌, List, [], ◌∷◌, ◌++◌, length, ◌≢◌, slice_index, slice_index_or}
use Rattle.std.specs.List.{flat_map, AllByRecursion}

-- a line with the byte that ends it
abbrev pub ended : List ℕ → List ℕ
ended line = line ++ (10 ∷ [])

-- a line holds no end of a line
abbrev pub Plain : List ℕ → Type 0
Plain line = (i : ℕ) → i < length line → slice_index line i ≢ 10

-- the lines, each ended, make up the text; a last line that is not empty may lack its end
pub record LinesOf (lines : List (List ℕ)) (text : List ℕ) : Type 0 where
  pub whole : (flat_map ended lines ≡ text) ⊎ ((0 < length (slice_index_or lines (length lines - 1) [])) × (flat_map ended lines ≡ ended text))
  pub plain : AllByRecursion Plain lines
