-- How many rows there are.
use Rattle.std.specs.Prelude.{ℕ, ◌+◌, Bool, cond, ◌&&◌, List, map, ◌==◌, nat_lt}
use Rattle.record.specs.Moves.{bit, count}
use Rattle.pattern.specs.Rows.{Seat, row, fifteen}

-- how many rows below row 0 are such
unfoldable pub how_many : (Seat → Bool) → List Seat → ℕ
how_many f rs = count (map (λ i. f (row rs i)) fifteen)

-- the rows in use
abbrev pub in_use : List Seat → ℕ
in_use rs = how_many (λ r. r.used) rs

-- those right under row 0
abbrev pub at_top : List Seat → ℕ
at_top rs = how_many (λ r. r.used && r.up == 0) rs

-- one if row 0 has a row under it that is not on the way to the output o: the way takes one of them, or none where o is row 0 itself
abbrev pub forks : List Seat → ℕ → ℕ
forks rs o = bit (nat_lt (cond (o == 0) 0 1) (at_top rs))

-- the rows of a path that is written for these rows: what hangs at row 0 beside the way to the output stands in brackets, which want
-- one more row to stand behind
abbrev pub path_rows : List Seat → ℕ → ℕ
path_rows rs o = in_use rs + forks rs o
