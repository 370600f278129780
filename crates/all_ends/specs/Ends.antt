-- The ends of a pattern by the rules, as a list in the order in which they are reached.
use Rattle.std.specs.Prelude.{ℕ, zero, suc, ◌+◌, ◌*◌, Bool, true, false, cond, ◌&&◌, List, [], ◌∷◌, map, length, Some, None, Option, ◌==◌, nat_le}
use Rattle.std.specs.List.{range_with_len, flat_map as each}
use Rattle.std.specs.Option.{option_map}
use Rattle.record.specs.Moves.{table}
use Rattle.record.specs.declared.axis.Reach.TheVariants.{DescendantOrSelf, AncestorOrSelf, Following, Preceding}
use Rattle.record.specs.declared.axis.Axis.{Axis}
use Rattle.record.specs.declared.axis.Axis.TheVariants.{Along, Against, Itself, Wide}
use Rattle.record.specs.declared.rules.Move.{Move}
use Rattle.record.specs.declared.rules.Move.TheVariants.{Up, Join, Between}
use Rattle.pattern.specs.Rows.{Seat, seats, row, inner, deep, room, second, rehung, spread, merged_row}
use Rattle.pattern.specs.Sizes.{how_many, path_rows}
use Rattle.pattern.specs.Tests.{joined}
use Rattle.pattern.specs.declared.base.Pattern.{Pattern}
use Rattle.pattern.specs.declared.row.Test.{Test}
use Rattle.rewrite.specs.Turns.{turn_of}
use Rattle.rewrite.specs.declared.turns.Turn.{Turn}
use Rattle.rewrite.specs.declared.turns.Turn.TheVariants.{Kept, Dropped, Merge, Split, Open, Shift}

-- the sixteen rows of a pattern, and its output
pub record Shape : Type 0 where
  pub rows : List Seat
  pub output : ℕ

abbrev pub shape_of : Pattern → Shape
shape_of P = record { rows = seats P.rows; output = P.output }

abbrev pub shaped : List Seat → ℕ → Shape
shaped rs o = record { rows = rs; output = o }

-- z has gone into w, which then has the test t
unfoldable pub merged_shape : Shape → ℕ → ℕ → Test → Shape
merged_shape s z w t = shaped (map (merged_row s.rows z w t) (range_with_len 0 16)) (cond (s.output == z) w s.output)

-- z goes into w, if some place passes both tests
unfoldable pub merge_into : Shape → ℕ → ℕ → Option Shape
merge_into s z w = option_map (merged_shape s z w) (joined (row s.rows w).test (row s.rows z).test)

-- z goes into its up-row
unfoldable pub merge_at : Shape → ℕ → Option Shape
merge_at s z = cond (inner s.rows z) (merge_into s z (row s.rows z).up) None

-- z goes by the axis x
unfoldable pub axis_at : Shape → ℕ → Axis → Option Shape
axis_at s z x = cond (inner s.rows z) (Some (shaped (rehung s.rows z (row s.rows z).up x) s.output)) None

-- the highest number in use, of those up to k
unfoldable pub highest : List Seat → ℕ → ℕ
highest rs zero = 0
highest rs (suc k) = cond (row rs (suc k)).used (suc k) (highest rs k)

-- the next number after all in use
unfoldable pub next_number : List Seat → ℕ
next_number rs = highest rs 15 + 1

-- z is reached over two new rows with the next two numbers, aside by the axis x
unfoldable pub open_at : Shape → ℕ → Axis → Option Shape
open_at s z x =
    let n : ℕ = next_number s.rows in
    cond (room s.rows z n) (Some (shaped (spread s.rows z n (n + 1) x) s.output)) None

-- z is moved
unfoldable pub by_move : Shape → ℕ → Move → Option Shape
by_move s z Up = Some (shaped (rehung s.rows z (second s.rows z) (row s.rows z).axis) s.output)
by_move s z (Between a b) = Some (shaped (rehung (rehung s.rows z (second s.rows z) (Along a)) (row s.rows z).up z (Along b)) s.output)
by_move s z (Join a) = merge_into (shaped (rehung s.rows (row s.rows z).up (second s.rows z) (Along a)) s.output) z (second s.rows z)

unfoldable pub move_at : Shape → ℕ → Move → Option Shape
move_at s z m = cond (deep s.rows z) (by_move s z m) None

-- what a turn puts in the place of a pattern, in order; none where two tests have no place in common, or there is no such row or no room
unfoldable pub alternatives : Shape → Turn → List (Option Shape)
alternatives s Kept = []
alternatives s Dropped = []
alternatives s (Merge z) = merge_at s z ∷ []
alternatives s (Split z x) = axis_at s z x ∷ merge_at s z ∷ []
alternatives s (Open z x) = open_at s z x ∷ []
alternatives s (Shift z y t) = map (move_at s z) (table y t)

-- an alternative that is not there is a dropped end
abbrev pub ends_from : (Shape → List (Option Shape)) → Option Shape → List (Option Shape)
ends_from again None = None ∷ []
ends_from again (Some s) = again s

-- a turn is an end, or leads to those of its alternatives, each finished before the next
unfoldable pub by_turn : (Shape → List (Option Shape)) → Shape → Turn → List (Option Shape)
by_turn again s Kept = Some s ∷ []
by_turn again s Dropped = None ∷ []
by_turn again s (Merge z) = each (ends_from again) (alternatives s (Merge z))
by_turn again s (Split z x) = each (ends_from again) (alternatives s (Split z x))
by_turn again s (Open z x) = each (ends_from again) (alternatives s (Open z x))
by_turn again s (Shift z y t) = each (ends_from again) (alternatives s (Shift z y t))

-- the ends that no more than that many turns one after another lead to
unfoldable pub ends_within : ℕ → Shape → List (Option Shape)
ends_within zero s = None ∷ []
ends_within (suc turns) s = by_turn (ends_within turns) s (turn_of s.rows)

-- the ends: none for a dropped one. A million turns are more than any pattern takes, so that these are those of a turn's alternatives
-- (the law `ends_follow_the_rules`)
unfoldable pub ends_of : Shape → List (Option Shape)
ends_of s = ends_within 1000000 s

-- the kept ones
unfoldable pub kept_of : List (Option Shape) → List Shape
kept_of [] = []
kept_of (None ∷ es) = kept_of es
kept_of (Some s ∷ es) = s ∷ kept_of es

-- the ends of a question: those of its patterns, one after another
unfoldable pub question_ends : List Pattern → List (Option Shape)
question_ends sources = each (λ P. ends_of (shape_of P)) sources

-- an axis for which expansion puts in two new rows
abbrev pub widens : Axis → Bool
widens (Along s) = false
widens (Against s) = false
widens Itself = false
widens (Wide DescendantOrSelf) = false
widens (Wide AncestorOrSelf) = false
widens (Wide Following) = true
widens (Wide Preceding) = true

-- a row in use that expansion reaches over two new rows
abbrev pub to_open : Seat → Bool
to_open r = r.used && widens r.axis

-- the rows of a path for it when it is expanded
abbrev pub expanded_rows : Shape → ℕ
expanded_rows s = path_rows s.rows s.output + 2 * how_many to_open s.rows

-- there are sixteen rows; the two new rows of every row by following or preceding still have numbers; and a path has at most 15 rows then
unfoldable pub fits : Shape → Bool
fits s = (length s.rows == 16) && (nat_le (next_number s.rows + 2 * how_many to_open s.rows) 16 && nat_le (expanded_rows s) 15)
