-- Rows in an array of sixteen, each of which is in use or not.
use Rattle.std.specs.Prelude.{◌≡◌, ℕ, zero, suc, ◌+◌, Bool, true, false, cond, not, ◌&&◌, ◌||◌, List, [], ◌∷◌, map, Some, None, Option, ◌==◌, nat_lt, slice_index_or, slice_set}
use Rattle.record.specs.declared.axis.Step.TheVariants.{Child}
use Rattle.record.specs.declared.axis.Reach.TheVariants.{DescendantOrSelf, AncestorOrSelf}
use Rattle.record.specs.declared.axis.Axis.TheVariants.{Along, Against, Itself, Wide}
use Rattle.record.specs.declared.axis.Axis.{Axis}
use Rattle.record.specs.declared.rules.Move.{Move}
use Rattle.record.specs.declared.rules.Move.TheVariants.{Up, Join, Between}
use Rattle.ways.specs.Ways.{all_rows}
use Rattle.pattern.specs.declared.row.Row.{Row}
use Rattle.pattern.specs.declared.row.Test.{Test}
use Rattle.pattern.specs.declared.row.Test.TheVariants.{Any, Star}
use Rattle.pattern.specs.Tests.{joined}

-- what is known of a row by its number: whether it is in use, and if so under which row it hangs, by which axis and with which test
pub record Seat : Type 0 where
  pub used : Bool
  pub up : ℕ
  pub axis : Axis
  pub test : Test

-- a row that is not in use, as past the end
abbrev pub top : Seat
top = record { used = false; up = 0; axis = Along Child; test = Any }

abbrev pub seat : Option Row → Seat
seat None = top
seat (Some r) = record { used = true; up = r.up; axis = r.axis; test = r.test }

abbrev pub seats : List (Option Row) → List Seat
seats = map seat

abbrev pub row : List Seat → ℕ → Seat
row rs i = slice_index_or rs i top

-- the rows but the root
abbrev pub fifteen : List ℕ
fifteen = 1 ∷ 2 ∷ 3 ∷ 4 ∷ 5 ∷ 6 ∷ 7 ∷ 8 ∷ 9 ∷ 10 ∷ 11 ∷ 12 ∷ 13 ∷ 14 ∷ 15 ∷ []

-- row 0 is there
abbrev pub has_root : List Seat → Bool
has_root rs = (row rs 0).used

-- no more than k steps up, by rows in use, lead from r to row 0
unfoldable pub climbs : (ℕ → Bool) → (ℕ → ℕ) → ℕ → ℕ → Bool
climbs used up zero r = r == 0
climbs used up (suc k) r = r == 0 || (used r && climbs used up k (up r))

-- a row that is not in use, or one from which the up-rows lead to row 0
unfoldable pub well_hung : (ℕ → Bool) → (ℕ → ℕ) → ℕ → Bool
well_hung used up r = not (used r) || climbs used up 16 r

-- from every row in use the up-rows lead to row 0
unfoldable pub rooted : List Seat → Bool
rooted rs = all_rows fifteen (well_hung (λ i. (row rs i).used) (λ i. (row rs i).up))

-- a row under z is now under w
abbrev pub redirected : ℕ → ℕ → Seat → Seat
redirected z w r = record { used = r.used; up = cond (r.up == z) w r.up; axis = r.axis; test = r.test }

-- row i after z has gone into its up-row w, whose test is then t; z itself is no longer in use
abbrev pub merged_row : List Seat → ℕ → ℕ → Test → ℕ → Seat
merged_row rs z w t i = record {
  used = cond (i == z) false (row rs i).used;
  up = cond (i == z) 0 (cond ((row rs i).up == z) w (row rs i).up);
  axis = cond (i == z) (Along Child) (row rs i).axis;
  test = cond (i == z) Any (cond (i == w) t (row rs i).test);
}

-- the row with the test t
abbrev pub retested : Seat → Test → Seat
retested r t = record { used = r.used; up = r.up; axis = r.axis; test = t }

-- z has gone into w
abbrev pub MergedInto : List Seat → ℕ → ℕ → List Seat → Type 0
MergedInto rs z w rs' = (t : Test) × (joined (row rs w).test (row rs z).test ≡ Some t) × ((i : ℕ) → row rs' i ≡ merged_row rs z w t i)

-- z has gone into its up-row
abbrev pub Merged : List Seat → ℕ → List Seat → Type 0
Merged rs z rs' = MergedInto rs z (row rs z).up rs'

-- the row is in use, or row 0
unfoldable pub live : List Seat → ℕ → Bool
live rs r = r == 0 || (row rs r).used

-- a row in use below row 0
unfoldable pub inner : List Seat → ℕ → Bool
inner rs z = not (z == 0) && (row rs z).used

-- along a step
abbrev pub is_along : Axis → Bool
is_along (Along s) = true
is_along (Against s) = false
is_along Itself = false
is_along (Wide x) = false

-- a row that is not in use, or goes along a step
abbrev pub ahead : Seat → Bool
ahead r = not r.used || is_along r.axis

-- every row in use goes along a step
unfoldable pub all_along : List Seat → Bool
all_along rs = all_rows fifteen (λ i. ahead (row rs i))

-- the row under w by the axis x
abbrev pub hung : Seat → ℕ → Axis → Seat
hung r w x = record { used = r.used; up = w; axis = x; test = r.test }

-- row z is under w by the axis x
abbrev pub rehung : List Seat → ℕ → ℕ → Axis → List Seat
rehung rs z w x = slice_set rs z (hung (row rs z) w x)

-- the up-row of the up-row
abbrev pub second : List Seat → ℕ → ℕ
second rs z = (row rs (row rs z).up).up

-- a row in use below row 0 whose up-row is not row 0
unfoldable pub deep : List Seat → ℕ → Bool
deep rs z = inner rs z && not ((row rs z).up == 0)

-- row z has been moved by one move of the table
abbrev pub MovedTo : List Seat → ℕ → Move → List Seat → Type 0
MovedTo rs z Up rs' = rs' ≡ rehung rs z (second rs z) (row rs z).axis
MovedTo rs z (Between a b) rs' = rs' ≡ rehung (rehung rs z (second rs z) (Along a)) (row rs z).up z (Along b)
MovedTo rs z (Join a) rs' = MergedInto (rehung rs (row rs z).up (second rs z) (Along a)) z (second rs z) rs'

-- only a join takes the output along
abbrev pub moved_output : List Seat → ℕ → Move → ℕ → ℕ
moved_output rs z Up o = o
moved_output rs z (Between a b) o = o
moved_output rs z (Join a) o = cond (o == z) (second rs z) o

-- and only a join may find that no place passes both tests
abbrev pub DroppedBy : List Seat → ℕ → Move → Type 0
DroppedBy rs z Up = ⊥
DroppedBy rs z (Between a b) = ⊥
DroppedBy rs z (Join a) = joined (row rs (second rs z)).test (row rs z).test ≡ None

-- a new row under w by the axis x, at any place but the root
abbrev pub fresh : ℕ → Axis → Seat
fresh w x = record { used = true; up = w; axis = x; test = Star }

-- z is reached over the new rows n and m, aside by the axis x
abbrev pub spread : List Seat → ℕ → ℕ → ℕ → Axis → List Seat
spread rs z n m x = slice_set (slice_set (slice_set rs n (fresh (row rs z).up (Wide AncestorOrSelf))) m (fresh n x)) z (hung (row rs z) m (Wide DescendantOrSelf))

-- the two rows from n on are below row 0 and free
unfoldable pub free_two : List Seat → ℕ → Bool
free_two rs n = not (n == 0) && (nat_lt n 15 && (not (row rs n).used && not (row rs (n + 1)).used))

-- and z is in use
unfoldable pub room : List Seat → ℕ → ℕ → Bool
room rs z n = inner rs z && free_two rs n
