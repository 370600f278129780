-- Rewriting: rows that go against a step are moved by the table, until none is left.
use Rattle.std.specs.List.{AllByRecursion}
use Rattle.std.specs.Prelude.{◌≡◌, ℕ, zero, suc, Bool, true, false, cond, ◌&&◌, ◌||◌, ◌≢◌, List, [], ◌∷◌, ◌++◌, ◌==◌}
use Rattle.record.specs.Moves.{table}
use Rattle.record.specs.declared.axis.Step.{Step}
use Rattle.record.specs.declared.axis.Step.TheVariants.{Child, Descendant, Next, FollowingSibling}
use Rattle.record.specs.declared.axis.Axis.{Axis}
use Rattle.record.specs.declared.axis.Axis.TheVariants.{Along, Against, Itself, Wide}
use Rattle.record.specs.declared.rules.Move.{Move}
use Rattle.record.specs.declared.rules.Move.TheVariants.{Up, Join, Between}
use Rattle.tally.specs.Semirings.{Semiring}
use Rattle.ways.specs.Merging.{Hung, axed, merged}
use Rattle.ways.specs.Ways.{upd, In, Weighted}

-- Z is moved by one move of the table; Y is its up-row, W the up-row of Y
unfoldable pub moved : {T : Type 0} → Semiring T → Weighted T → ℕ → ℕ → ℕ → Move → Weighted T
moved S P W Y Z Up = record { rows = P.rows; up = upd P.up Z W; axis = P.axis; gain = P.gain }
moved S P W Y Z (Between a b) = record { rows = P.rows; up = upd (upd P.up Z W) Y Z; axis = upd (upd P.axis Z (Along a)) Y (Along b); gain = P.gain }
moved S P W Y Z (Join a) = merged S (axed P Y (Along a)) W Z

-- where a row is moved: Z goes against the step sZ from Y, and Y along sY from W
pub record Spot {T : Type 0} (P : Weighted T) (W Y Z : ℕ) (sY sZ : Step) : Type 0 where
  pub hung : Hung P
  pub in_Y : In Y P.rows
  pub in_Z : In Z P.rows
  pub up_Y : P.up Y ≡ W
  pub up_Z : P.up Z ≡ Y
  pub axis_Y : P.axis Y ≡ Along sY
  pub axis_Z : P.axis Z ≡ Against sZ
  pub W_Z : W ≢ Z
  pub Y_Z : Y ≢ Z

-- what is to be done: nothing; the pattern is dropped; or a row is moved
pub data Todo : Type 0 where
  Done : Todo
  Dropped : Todo
  At : ℕ → Step → Step → Todo

-- the axis leads nowhere from the root, which has nothing around it, before it or beside it
abbrev pub strays : Axis → Bool
strays (Along Child) = false
strays (Along Descendant) = false
strays (Along Next) = true
strays (Along FollowingSibling) = true
strays (Against s) = true
strays Itself = false
strays (Wide x) = false

-- some row right under row 0 goes by such an axis
unfoldable pub stray_in : {T : Type 0} → Weighted T → List ℕ → Bool
stray_in P [] = false
stray_in P (r ∷ rs) = (P.up r == 0 && strays (P.axis r)) || stray_in P rs

-- a row's axis, whether it hangs under row 0, its up-row's axis, the row, and what the other rows want
unfoldable pub judge : Axis → Bool → Axis → ℕ → Todo → Todo
judge (Along s) top above r rest = rest
judge Itself top above r rest = rest
judge (Wide x) top above r rest = rest
judge (Against s) true above r rest = Dropped
judge (Against s) false (Along t) r rest = At r t s
judge (Against s) false (Against t) r rest = rest
judge (Against s) false Itself r rest = rest
judge (Against s) false (Wide x) r rest = rest

-- the first of the rows that wants something
unfoldable pub find_in : {T : Type 0} → Weighted T → List ℕ → Todo
find_in P [] = Done
find_in P (r ∷ rs) = judge (P.axis r) (P.up r == 0) (P.axis (P.up r)) r (find_in P rs)

-- the library's `flat_map`, written out since laws rest on it and unfold it at an element
unfoldable pub concat_map : {A B : Type 0} → (A → List B) → List A → List B
concat_map f [] = []
concat_map f (x ∷ xs) = f x ++ concat_map f xs

-- a pattern that goes astray is dropped first
unfoldable pub todo_of : {T : Type 0} → Weighted T → Todo
todo_of P = cond (stray_in P P.rows) Dropped (find_in P P.rows)

-- each alternative is finished before the next
unfoldable pub turn : {T : Type 0} → Semiring T → (Weighted T → List (Weighted T)) → Weighted T → Todo → List (Weighted T)
turn S again P Done = P ∷ []
turn S again P Dropped = []
turn S again P (At Z sY sZ) = concat_map (λ x. again (moved S P (P.up (P.up Z)) (P.up Z) Z x)) (table sY sZ)

-- what no more than k moves one after another leave
unfoldable pub rewriting : {T : Type 0} → Semiring T → ℕ → Weighted T → List (Weighted T)
rewriting S zero P = P ∷ []
rewriting S (suc k) P = turn S (λ Q. rewriting S k Q) P (todo_of P)

-- no row goes against a step
abbrev pub NoneBack : {T : Type 0} → Weighted T → Type 0
NoneBack P = (r : ℕ) → In r P.rows → (s : Step) → P.axis r ≢ Against s

-- the library's `AllByRecursion`, by the word that the laws have for it
abbrev pub Every : {A : Type 0} → (A → Type 0) → List A → Type 0
Every F xs = AllByRecursion F xs
