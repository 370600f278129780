-- Ways of a pattern over a record, and what they come to in a semiring. D is the depths of the record's n places.
use Rattle.std.specs.Prelude.{◌≡◌, ℕ, ◌<◌, Bool, true, cond, ◌&&◌, ◌⊎◌, List, [], ◌∷◌, ◌==◌}
use Rattle.record.specs.Axes.{holds}
use Rattle.record.specs.declared.axis.Axis.{Axis}
use Rattle.tally.specs.Semirings.{Semiring, bracket, sum, product}

-- f, but v at r
unfoldable pub upd : {A : Type 0} → (ℕ → A) → ℕ → A → ℕ → A
upd f r v s = cond (s == r) v (f s)

abbrev pub In : ℕ → List ℕ → Type 0
In r [] = ⊥
In r (s ∷ rs) = (r ≡ s) ⊎ In r rs

abbrev pub Apart : List ℕ → Type 0
Apart [] = Unit {0}
Apart (r ∷ rs) = (In r rs → ⊥) × Apart rs

unfoldable pub remove : ℕ → List ℕ → List ℕ
remove r [] = []
remove r (s ∷ rs) = cond (s == r) rs (s ∷ remove r rs)

-- a pattern with a gain in T for each row and place: its rows in use but row 0, their up-rows and axes
pub record Weighted (T : Type 0) : Type 0 where
  pub rows : List ℕ
  pub up : ℕ → ℕ
  pub axis : ℕ → Axis
  pub gain : ℕ → ℕ → T

unfoldable pub all_rows : List ℕ → (ℕ → Bool) → Bool
all_rows [] f = true
all_rows (r ∷ rs) f = f r && all_rows rs f

-- the axis of row r leads from the place of its up-row to its own
unfoldable pub link : {T : Type 0} → (ℕ → ℕ) → Weighted T → (ℕ → ℕ) → ℕ → Bool
link D P a r = holds D (P.axis r) (a (P.up r)) (a r)

-- an assignment a of places to rows is a way if each axis leads on
unfoldable pub is_way : {T : Type 0} → (ℕ → ℕ) → Weighted T → (ℕ → ℕ) → Bool
is_way D P a = all_rows P.rows (link D P a)

module _ {T : Type 0} (S : Semiring T) where
  -- the sum over all places below n of each row of the list
  unfoldable pub sum_rows : ℕ → List ℕ → ((ℕ → ℕ) → T) → (ℕ → ℕ) → T
  sum_rows n [] F a = F a
  sum_rows n (r ∷ rs) F a = sum S n (λ p. sum_rows n rs F (upd a r p))

  -- the product of the gains, row 0's among them
  unfoldable pub gains : Weighted T → (ℕ → ℕ) → T
  gains P a = product S (0 ∷ P.rows) (λ r. P.gain r (a r))

  -- the sum, over all assignments with row 0 at place 0 that are ways, of the product of the gains
  unfoldable pub value : (ℕ → ℕ) → ℕ → Weighted T → T
  value D n P = sum_rows n P.rows (λ a. S.times (bracket S (is_way D P a)) (gains P a)) (λ _. 0)

-- the rows in use make a tree below row 0: rank is larger further down
pub record Tree {T : Type 0} (P : Weighted T) (rank : ℕ → ℕ) : Type 0 where
  pub apart : Apart P.rows
  pub no_root : In 0 P.rows → ⊥
  pub ups : (r : ℕ) → In r P.rows → In (P.up r) (0 ∷ P.rows)
  pub ranks : (r : ℕ) → In r P.rows → rank (P.up r) < rank r

module _ {T : Type 0} (S : Semiring T) where
  -- the gain of row o multiplied by w
  unfoldable pub weighted : Weighted T → ℕ → (ℕ → T) → Weighted T
  weighted P o w = record { rows = P.rows; up = P.up; axis = P.axis; gain = upd P.gain o (λ q. S.times (w q) (P.gain o q)) }

  -- row o held at p
  unfoldable pub held : Weighted T → ℕ → ℕ → Weighted T
  held P o p = weighted P o (λ q. bracket S (p == q))
