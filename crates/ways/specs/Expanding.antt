-- Expansion: rows by self, by an or-self axis, by following or preceding are replaced, until every row goes along a step or against one.
use Rattle.std.specs.Prelude.{◌≡◌, ℕ, zero, suc, Bool, true, false, not, List, [], ◌∷◌, ◌++◌, ◌==◌}
use Rattle.record.specs.declared.axis.Step.TheVariants.{Descendant, FollowingSibling}
use Rattle.record.specs.declared.axis.Reach.TheVariants.{DescendantOrSelf, AncestorOrSelf, Following, Preceding}
use Rattle.record.specs.declared.axis.Axis.{Axis}
use Rattle.record.specs.declared.axis.Axis.TheVariants.{Along, Against, Itself, Wide}
use Rattle.tally.specs.Semirings.{Semiring, bracket}
use Rattle.ways.specs.Merging.{axed, merged}
use Rattle.ways.specs.Ways.{upd, In, Apart, remove, Weighted}

-- L are the rows with two new ones, N and M
pub record Grown (rows L : List ℕ) (N M : ℕ) : Type 0 where
  pub apart : Apart L
  pub no_root : In 0 L → ⊥
  pub in_N : In N L
  pub in_M : In M (remove N L)
  pub left : remove M (remove N L) ≡ rows

module _ {T : Type 0} (S : Semiring T) where
  -- every place but the root
  unfoldable pub star : ℕ → T
  star p = bracket S (not (p == 0))

  -- from W up to N, by the axis side to M, down to Z
  unfoldable pub opened : Weighted T → ℕ → ℕ → ℕ → ℕ → Axis → List ℕ → Weighted T
  opened P W Z N M side L = record {
    rows = L;
    up = upd (upd (upd P.up N W) M N) Z M;
    axis = upd (upd (upd P.axis N (Wide AncestorOrSelf)) M side) Z (Wide DescendantOrSelf);
    gain = upd (upd P.gain N star) M star;
  }

-- a row is merged into its up-row; or that and, before it, the plain axis; or it is reached over two new rows
pub data Task : Type 0 where
  Settled : Task
  ToMerge : ℕ → Task
  ToSplit ToOpen : ℕ → Axis → Task

-- what a row wants by its axis, or else the rows after it
unfoldable pub wants : Axis → ℕ → Task → Task
wants (Along s) r rest = rest
wants (Against s) r rest = rest
wants Itself r rest = ToMerge r
wants (Wide DescendantOrSelf) r rest = ToSplit r (Along Descendant)
wants (Wide AncestorOrSelf) r rest = ToSplit r (Against Descendant)
wants (Wide Following) r rest = ToOpen r (Along FollowingSibling)
wants (Wide Preceding) r rest = ToOpen r (Against FollowingSibling)

unfoldable pub task_in : {T : Type 0} → Weighted T → List ℕ → Task
task_in P [] = Settled
task_in P (r ∷ rs) = wants (P.axis r) r (task_in P rs)

module _ {T : Type 0} (S : Semiring T) where
  -- k is the next number of a row
  unfoldable pub expand_turn : (ℕ → Weighted T → List (Weighted T)) → ℕ → Weighted T → Task → List (Weighted T)
  expand_turn again k P Settled = P ∷ []
  expand_turn again k P (ToMerge Z) = again k (merged S P (P.up Z) Z)
  expand_turn again k P (ToSplit Z x) = again k (axed P Z x) ++ again k (merged S P (P.up Z) Z)
  expand_turn again k P (ToOpen Z x) = again (suc (suc k)) (opened S P (P.up Z) Z k (suc k) x (P.rows ++ (k ∷ suc k ∷ [])))

  -- what no more than f turns one after another leave
  unfoldable pub expanding : ℕ → ℕ → Weighted T → List (Weighted T)
  expanding zero k P = P ∷ []
  expanding (suc f) k P = expand_turn (expanding f) k P (task_in P P.rows)

-- along a step or against one
abbrev pub plain : Axis → Bool
plain (Along s) = true
plain (Against s) = true
plain Itself = false
plain (Wide x) = false

-- every row is plain
abbrev pub Plain : {T : Type 0} → Weighted T → Type 0
Plain P = (r : ℕ) → In r P.rows → plain (P.axis r) ≡ true
