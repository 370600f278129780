-- What expansion and rewriting keep, and that they end.
use Rattle.std.specs.Prelude.{◌≡◌, ℕ, ◌<◌, ◌≤◌, true, List, map, length}
use Rattle.record.specs.Moves.{table}
use Rattle.record.specs.Records.{Record, depth_at}
use Rattle.record.specs.declared.axis.Step.{Step}
use Rattle.record.specs.declared.axis.Step.TheVariants.{Descendant, FollowingSibling}
use Rattle.record.specs.declared.axis.Reach.{Reach}
use Rattle.record.specs.declared.axis.Reach.TheVariants.{DescendantOrSelf, AncestorOrSelf, Following, Preceding}
use Rattle.record.specs.declared.axis.Axis.{Axis}
use Rattle.record.specs.declared.axis.Axis.TheVariants.{Along, Against, Wide}
use Rattle.record.specs.declared.place.Place.{Place}
use Rattle.tally.specs.Semirings.{Semiring, total}
use Rattle.ways.specs.Merging.{Under, axed, merged}
use Rattle.ways.specs.Ways.{In, Weighted, value, Tree}
use Rattle.ways.specs.Expanding.{Grown, opened, expanding, plain, Plain}
use Rattle.ways.specs.Rewriting.{Spot, moved, rewriting, NoneBack, Every}

-- what a pattern comes to in a record
abbrev pub worth : {T : Type 0} → Semiring T → List Place → Weighted T → T
worth S places P = value S (depth_at places) (length places) P

-- the values of the alternatives of one entry of the table add up to the pattern's
abbrev pub MovesKeepTheValue : {T : Type 0} → Semiring T → Type 0
MovesKeepTheValue {T} S =
    (places : List Place) → Record places → (P : Weighted T) (W Y Z : ℕ) (sY sZ : Step) → Spot P W Y Z sY sZ →
    worth S places P ≡ total S (map (λ x. worth S places (moved S P W Y Z x)) (table sY sZ))

-- and so do those of all patterns that rewriting leaves, however long it goes on; what is dropped is worth nothing
abbrev pub RewritingKeepsTheValue : {T : Type 0} → Semiring T → Type 0
RewritingKeepsTheValue {T} S =
    (places : List Place) → Record places → (P : Weighted T) (rank : ℕ → ℕ) → Tree P rank → (k : ℕ) →
    total S (map (worth S places) (rewriting S k P)) ≡ worth S places P

-- with 15 rows that all go along a step or against one, 7300 moves leave only patterns that go along
abbrev pub RewritingEnds : {T : Type 0} → Semiring T → Type 0
RewritingEnds {T} S =
    (P : Weighted T) (rank : ℕ → ℕ) → Tree P rank → length P.rows ≤ 15 → ((r : ℕ) → In r P.rows → (rank r ≤ 15) × (plain (P.axis r) ≡ true)) → Every NoneBack (rewriting S 7300 P)

-- an or-self row gives two alternatives
abbrev pub SplittingKeepsTheValue : {T : Type 0} → Semiring T → Reach → Axis → Type 0
SplittingKeepsTheValue {T} S wide side =
    (places : List Place) → Record places → (P : Weighted T) (W Z : ℕ) → Under P W Z → P.axis Z ≡ Wide wide →
    worth S places P ≡ S.plus (worth S places (axed P Z side)) (worth S places (merged S P W Z))

-- a following or preceding row is reached over two new rows
abbrev pub OpeningKeepsTheValue : {T : Type 0} → Semiring T → Reach → Axis → Type 0
OpeningKeepsTheValue {T} S wide side =
    (places : List Place) → Record places → (P : Weighted T) (W Z N M : ℕ) (L : List ℕ) → Under P W Z → Grown P.rows L N M → P.axis Z ≡ Wide wide →
    worth S places P ≡ worth S places (opened S P W Z N M side L)

-- expansion as a whole, however long it goes on; k is above all numbers of rows
abbrev pub ExpansionKeepsTheValue : {T : Type 0} → Semiring T → Type 0
ExpansionKeepsTheValue {T} S =
    (places : List Place) → Record places → (P : Weighted T) (rank : ℕ → ℕ) → Tree P rank → (f k : ℕ) → 1 ≤ k → ((r : ℕ) → In r P.rows → r < k) →
    total S (map (worth S places) (expanding S f k P)) ≡ worth S places P

-- with 15 rows, 76 turns leave only rows that go along a step or against one
abbrev pub ExpansionEnds : {T : Type 0} → Semiring T → Type 0
ExpansionEnds {T} S =
    (P : Weighted T) (rank : ℕ → ℕ) → Tree P rank → length P.rows ≤ 15 → (k : ℕ) → 1 ≤ k → ((r : ℕ) → In r P.rows → r < k) →
    Every Plain (expanding S 76 k P)

pub record ExpansionLaws {T : Type 0} (S : Semiring T) : Type 0 where
  pub descendant_or_self : SplittingKeepsTheValue S DescendantOrSelf (Along Descendant)
  pub ancestor_or_self : SplittingKeepsTheValue S AncestorOrSelf (Against Descendant)
  pub following : OpeningKeepsTheValue S Following (Along FollowingSibling)
  pub preceding : OpeningKeepsTheValue S Preceding (Against FollowingSibling)
  pub whole : ExpansionKeepsTheValue S
  pub ends : ExpansionEnds S

pub record RewritingLaws {T : Type 0} (S : Semiring T) : Type 0 where
  pub moves : MovesKeepTheValue S
  pub whole : RewritingKeepsTheValue S
  pub ends : RewritingEnds S

-- the changes one by one
pub record ChangeLaws {T : Type 0} (S : Semiring T) : Type 0 where
  pub moves : MovesKeepTheValue S
  pub descendant_or_self : SplittingKeepsTheValue S DescendantOrSelf (Along Descendant)
  pub ancestor_or_self : SplittingKeepsTheValue S AncestorOrSelf (Against Descendant)
  pub following : OpeningKeepsTheValue S Following (Along FollowingSibling)
  pub preceding : OpeningKeepsTheValue S Preceding (Against FollowingSibling)
