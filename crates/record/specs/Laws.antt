-- The laws of the axes, each in one statement. D is the depths of the places.
use Rattle.std.specs.Prelude.{◌≡◌, ℕ, suc, ◌<◌, ◌≤◌, true, false, ◌&&◌, ◌⊎◌, List, ◌++◌, map, length, Some, None, Decides, Option}
use Rattle.record.specs.Axes.{parent_of, child, descendant, following_sibling, next, or_self, following, leads, holds, inverse_of, is_forward}
use Rattle.record.specs.Moves.{table, move_holds, bit, count}
use Rattle.record.specs.Records.{Record, depth_at}
use Rattle.record.specs.declared.axis.Step.{Step}
use Rattle.record.specs.declared.axis.Axis.{Axis}
use Rattle.record.specs.declared.place.Place.{Place}

-- every place but the root has a parent: an earlier one, one less deep, with none between them as shallow as it
abbrev pub ParentsFound : Type 0
ParentsFound =
    (places : List Place) → Record places → (q : ℕ) → 0 < q → q < length places →
    (p : ℕ) × (parent_of (depth_at places) q ≡ Some p) × (p < q) × (depth_at places q ≡ suc (depth_at places p)) × ((x : ℕ) → p < x → x < q → depth_at places p < depth_at places x)

-- the descendants of a place are those that follow it without a break and lie deeper
abbrev pub DescendantsUnbroken : Type 0
DescendantsUnbroken =
    (places : List Place) → Record places → (p q : ℕ) →
    Decides (descendant (depth_at places) p q) ((p < q) × ((x : ℕ) → p < x → x ≤ q → depth_at places p < depth_at places x))

-- a descendant is a child, or a descendant of a child
abbrev pub DescendantsByChildren : Type 0
DescendantsByChildren =
    (places : List Place) → Record places → (p q : ℕ) →
    Decides (descendant (depth_at places) p q) ((x : ℕ) × (child (depth_at places) p x ≡ true) × (or_self (depth_at places) x q ≡ true))

-- up from p to x, aside to y, down to q
pub record Pair (D : ℕ → ℕ) (p q x y : ℕ) : Type 0 where
  pub above : or_self D x p ≡ true
  pub beside : following_sibling D x y ≡ true
  pub below : or_self D y q ≡ true

-- q follows p exactly if there is such a pair, and there is at most one
abbrev pub FollowingByOnePair : Type 0
FollowingByOnePair =
    (places : List Place) → Record places → (p q : ℕ) → q < length places →
    Decides (following (depth_at places) p q) ((x : ℕ) × (y : ℕ) × Pair (depth_at places) p q x y) × ((x y x' y' : ℕ) → Pair (depth_at places) p q x y → Pair (depth_at places) p q x' y' → (x ≡ x') × (y ≡ y'))

-- where row Y stands at y, one step along from w, and Z one step back from there, exactly one move of the table holds; and none elsewhere
abbrev pub OneMoveHolds : Type 0
OneMoveHolds =
    (places : List Place) → Record places → (sY sZ : Step) (w y z : ℕ) →
    bit (leads (depth_at places) sY w y && leads (depth_at places) sZ z y) ≡ count (map (move_holds (depth_at places) sY sZ w y z) (table sY sZ))

-- the first child of p among n places
abbrev pub FirstOf : (ℕ → ℕ) → ℕ → ℕ → Option ℕ → Type 0
FirstOf D n p None = (k : ℕ) → k < n → child D p k ≡ false
FirstOf D n p (Some j) = (j < n) × (child D p j ≡ true) × ((k : ℕ) → k < j → child D p k ≡ false)

-- the next sibling of p among n places
abbrev pub NextOf : (ℕ → ℕ) → ℕ → ℕ → Option ℕ → Type 0
NextOf D n p None = (k : ℕ) → k < n → following_sibling D p k ≡ false
NextOf D n p (Some j) = (j < n) × (next D p j ≡ true)

-- the children of p are its first child and the following siblings of that; the following siblings of a place are its next one and
-- the following siblings of that
abbrev pub ChildrenListed : Type 0
ChildrenListed =
    (places : List Place) → Record places → (p c q : ℕ) →
    (FirstOf (depth_at places) (length places) p (Some c) → Decides (child (depth_at places) p q) ((c ≡ q) ⊎ (following_sibling (depth_at places) c q ≡ true))) × (NextOf (depth_at places) (length places) p (Some c) → Decides (following_sibling (depth_at places) p q) ((c ≡ q) ⊎ (following_sibling (depth_at places) c q ≡ true)))

-- between places of a record every axis stays the same as the record grows
abbrev pub AxesStay : Type 0
AxesStay =
    (places more : List Place) (a : Axis) (p q : ℕ) → p < length places → q < length places →
    holds (depth_at (places ++ more)) a p q ≡ holds (depth_at places) a p q

-- the inverse of an axis leads back
abbrev pub InversesLeadBack : Type 0
InversesLeadBack = (D : ℕ → ℕ) (a : Axis) (p q : ℕ) → holds D (inverse_of a) q p ≡ holds D a p q

-- a forward axis leads to no earlier place
abbrev pub ForwardIsLater : Type 0
ForwardIsLater = (places : List Place) → Record places → (a : Axis) (p q : ℕ) → is_forward a ≡ true → holds (depth_at places) a p q ≡ true → p ≤ q
