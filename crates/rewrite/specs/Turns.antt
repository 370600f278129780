-- What is done next with a pattern.
use Rattle.std.specs.Prelude.{◌≡◌, ℕ, ◌<◌, ◌≤◌, true, cond, ◌&&◌, ◌⊎◌, List, [], ◌∷◌, Some, None, Option, unwrap_or, ◌==◌, slice_index_or}
use Rattle.record.specs.declared.axis.Step.TheVariants.{Descendant, FollowingSibling}
use Rattle.record.specs.declared.axis.Reach.TheVariants.{DescendantOrSelf, AncestorOrSelf, Following, Preceding}
use Rattle.record.specs.declared.axis.Axis.{Axis}
use Rattle.record.specs.declared.axis.Axis.TheVariants.{Along, Against, Itself, Wide}
use Rattle.record.specs.Records.{Record}
use Rattle.record.specs.declared.place.Place.{Place}
use Rattle.pattern.specs.Questions.{ways}
use Rattle.pattern.specs.Rows.{Seat, seat, seats, row, fifteen, inner, deep, all_along}
use Rattle.pattern.specs.declared.base.Pattern.{Pattern}
use Rattle.pattern.specs.declared.row.Row.{Row}
use Rattle.ways.specs.Rewriting.{strays}
use Rattle.rewrite.specs.declared.turns.Turn.{Turn}
use Rattle.rewrite.specs.declared.turns.Turn.TheVariants.{Kept, Dropped, Merge, Split, Open, Shift}

-- the first answer of a list
unfoldable pub first_some : {A : Type 0} → (ℕ → Option A) → List ℕ → Option A
first_some f [] = None
first_some f (r ∷ rs) = elim (f r) [ None ↦ first_some f rs | Some t ↦ Some t ]

-- what expansion does with row i by its axis
abbrev pub expansion_by : ℕ → Axis → Option Turn
expansion_by i (Along s) = None
expansion_by i (Against s) = None
expansion_by i Itself = Some (Merge i)
expansion_by i (Wide DescendantOrSelf) = Some (Split i (Along Descendant))
expansion_by i (Wide AncestorOrSelf) = Some (Split i (Against Descendant))
expansion_by i (Wide Following) = Some (Open i (Along FollowingSibling))
expansion_by i (Wide Preceding) = Some (Open i (Against FollowingSibling))

-- what rewriting does with row i by its axis and that of its up-row
abbrev pub shift_by : ℕ → Axis → Axis → Option Turn
shift_by i (Against z) (Along y) = Some (Shift i y z)
shift_by i (Against z) (Against y) = None
shift_by i (Against z) Itself = None
shift_by i (Against z) (Wide y) = None
shift_by i (Along z) above = None
shift_by i Itself above = None
shift_by i (Wide z) above = None

-- a row under row 0 that leads nowhere drops the pattern
abbrev pub stray_by : ℕ → Axis → Option Turn
stray_by up x = cond (up == 0 && strays x) (Some Dropped) None

-- what row i asks for, if it is in use
abbrev pub want_at : List Seat → (ℕ → Seat → Option Turn) → ℕ → Option Turn
want_at rs want i = cond (row rs i).used (want i (row rs i)) None

-- what the lowest-numbered row asks for that asks for something
abbrev pub first_want : List Seat → (ℕ → Seat → Option Turn) → Option Turn
first_want rs want = first_some (want_at rs want) fifteen

-- what a search finds that asks each row in use: where its answers are those of a function, what that function gives first
pub record FirstWant (rows : List (Option Row)) (answers : ℕ → Row → Option Turn → Type 0) (found : Option Turn) : Type 0 where
  pub first : (want : ℕ → Seat → Option Turn) → ((i : ℕ) (r : Row) (t : Option Turn) → 1 ≤ i → i < 16 → slice_index_or rows i None ≡ Some r → answers i r t → t ≡ want i (seat (Some r))) → found ≡ first_want (seats rows) want

-- the three things that a row may ask for
abbrev pub expanding : ℕ → Seat → Option Turn
expanding i r = expansion_by i r.axis

abbrev pub straying : ℕ → Seat → Option Turn
straying i r = stray_by r.up r.axis

abbrev pub shifting : List Seat → ℕ → Seat → Option Turn
shifting rs i r = shift_by i r.axis (row rs r.up).axis

-- the lowest-numbered row for expansion; then whether a row goes astray; then the lowest-numbered row for the table; then the end
abbrev pub turn_of : List Seat → Turn
turn_of rs = unwrap_or (first_want rs expanding) (unwrap_or (first_want rs straying) (unwrap_or (first_want rs (shifting rs)) Kept))

-- what a turn that goes on says of the rows: the row that it names is in use, and goes by the axis for which the turn is
abbrev pub Asked : List Seat → Turn → Type 0
Asked rs Kept = Unit {0}
Asked rs Dropped = Unit {0}
Asked rs (Merge z) = (inner rs z ≡ true) × ((row rs z).axis ≡ Itself)
Asked rs (Split z x) =
    (inner rs z ≡ true) × ((((row rs z).axis ≡ Wide DescendantOrSelf) × (x ≡ Along Descendant)) ⊎ (((row rs z).axis ≡ Wide AncestorOrSelf) × (x ≡ Against Descendant)))
Asked rs (Open z x) =
    (inner rs z ≡ true) × ((((row rs z).axis ≡ Wide Following) × (x ≡ Along FollowingSibling)) ⊎ (((row rs z).axis ≡ Wide Preceding) × (x ≡ Against FollowingSibling)))
Asked rs (Shift z y s) = (deep rs z ≡ true) × ((row rs (row rs z).up).axis ≡ Along y) × ((row rs z).axis ≡ Against s)

-- what a turn says of its pattern: one that is kept looks only forward, one that is dropped has no way in any record, and else a row asks
abbrev pub Told : Pattern → Turn → Type 0
Told P Kept = all_along (seats P.rows) ≡ true
Told P Dropped = (places : List Place) → Record places → (p : ℕ) → ways places P p ≡ 0
Told P (Merge z) = Asked (seats P.rows) (Merge z)
Told P (Split z x) = Asked (seats P.rows) (Split z x)
Told P (Open z x) = Asked (seats P.rows) (Open z x)
Told P (Shift z y s) = Asked (seats P.rows) (Shift z y s)
