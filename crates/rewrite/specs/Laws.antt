-- What the changes of a pattern keep, in every semiring, in every record, with the output at every place.
use Rattle.std.specs.Prelude.{◌≡◌, ℕ, ◌+◌, true, List, map, length, Some, None, Option}
use Rattle.std.specs.List.{AllZip}
use Rattle.record.specs.Moves.{table}
use Rattle.record.specs.Records.{Record}
use Rattle.record.specs.declared.axis.Step.{Step}
use Rattle.record.specs.declared.axis.Step.TheVariants.{Descendant, FollowingSibling}
use Rattle.record.specs.declared.axis.Reach.{Reach}
use Rattle.record.specs.declared.axis.Reach.TheVariants.{DescendantOrSelf, AncestorOrSelf, Following, Preceding}
use Rattle.record.specs.declared.axis.Axis.{Axis}
use Rattle.record.specs.declared.axis.Axis.TheVariants.{Along, Against, Wide}
use Rattle.record.specs.declared.place.Place.{Place}
use Rattle.record.specs.declared.rules.Move.{Move}
use Rattle.tally.specs.Semirings.{Semiring, total}
use Rattle.pattern.specs.Changes.{MergeOf, MoveOf}
use Rattle.pattern.specs.Questions.{value_at}
use Rattle.pattern.specs.Rows.{seats, row, inner, deep, room, rehung, spread}
use Rattle.pattern.specs.declared.base.Pattern.{Pattern}

-- where there is no pattern there is nothing
unfoldable pub value_of_rest : {T : Type 0} → Semiring T → List Place → Option Pattern → ℕ → T
value_of_rest S places None p = S.nought
value_of_rest S places (Some P) p = value_at S places P p

-- by each move of a list in turn
abbrev pub MovesOf : Pattern → ℕ → List Move → List (Option Pattern) → Type 0
MovesOf P z = AllZip (MoveOf P z)

-- where a row goes against a step and its up-row along one, the moves of the table's entry have together what the pattern has
abbrev pub MovesKeepEveryWay : {T : Type 0} → Semiring T → Type 0
MovesKeepEveryWay S =
    (places : List Place) → Record places → (P : Pattern) → length P.rows ≡ 16 → (z : ℕ) (sY sZ : Step) → deep (seats P.rows) z ≡ true →
    (row (seats P.rows) (row (seats P.rows) z).up).axis ≡ Along sY → (row (seats P.rows) z).axis ≡ Against sZ →
    (rest : List (Option Pattern)) → MovesOf P z (table sY sZ) rest → (p : ℕ) →
    value_at S places P p ≡ total S (map (λ r. value_of_rest S places r p) rest)

-- a row by an or-self axis: by the plain axis, and merged
abbrev pub SplitsKeepEveryWay : {T : Type 0} → Semiring T → Reach → Axis → Type 0
SplitsKeepEveryWay S wide side =
    (places : List Place) → Record places → (P Q : Pattern) → length P.rows ≡ 16 → (z : ℕ) → inner (seats P.rows) z ≡ true → (row (seats P.rows) z).axis ≡ Wide wide →
    seats Q.rows ≡ rehung (seats P.rows) z (row (seats P.rows) z).up side → Q.output ≡ P.output → (r : Option Pattern) → MergeOf P z r → (p : ℕ) →
    value_at S places P p ≡ S.plus (value_at S places Q p) (value_of_rest S places r p)

-- a row by following or preceding: over two new rows
abbrev pub OpeningsKeepEveryWay : {T : Type 0} → Semiring T → Reach → Axis → Type 0
OpeningsKeepEveryWay S wide side =
    (places : List Place) → Record places → (P Q : Pattern) → length P.rows ≡ 16 → (z n : ℕ) → room (seats P.rows) z n ≡ true → (row (seats P.rows) z).axis ≡ Wide wide →
    seats Q.rows ≡ spread (seats P.rows) z n (n + 1) side → Q.output ≡ P.output → (p : ℕ) →
    value_at S places P p ≡ value_at S places Q p

pub record ChangeLaws {T : Type 0} (S : Semiring T) : Type 0 where
  pub moves : MovesKeepEveryWay S
  pub descendant_or_self : SplitsKeepEveryWay S DescendantOrSelf (Along Descendant)
  pub ancestor_or_self : SplitsKeepEveryWay S AncestorOrSelf (Against Descendant)
  pub following : OpeningsKeepEveryWay S Following (Along FollowingSibling)
  pub preceding : OpeningsKeepEveryWay S Preceding (Against FollowingSibling)
