-- What a pattern and a question select in a record. These are the definitions to believe.
use Rattle.std.specs.Prelude.{ℕ, ◌+◌, Bool, cond, List, [], ◌∷◌, length, Some, None, Option, nat_le}
use Rattle.record.specs.Records.{place, depth_at}
use Rattle.record.specs.declared.place.Place.{Place}
use Rattle.tally.specs.Semirings.{Semiring, bracket}
use Rattle.tally.specs.Tallies.{naturals}
use Rattle.pattern.specs.Rows.{Seat, seats, row, fifteen}
use Rattle.pattern.specs.Tests.{passes}
use Rattle.ways.specs.Ways.{Weighted, value, held}
use Rattle.pattern.specs.declared.row.Test.{Test}
use Rattle.pattern.specs.declared.base.Pattern.{Pattern}

abbrev pub label_at : List Place → ℕ → ℕ
label_at places i = (place places i).label

-- those of the list that pass; the library's `filter`, written out since every pattern's rows are made by it and unfold at an element
unfoldable pub sift : List ℕ → (ℕ → Bool) → List ℕ
sift [] f = []
sift (r ∷ rs) f = cond (f r) (r ∷ sift rs f) (sift rs f)

-- the rows of an array as a pattern with gains
unfoldable pub pattern_of : {T : Type 0} → (Test → ℕ → T) → List Seat → Weighted T
pattern_of gain rs = record {
  rows = sift fifteen (λ r. (row rs r).used);
  up = λ r. (row rs r).up;
  axis = λ r. (row rs r).axis;
  gain = λ r. gain (row rs r).test;
}

-- one where the test holds
unfoldable pub test_gain : {T : Type 0} → Semiring T → (ℕ → ℕ) → Test → ℕ → T
test_gain S lab t p = bracket S (passes lab t p)

-- what the ways with the output at p that use only the first n places come to in a semiring
unfoldable pub value_within : {T : Type 0} → Semiring T → ℕ → List Place → Pattern → ℕ → T
value_within S n places pattern p =
    value S (depth_at places) n (held S (pattern_of (test_gain S (label_at places)) (seats pattern.rows)) pattern.output p)

-- what all ways of a pattern with the output at p come to
unfoldable pub value_at : {T : Type 0} → Semiring T → List Place → Pattern → ℕ → T
value_at S places pattern p = value_within S (length places) places pattern p

-- the number of ways with the output at p
unfoldable pub ways : List Place → Pattern → ℕ → ℕ
ways places pattern p = value_at naturals places pattern p

-- where there is no pattern there are no ways
unfoldable pub ways_of_rest : List Place → Option Pattern → ℕ → ℕ
ways_of_rest places None p = 0
ways_of_rest places (Some pattern) p = ways places pattern p

-- the ways of a question: the sum over its paths
unfoldable pub question_ways : List Place → List Pattern → ℕ → ℕ
question_ways places [] p = 0
question_ways places (x ∷ xs) p = ways places x p + question_ways places xs p

-- it selects a place if it has a way there
unfoldable pub selects : List Place → List Pattern → ℕ → Bool
selects places question p = nat_le 1 (question_ways places question p)
