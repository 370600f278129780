-- What holds of the ends of a pattern, in every semiring and every record.
use Rattle.std.specs.Prelude.{◌≡◌, ℕ, true, List, map, length}
use Rattle.record.specs.Records.{Record}
use Rattle.record.specs.declared.place.Place.{Place}
use Rattle.tally.specs.Semirings.{Semiring, total}
use Rattle.pattern.specs.Rows.{seats}
use Rattle.pattern.specs.Questions.{value_at}
use Rattle.pattern.specs.declared.base.Pattern.{Pattern}
use Rattle.rewrite.specs.Turns.{turn_of}
use Rattle.all_ends.specs.Ends.{shape_of, by_turn, ends_of, kept_of, question_ends}
use Rattle.all_ends.specs.Rewritten.{all_fit}

-- the ends of a pattern, which has sixteen rows as every one in the code has, are those of its turn's alternatives, one after another
abbrev pub EndsFollowTheRules : Type 0
EndsFollowTheRules = (P : Pattern) → length P.rows ≡ 16 → ends_of (shape_of P) ≡ by_turn ends_of (shape_of P) (turn_of (seats P.rows))

-- and the kept ends of patterns that fit have together the value of the patterns
abbrev pub AlternativesKeepTheValue : {T : Type 0} → Semiring T → Type 0
AlternativesKeepTheValue S =
    (places : List Place) → Record places → (sources alternatives : List Pattern) → all_fit sources ≡ true → map shape_of alternatives ≡ kept_of (question_ends sources) → (p : ℕ) →
    total S (map (λ Q. value_at S places Q p) alternatives) ≡ total S (map (λ P. value_at S places P p) sources)
