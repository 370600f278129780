-- What the changes of a pattern answer.
use Rattle.std.specs.Prelude.{◌≡◌, ℕ, cond, None, Option, MatchOption, ◌==◌}
use Rattle.record.specs.declared.rules.Move.{Move}
use Rattle.pattern.specs.Rows.{seats, row, Merged, MovedTo, moved_output, DroppedBy}
use Rattle.pattern.specs.Tests.{joined}
use Rattle.pattern.specs.declared.base.Pattern.{Pattern}

-- row z is merged into its up-row, and the output goes with it; none if no place passes both tests
abbrev pub MergeOf : Pattern → ℕ → Option Pattern → Type 0
MergeOf P z r =
    MatchOption r (joined (row (seats P.rows) (row (seats P.rows) z).up).test (row (seats P.rows) z).test ≡ None) (λ Q. Merged (seats P.rows) z (seats Q.rows) × (Q.output ≡ cond (P.output == z) (row (seats P.rows) z).up P.output))

-- row z is moved by one move of the table; none if that is a join and no place passes both tests
abbrev pub MoveOf : Pattern → ℕ → Move → Option Pattern → Type 0
MoveOf P z m r = MatchOption r (DroppedBy (seats P.rows) z m) (λ Q. MovedTo (seats P.rows) z m (seats Q.rows) × (Q.output ≡ moved_output (seats P.rows) z m P.output))
