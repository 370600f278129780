-- Where a test holds, and the join of two.
use Rattle.std.specs.Prelude.{◌≡◌, ℕ, Bool, true, false, cond, not, ◌&&◌, Some, None, Option, ◌==◌}
use Rattle.pattern.specs.declared.row.Test.{Test}
use Rattle.pattern.specs.declared.row.Test.TheVariants.{Any, Star, Label, Root}

-- the test holds at place p, where place i has the label lab i. Star holds everywhere but at the root
abbrev pub passes : (ℕ → ℕ) → Test → ℕ → Bool
passes lab Any p = true
passes lab Star p = not (p == 0)
passes lab (Label n) p = not (p == 0) && lab p == n
passes lab Root p = p == 0

-- the narrower of two tests, or none where no place passes both
abbrev pub joined : Test → Test → Option Test
joined Any b = Some b
joined Star Any = Some Star
joined Star Star = Some Star
joined Star (Label m) = Some (Label m)
joined Star Root = None
joined (Label n) Any = Some (Label n)
joined (Label n) Star = Some (Label n)
joined (Label n) (Label m) = cond (n == m) (Some (Label n)) None
joined (Label n) Root = None
joined Root Any = Some Root
joined Root Star = None
joined Root (Label m) = None
joined Root Root = Some Root

-- the joined test holds exactly where both hold, and that is somewhere; there is none exactly if both hold nowhere, whatever the labels
abbrev pub JoinTold : Test → Test → Option Test → Type 0
JoinTold a b None = (lab : ℕ → ℕ) (p : ℕ) → (passes lab a p && passes lab b p) ≡ false
JoinTold a b (Some t) = ((lab : ℕ → ℕ) (p : ℕ) → passes lab t p ≡ (passes lab a p && passes lab b p)) × ((lab : ℕ → ℕ) × (p : ℕ) × (passes lab t p ≡ true))
