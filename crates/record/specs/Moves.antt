-- The table of rewriting. Row Z goes against the step z from its up-row Y, which goes along the step y from its up-row W.
use Rattle.std.specs.Prelude.{ℕ, ◌+◌, Bool, true, false, ◌&&◌, List, [], ◌∷◌, ◌==◌}
use Rattle.record.specs.Axes.{leads}
use Rattle.record.specs.declared.axis.Step.{Step}
use Rattle.record.specs.declared.axis.Step.TheVariants.{Child, Descendant, Next, FollowingSibling}
use Rattle.record.specs.declared.rules.Move.{Move}
use Rattle.record.specs.declared.rules.Move.TheVariants.{Up, Join, Between}

abbrev pub table : Step → Step → List Move
table Child Child = Join Child ∷ []
table Child Descendant = Up ∷ Join Child ∷ []
table Child Next = Between Child Next ∷ []
table Child FollowingSibling = Between Child FollowingSibling ∷ []
table Descendant Child = Join Child ∷ Between Descendant Child ∷ []
table Descendant Descendant = Up ∷ Join Descendant ∷ Between Descendant Descendant ∷ []
table Descendant Next = Between Descendant Next ∷ []
table Descendant FollowingSibling = Between Descendant FollowingSibling ∷ []
table Next Child = Up ∷ []
table Next Descendant = Up ∷ []
table Next Next = Join Next ∷ []
table Next FollowingSibling = Up ∷ Join Next ∷ []
table FollowingSibling Child = Up ∷ []
table FollowingSibling Descendant = Up ∷ []
table FollowingSibling Next = Join Next ∷ Between FollowingSibling Next ∷ []
table FollowingSibling FollowingSibling = Up ∷ Join FollowingSibling ∷ Between FollowingSibling FollowingSibling ∷ []

-- what a move asks of the places w, y and z of the three rows. Up: Z hangs under W by its own axis. Join a: Z stands where W does,
-- and Y hangs under W by a. Between a, b: Z hangs under W by a, and Y under Z by b
abbrev pub move_holds : (ℕ → ℕ) → Step → Step → ℕ → ℕ → ℕ → Move → Bool
move_holds D sY sZ w y z Up = leads D sY w y && leads D sZ z w
move_holds D sY sZ w y z (Join a) = leads D a w y && w == z
move_holds D sY sZ w y z (Between a b) = leads D b z y && leads D a w z

abbrev pub bit : Bool → ℕ
bit true = 1
bit false = 0

-- how many hold
abbrev pub count : List Bool → ℕ
count [] = 0
count (b ∷ bs) = bit b + count bs
