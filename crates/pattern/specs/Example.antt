-- Ways in the record of eleven places, as the checker computes them. 1 is run, 2 bag, 3 ash, 4 dust, 5 salt.
use Rattle.std.specs.Prelude.{◌≡◌, ℕ, List, [], ◌∷◌, map, Some, None, Option, replicate}
use Rattle.std.specs.List.{range_with_len}
use Rattle.record.specs.Example.{eleven}
use Rattle.record.specs.declared.axis.Step.TheVariants.{Child, Descendant}
use Rattle.record.specs.declared.axis.Reach.TheVariants.{DescendantOrSelf}
use Rattle.record.specs.declared.axis.Axis.{Axis}
use Rattle.record.specs.declared.axis.Axis.TheVariants.{Along, Against, Wide}
use Rattle.pattern.specs.Questions.{ways}
use Rattle.pattern.specs.declared.base.Pattern.{Pattern}
use Rattle.pattern.specs.declared.row.Row.{Row}
use Rattle.pattern.specs.declared.row.Test.{Test}
use Rattle.pattern.specs.declared.row.Test.TheVariants.{Any, Star, Label, Root}

abbrev pub under : ℕ → Axis → Test → Option Row
under u x t = Some (record { up = u; axis = x; test = t })

-- row 0 is the root's
abbrev pub first : Option Row
first = under 0 (Along Child) Root

-- /descendant::dust/ancestor::node()
abbrev pub ancestors_of_dust : List (Option Row)
ancestors_of_dust =
    first ∷ under 0 (Along Descendant) (Label 4) ∷ under 1 (Against Descendant) Any ∷ replicate 13 None

-- /descendant::bag/descendant::node()/parent::bag
abbrev pub parents_in_bags : List (Option Row)
parents_in_bags =
    first ∷ under 0 (Along Descendant) (Label 2) ∷ under 1 (Along Descendant) Any ∷ under 2 (Against Child) (Label 2) ∷ replicate 12 None

-- /descendant-or-self::*
abbrev pub all_by_star : List (Option Row)
all_by_star = first ∷ under 0 (Wide DescendantOrSelf) Star ∷ replicate 14 None

-- the ways at each of the eleven places
abbrev pub HasWays : List (Option Row) → ℕ → List ℕ → Type 0
HasWays rows o numbers = (P : Pattern) → P.rows ≡ rows → P.output ≡ o → map (ways eleven P) (range_with_len 0 11) ≡ numbers

pub record WayExamples : Type 0 where
  -- three dust bands below the root and the first run, one in the first bag, two in the second
  pub ancestors : HasWays ancestors_of_dust 2 (3 ∷ 3 ∷ 1 ∷ 0 ∷ 0 ∷ 2 ∷ 0 ∷ 0 ∷ 0 ∷ 0 ∷ 0 ∷ [])
  -- a descendant's parent may be the starting place itself
  pub parents : HasWays parents_in_bags 3 (0 ∷ 0 ∷ 2 ∷ 0 ∷ 0 ∷ 3 ∷ 0 ∷ 0 ∷ 0 ∷ 0 ∷ 0 ∷ [])
  -- star does not hold at the root
  pub stars : HasWays all_by_star 1 (0 ∷ 1 ∷ 1 ∷ 1 ∷ 1 ∷ 1 ∷ 1 ∷ 1 ∷ 1 ∷ 1 ∷ 1 ∷ [])
