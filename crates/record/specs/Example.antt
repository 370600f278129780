-- A record of eleven places, and what each axis finds in it. The checker computes it.
use Rattle.std.specs.Prelude.{◌≡◌, ℕ, List, [], ◌∷◌, length, filter}
use Rattle.std.specs.List.{range_with_len}
use Rattle.record.specs.Axes.{holds}
use Rattle.record.specs.Records.{root, depth_at}
use Rattle.record.specs.declared.axis.Step.TheVariants.{Child, Descendant, Next, FollowingSibling}
use Rattle.record.specs.declared.axis.Reach.TheVariants.{DescendantOrSelf, AncestorOrSelf, Following, Preceding}
use Rattle.record.specs.declared.axis.Axis.{Axis}
use Rattle.record.specs.declared.axis.Axis.TheVariants.{Along, Against, Itself, Wide}
use Rattle.record.specs.declared.place.Place.{Place}

abbrev pub at : ℕ → ℕ → ℕ → Place
at name d s = record { label = name; stamp = s; depth = d }

-- 1 is run, 2 bag, 3 ash, 4 dust, 5 salt
abbrev pub eleven : List Place
eleven =
    root ∷ at 1 1 0 ∷ at 2 2 0 ∷ at 3 3 4 ∷ at 4 3 9 ∷ at 2 2 550 ∷ at 4 3 553 ∷ at 3 3 561 ∷ at 4 3 570 ∷ at 1 1 1100 ∷ at 5 2 1102 ∷ []

-- the places to which an axis leads from p, in their order
abbrev pub targets : List Place → Axis → ℕ → List ℕ
targets places a p = filter (holds (depth_at places) a p) (range_with_len 0 (length places))

-- place 7 is the ash in the second bag: it lies in 0, 1 and 5
pub record AxisExamples : Type 0 where
  pub child : targets eleven (Along Child) 1 ≡ 2 ∷ 5 ∷ []
  pub descendant : targets eleven (Along Descendant) 1 ≡ 2 ∷ 3 ∷ 4 ∷ 5 ∷ 6 ∷ 7 ∷ 8 ∷ []
  pub next : targets eleven (Along Next) 2 ≡ 5 ∷ []
  pub following_sibling : targets eleven (Along FollowingSibling) 6 ≡ 7 ∷ 8 ∷ []
  pub following : targets eleven (Wide Following) 7 ≡ 8 ∷ 9 ∷ 10 ∷ []
  pub parent : targets eleven (Against Child) 7 ≡ 5 ∷ []
  pub ancestor : targets eleven (Against Descendant) 7 ≡ 0 ∷ 1 ∷ 5 ∷ []
  pub previous : targets eleven (Against Next) 8 ≡ 7 ∷ []
  pub preceding_sibling : targets eleven (Against FollowingSibling) 8 ≡ 6 ∷ 7 ∷ []
  -- no ancestor precedes
  pub preceding : targets eleven (Wide Preceding) 7 ≡ 2 ∷ 3 ∷ 4 ∷ 6 ∷ []
  pub self : targets eleven Itself 7 ≡ 7 ∷ []
  pub descendant_or_self : targets eleven (Wide DescendantOrSelf) 5 ≡ 5 ∷ 6 ∷ 7 ∷ 8 ∷ []
  pub ancestor_or_self : targets eleven (Wide AncestorOrSelf) 7 ≡ 0 ∷ 1 ∷ 5 ∷ 7 ∷ []
  -- nothing stands beside the root, and nothing around it
  pub no_next : targets eleven (Along Next) 0 ≡ []
  pub no_parent : targets eleven (Against Child) 0 ≡ []
