-- The words of the axes in questions.
use Rattle.std.specs.Prelude.{ℕ, List, codes}
use Rattle.record.specs.declared.axis.Step.{Step}
use Rattle.record.specs.declared.axis.Step.TheVariants.{Child, Descendant, Next, FollowingSibling}
use Rattle.record.specs.declared.axis.Reach.{Reach}
use Rattle.record.specs.declared.axis.Reach.TheVariants.{DescendantOrSelf, AncestorOrSelf, Following, Preceding}
use Rattle.record.specs.declared.axis.Axis.{Axis}
use Rattle.record.specs.declared.axis.Axis.TheVariants.{Along, Against, Itself, Wide}

-- along a step
abbrev pub step_word : Step → List ℕ
step_word Child = codes "child"
step_word Descendant = codes "descendant"
step_word Next = codes "next"
step_word FollowingSibling = codes "following-sibling"

-- against a step
abbrev pub back_word : Step → List ℕ
back_word Child = codes "parent"
back_word Descendant = codes "ancestor"
back_word Next = codes "previous"
back_word FollowingSibling = codes "preceding-sibling"

abbrev pub reach_word : Reach → List ℕ
reach_word DescendantOrSelf = codes "descendant-or-self"
reach_word AncestorOrSelf = codes "ancestor-or-self"
reach_word Following = codes "following"
reach_word Preceding = codes "preceding"

abbrev pub word_of : Axis → List ℕ
word_of (Along s) = step_word s
word_of (Against s) = back_word s
word_of Itself = codes "self"
word_of (Wide x) = reach_word x
