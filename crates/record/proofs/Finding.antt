-- Axes found by their words.
use Rattle.std.proofs.Common.{◌≡◌, ℕ, List, Some, refl, subst}
use Rattle.std.specs.List.{find}
use Rattle.std.specs.Str.{bytes_eq}
use Rattle.record.specs.Words.{word_of}
use Rattle.record.specs.declared.axis.Step.TheVariants.{Child, Descendant, Next, FollowingSibling}
use Rattle.record.specs.declared.axis.Reach.TheVariants.{DescendantOrSelf, AncestorOrSelf, Following, Preceding}
use Rattle.record.specs.declared.axis.Axis.{Axis}
use Rattle.record.specs.declared.axis.Axis.TheVariants.{Along, Against, Itself, Wide}
use Rattle.record.specs.declared.words.TheConstants.{AXES}

-- each axis is found by its word
by_word : (a : Axis) → find (λ x. bytes_eq (word_of x) (word_of a)) AXES ≡ Some a
by_word (Along Child) = refl
by_word (Along Descendant) = refl
by_word (Along Next) = refl
by_word (Along FollowingSibling) = refl
by_word (Against Child) = refl
by_word (Against Descendant) = refl
by_word (Against Next) = refl
by_word (Against FollowingSibling) = refl
by_word Itself = refl
by_word (Wide DescendantOrSelf) = refl
by_word (Wide AncestorOrSelf) = refl
by_word (Wide Following) = refl
by_word (Wide Preceding) = refl

pub found_by_word : (a : Axis) (w : List ℕ) → word_of a ≡ w → find (λ x. bytes_eq (word_of x) w) AXES ≡ Some a
found_by_word a w e = subst (λ (v : List ℕ). find (λ x. bytes_eq (word_of x) v) AXES ≡ Some a) e (by_word a)
