-- The axes between the places of a record. D i is the depth of place i, and that is all that an axis depends on.
use Rattle.std.specs.Prelude.{ℕ, zero, suc, Bool, true, false, cond, not, ◌&&◌, ◌||◌, Some, None, Option, ◌==◌, nat_lt}
use Rattle.record.specs.declared.axis.Step.{Step}
use Rattle.record.specs.declared.axis.Step.TheVariants.{Child, Descendant, Next, FollowingSibling}
use Rattle.record.specs.declared.axis.Reach.{Reach}
use Rattle.record.specs.declared.axis.Reach.TheVariants.{DescendantOrSelf, AncestorOrSelf, Following, Preceding}
use Rattle.record.specs.declared.axis.Axis.{Axis}
use Rattle.record.specs.declared.axis.Axis.TheVariants.{Along, Against, Itself, Wide}

-- the last place before k whose depth is one less than m
unfoldable pub last_before : (ℕ → ℕ) → ℕ → ℕ → Option ℕ
last_before D zero m = None
last_before D (suc k) m = cond (suc (D k) == m) (Some k) (last_before D k m)

-- the parent of q: the last earlier place whose depth is one less
unfoldable pub parent_of : (ℕ → ℕ) → ℕ → Option ℕ
parent_of D q = last_before D q (D q)

unfoldable pub is_place : Option ℕ → ℕ → Bool
is_place None p = false
is_place (Some r) p = r == p

-- child: q's parent is p
unfoldable pub child : (ℕ → ℕ) → ℕ → ℕ → Bool
child D p q = is_place (parent_of D q) p

-- at most `fuel` times from a place to its parent, beginning at q, lead to p
unfoldable pub under : (ℕ → ℕ) → ℕ → ℕ → ℕ → Bool
under D zero p q = false
under D (suc fuel) p q = elim (parent_of D q) [ None ↦ false | Some r ↦ (r == p) || under D fuel p r ]

-- descendant: p is the parent of q, or the parent of that, and so on
unfoldable pub descendant : (ℕ → ℕ) → ℕ → ℕ → Bool
descendant D p q = under D q p q

unfoldable pub same_place : Option ℕ → Option ℕ → Bool
same_place None s = false
same_place (Some r) s = is_place s r

-- following-sibling: q is later and has the same parent
unfoldable pub following_sibling : (ℕ → ℕ) → ℕ → ℕ → Bool
following_sibling D p q = nat_lt p q && same_place (parent_of D p) (parent_of D q)

-- f holds of some number below k
unfoldable pub some_below : ℕ → (ℕ → Bool) → Bool
some_below zero f = false
some_below (suc k) f = f k || some_below k f

-- next: q is the first of the following siblings of p
unfoldable pub next : (ℕ → ℕ) → ℕ → ℕ → Bool
next D p q = following_sibling D p q && not (some_below q (λ x. following_sibling D p x))

-- descendant-or-self
unfoldable pub or_self : (ℕ → ℕ) → ℕ → ℕ → Bool
or_self D p q = p == q || descendant D p q

-- following: q is later and no descendant
unfoldable pub following : (ℕ → ℕ) → ℕ → ℕ → Bool
following D p q = nat_lt p q && not (descendant D p q)

-- the step leads from p to q
unfoldable pub leads : (ℕ → ℕ) → Step → ℕ → ℕ → Bool
leads D Child p q = child D p q
leads D Descendant p q = descendant D p q
leads D Next p q = next D p q
leads D FollowingSibling p q = following_sibling D p q

unfoldable pub reaches : (ℕ → ℕ) → Reach → ℕ → ℕ → Bool
reaches D DescendantOrSelf p q = or_self D p q
reaches D AncestorOrSelf p q = or_self D q p
reaches D Following p q = following D p q
reaches D Preceding p q = following D q p

-- the axis leads from p to q
unfoldable pub holds : (ℕ → ℕ) → Axis → ℕ → ℕ → Bool
holds D (Along s) p q = leads D s p q
holds D (Against s) p q = leads D s q p
holds D Itself p q = p == q
holds D (Wide x) p q = reaches D x p q

-- the axis that leads back
abbrev pub inverse_reach : Reach → Reach
inverse_reach DescendantOrSelf = AncestorOrSelf
inverse_reach AncestorOrSelf = DescendantOrSelf
inverse_reach Following = Preceding
inverse_reach Preceding = Following

abbrev pub inverse_of : Axis → Axis
inverse_of (Along s) = Against s
inverse_of (Against s) = Along s
inverse_of Itself = Itself
inverse_of (Wide x) = Wide (inverse_reach x)

-- the axis leads to no earlier place
abbrev pub forward_reach : Reach → Bool
forward_reach DescendantOrSelf = true
forward_reach AncestorOrSelf = false
forward_reach Following = true
forward_reach Preceding = false

abbrev pub is_forward : Axis → Bool
is_forward (Along s) = true
is_forward (Against s) = false
is_forward Itself = true
is_forward (Wide x) = forward_reach x
