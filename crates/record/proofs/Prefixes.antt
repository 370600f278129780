-- An axis between two places is the same in every record that agrees up to them.
use Rattle.std.proofs.Common.{◌≡◌, ℕ, zero, suc, ◌<◌, ◌≤◌, Bool, false, cond, not, ◌&&◌, ◌||◌, eqb, ltb, Some, None, Option, refl, ap, ◌∙◌, subst, ap₂, arith}
use Rattle.record.specs.Axes.{last_before, parent_of, is_place, child, under, descendant, same_place, following_sibling, some_below, next, or_self, following, leads, reaches, holds}
use Rattle.record.specs.declared.axis.Step.{Step}
use Rattle.record.specs.declared.axis.Step.TheVariants.{Child, Descendant, Next, FollowingSibling}
use Rattle.record.specs.declared.axis.Reach.{Reach}
use Rattle.record.specs.declared.axis.Reach.TheVariants.{DescendantOrSelf, AncestorOrSelf, Following, Preceding}
use Rattle.record.specs.declared.axis.Axis.{Axis}
use Rattle.record.specs.declared.axis.Axis.TheVariants.{Along, Against, Itself, Wide}
use Rattle.record.proofs.Intervals.{LastView, last_view}

module _ (D E : ℕ → ℕ) (n : ℕ) (same : (i : ℕ) → i < n → D i ≡ E i) where
  last_before_same : (k m : ℕ) → k ≤ n → last_before D k m ≡ last_before E k m
  unfolding last_before
  last_before_same zero m h = refl
  last_before_same (suc k) m h = ap₂ (λ x o. cond (eqb (suc x) m) (Some k) o) (same k (omega arith)) (last_before_same k m (omega arith))

  parent_same : (q : ℕ) → q < n → parent_of D q ≡ parent_of E q
  unfolding parent_of
  parent_same q h = ap (last_before D q) (same q h) ∙ last_before_same q (E q) (omega arith)

  child_same : (p q : ℕ) → q < n → child D p q ≡ child E p q
  unfolding child
  child_same p q h = ap (λ o. is_place o p) (parent_same q h)

  parent_earlier : (q r : ℕ) → parent_of D q ≡ Some r → r < q
  unfolding parent_of
  parent_earlier q r e = (subst (λ o. LastView D q (D q) o) e (last_view D q (D q))).0

  under_same : (fuel p q : ℕ) → q < n → under D fuel p q ≡ under E fuel p q
  unfolding under
  under_same zero p q h = refl
  under_same (suc fuel) p q h =
      go (parent_of D q) (parent_of E q) (parent_same q h) (λ r e. under_same fuel p r (omega (arith, parent_earlier q r e)))
    where
      go : (o u : Option ℕ) → o ≡ u → ((r : ℕ) → o ≡ Some r → under D fuel p r ≡ under E fuel p r) →
          ◌≡◌ {A = Bool} (elim o [ None ↦ false | Some r ↦ eqb r p || under D fuel p r ]) (elim u [ None ↦ false | Some r ↦ eqb r p || under E fuel p r ])
      go None None e k = refl
      go None (Some r) e k = let z : ◌≡◌ {A = ℕ} 0 1 = cc in absurd (omega arith)
      go (Some r) None e k = let z : ◌≡◌ {A = ℕ} 0 1 = cc in absurd (omega arith)
      go (Some r) (Some s) e k = let i : r ≡ s = cc in rw (← i) (ap (λ b. eqb r p || b) (k r refl))

  descendant_same : (p q : ℕ) → q < n → descendant D p q ≡ descendant E p q
  unfolding descendant
  descendant_same p q h = under_same q p q h

  sibling_same : (p q : ℕ) → p < n → q < n → following_sibling D p q ≡ following_sibling E p q
  unfolding following_sibling
  sibling_same p q k h = ap₂ (λ a b. ltb p q && same_place a b) (parent_same p k) (parent_same q h)

  some_same : (k : ℕ) (f g : ℕ → Bool) → ((x : ℕ) → x < k → f x ≡ g x) → some_below k f ≡ some_below k g
  unfolding some_below
  some_same zero f g e = refl
  some_same (suc k) f g e = ap₂ ◌||◌ (e k (omega arith)) (some_same k f g (λ x l. e x (omega arith)))

  next_same : (p q : ℕ) → p < n → q < n → next D p q ≡ next E p q
  unfolding next
  next_same p q k h = ap₂ (λ a b. a && not b) (sibling_same p q k h) (some_same q _ _ (λ x l. sibling_same p x k (omega arith)))

  leads_same : (s : Step) (p q : ℕ) → p < n → q < n → leads D s p q ≡ leads E s p q
  unfolding leads
  leads_same Child p q k h = child_same p q h
  leads_same Descendant p q k h = descendant_same p q h
  leads_same Next p q k h = next_same p q k h
  leads_same FollowingSibling p q k h = sibling_same p q k h

  or_self_same : (p q : ℕ) → q < n → or_self D p q ≡ or_self E p q
  unfolding or_self
  or_self_same p q h = ap (λ b. eqb p q || b) (descendant_same p q h)

  following_same : (p q : ℕ) → q < n → following D p q ≡ following E p q
  unfolding following
  following_same p q h = ap (λ b. ltb p q && not b) (descendant_same p q h)

  reaches_same : (x : Reach) (p q : ℕ) → p < n → q < n → reaches D x p q ≡ reaches E x p q
  unfolding reaches
  reaches_same DescendantOrSelf p q k h = or_self_same p q h
  reaches_same AncestorOrSelf p q k h = or_self_same q p k
  reaches_same Following p q k h = following_same p q h
  reaches_same Preceding p q k h = following_same q p k

  pub holds_same : (x : Axis) (p q : ℕ) → p < n → q < n → holds D x p q ≡ holds E x p q
  unfolding holds
  holds_same (Along s) p q k h = leads_same s p q k h
  holds_same (Against s) p q k h = leads_same s q p h k
  holds_same Itself p q k h = refl
  holds_same (Wide x) p q k h = reaches_same x p q k h
