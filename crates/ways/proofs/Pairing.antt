-- A place follows another over one pair of siblings, as an equation of sums.
use Rattle.std.proofs.Common.{◌≡◌, ℕ, suc, ◌<◌, ◌≤◌, Bool, ◌&&◌, Decides, sym, ◌∙◌, inl, inr, arith}
use Rattle.std.proofs.lemmas.Bool.{cases_Bool, and_parts, and_from, both_ways}
use Rattle.record.specs.Axes.{or_self, following, following_sibling}
use Rattle.record.proofs.Pairs.{Way, way_later, way_unique, way_from_pair, pair_from_way, way_from_following, following_from_way}
use Rattle.tally.specs.Semirings.{Semiring, bracket, sum}
use Rattle.tally.proofs.Sums.{sum_cong, sum_nought, only, bracket_on, bracket_off}

-- up from p to x, aside to y, down to q
unfoldable pub opens : (ℕ → ℕ) → ℕ → ℕ → ℕ → ℕ → Bool
opens D p q x y = or_self D x p && (following_sibling D x y && or_self D y q)

module _ {T : Type 0} (S : Semiring T) (D : ℕ → ℕ) (root : D 0 ≡ 0) (steps : (i : ℕ) → D (suc i) ≤ suc (D i)) (n : ℕ) (others : (i : ℕ) → 0 < i → i < n → 1 ≤ D i) where
  opens_decides : (p q x y : ℕ) → Decides (opens D p q x y) (Way D p q x y)
  unfolding opens
  opens_decides p q x y = (
    λ e. let (a, b) = and_parts _ _ e in let (c, d) = and_parts _ _ b in
        way_from_pair D root steps p q x y (record { above = a; beside = c; below = d }),
    λ v. let u = pair_from_way D root steps p q x y v in and_from _ _ u.above (and_from _ _ u.beside u.below),
  )

  -- nothing where there is no such pair
  nil : (p q x y : ℕ) → (Way D p q x y → ⊥) → bracket S (opens D p q x y) ≡ S.nought
  nil p q x y h = elim (cases_Bool (opens D p q x y)) [
    | inl t ↦ absurd (h ((opens_decides p q x y).0 t))
    | inr f ↦ bracket_off S _ f
  ]

  no_way : (p q : ℕ) → ((x y : ℕ) → Way D p q x y → ⊥) → sum S n (λ x. sum S n (λ y. bracket S (opens D p q x y))) ≡ S.nought
  no_way p q h = sum_cong S n _ (λ _. S.nought) (λ x _. sum_cong S n _ (λ _. S.nought) (λ y _. nil p q x y (h x y)) ∙ sum_nought S n) ∙ sum_nought S n

  one_way : (p q x y : ℕ) → Way D p q x y → x < n → y < n → sum S n (λ x. sum S n (λ y. bracket S (opens D p q x y))) ≡ S.one
  one_way p q x y v h l =
      only S n x _ h (λ u _ k. sum_cong S n _ (λ _. S.nought) (λ z _. nil p q u z (λ w. k (way_unique D p q u z x y w v).0)) ∙ sum_nought S n)
      ∙ only S n y _ l (λ z _ k. nil p q x z (λ w. k (way_unique D p q x z x y w v).1))
      ∙ bracket_on S _ ((opens_decides p q x y).1 v)

  pub one_pair : (p q : ℕ) → q < n → bracket S (following D p q) ≡ sum S n (λ x. sum S n (λ y. bracket S (opens D p q x y)))
  one_pair p q l = elim (cases_Bool (following D p q)) [
    | inl t ↦
        let (x, y, v) = way_from_following D root steps n others p q l t in
        let k = way_later D p q x y v in
        bracket_on S _ t ∙ sym (one_way p q x y v (omega (arith, v.side.before)) (omega arith))
    | inr f ↦ bracket_off S _ f ∙ sym (no_way p q (λ x y v. both_ways _ f (following_from_way D root steps p q x y v)))
  ]
