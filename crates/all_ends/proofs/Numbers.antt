-- The highest number in use.
use Rattle.std.proofs.Common.{◌≡◌, ℕ, zero, suc, ◌+◌, ◌<◌, ◌≤◌, true, false, ◌⊎◌, List, None, Option, slice_index_or, sym, ◌∙◌, refl, subst, inl, inr, arith}
use Rattle.std.specs.Prelude.{is_some}
use Rattle.std.proofs.lemmas.Bool.{cases_Bool, cases_eq, cases_lt, both_ways}
use Rattle.pattern.specs.Rows.{Seat, seats, row}
use Rattle.pattern.specs.declared.row.Row.{Row}
use Rattle.pattern.proofs.Lookups.{used_at}
use Rattle.all_ends.specs.Ends.{highest, next_number}

module _ (rs : List Seat) where
  at_used : (k : ℕ) → (row rs (suc k)).used ≡ true → highest rs (suc k) ≡ suc k
  unfolding highest
  at_used k u = rw u refl

  at_free : (k : ℕ) → (row rs (suc k)).used ≡ false → highest rs (suc k) ≡ highest rs k
  unfolding highest
  at_free k u = rw u refl

  -- every number above it is free
  pub highest_le : (k : ℕ) → highest rs k ≤ k
  unfolding highest
  highest_le zero = omega arith
  highest_le (suc k) = let h = highest_le k in elim (cases_Bool (row rs (suc k)).used) [ inl u ↦ rw u (omega arith) | inr u ↦ rw u (omega arith) ]

  pub above_free : (k i : ℕ) → i ≤ k → highest rs k < i → (row rs i).used ≡ false
  above_free zero i a b = absurd (omega arith)
  above_free (suc k) i a b = elim (cases_Bool (row rs (suc k)).used) [
    | inl u ↦ absurd (let e = at_used k u in omega arith)
    | inr u ↦ let e = at_free k u in elim (cases_eq i (suc k)) [
      | inl q ↦ subst (λ j. (row rs j).used ≡ false) (sym q) u
      | inr q ↦ above_free k i (omega arith) (omega arith)
    ]
  ]

  pub used_below : (k i : ℕ) → i ≤ k → (row rs i).used ≡ true → i ≤ highest rs k
  used_below k i a u = elim (cases_lt (highest rs k) i) [
    | inl l ↦ absurd (both_ways _ (above_free k i a l) u)
    | inr l ↦ l
  ]

  -- it is in use, or there is none
  pub highest_is : (k : ℕ) → (highest rs k ≡ 0) ⊎ ((row rs (highest rs k)).used ≡ true)
  highest_is zero = inl (unfold highest in refl)
  highest_is (suc k) = elim (cases_Bool (row rs (suc k)).used) [
    | inl u ↦ inr (subst (λ i. (row rs i).used ≡ true) (sym (at_used k u)) u)
    | inr u ↦ subst (λ i. (i ≡ 0) ⊎ ((row rs i).used ≡ true)) (sym (at_free k u)) (highest_is k)
  ]

  pub highest_bound : (k B : ℕ) → ((i : ℕ) → i ≤ k → (row rs i).used ≡ true → i ≤ B) → highest rs k ≤ B
  highest_bound k B h = elim (highest_is k) [ inl e ↦ omega arith | inr u ↦ h (highest rs k) (highest_le k) u ]

-- the last row in use tells it, and that there is none
module _ (rows : List (Option Row)) where
  used : (i : ℕ) → (row (seats rows) i).used ≡ is_some (slice_index_or rows i None)
  used i = used_at rows i (slice_index_or rows i None) refl

  pub next_after : (i : ℕ) → i < 16 → is_some (slice_index_or rows i None) ≡ true → ((k : ℕ) → i < k → k < 16 → is_some (slice_index_or rows k None) ≡ false) → i + 1 ≡ next_number (seats rows)
  unfolding next_number
  next_after i l u h =
      let low = used_below (seats rows) 15 i (omega arith) (used i ∙ u) in
      let high = highest_bound (seats rows) 15 i (λ k m v. elim (cases_lt i k) [ inl n ↦ absurd (both_ways _ (h k n (omega arith)) (sym (used k) ∙ v)) | inr n ↦ n ]) in
      omega arith

  pub next_first : ((k : ℕ) → k < 16 → is_some (slice_index_or rows k None) ≡ false) → 1 ≡ next_number (seats rows)
  unfolding next_number
  next_first h = let high = highest_bound (seats rows) 15 0 (λ k m v. absurd (both_ways _ (h k (omega arith)) (sym (used k) ∙ v))) in omega arith
