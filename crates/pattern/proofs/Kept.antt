-- The value of a pattern in an array of rows, with a factor v at the output, when a row by self is merged.
use Rattle.std.proofs.Common.{◌≡◌, ℕ, ◌<◌, ◌≤◌, true, cond, eqb, ◌≢◌, List, length, None, sym, ap, ◌∙◌, subst, ap₂, inl, inr, arith}
use Rattle.std.proofs.lemmas.Bool.{cases_eq}
use Rattle.record.specs.declared.axis.Axis.TheVariants.{Itself}
use Rattle.tally.specs.Semirings.{Semiring}
use Rattle.ways.specs.Merging.{Under, merged}
use Rattle.pattern.specs.Questions.{pattern_of, test_gain}
use Rattle.pattern.specs.Rows.{Seat, row, rooted, Merged}
use Rattle.pattern.specs.Tests.{joined}
use Rattle.ways.specs.Ways.{upd, Weighted, value, weighted}
use Rattle.ways.proofs.Alike.{value_alike, weighted_alike}
use Rattle.ways.proofs.Merges.{beside, merge_kept, tree_under, weighted_merged, merged_nought}
use Rattle.pattern.proofs.MergedRows.{merged_alike, tests_join, tests_apart}
use Rattle.ways.proofs.RowLists.{times_left_comm}
use Rattle.ways.proofs.RowSums.{upd_same, upd_other}
use Rattle.pattern.proofs.Trees.{in_rows, tree_of}

-- a factor leaves what is worth nothing so
pub weighted_apart : {T : Type 0} (S : Semiring T) (g : ℕ → ℕ → T) (o : ℕ) (v : ℕ → T) (W Z : ℕ) → W ≢ Z → (p : ℕ) → S.times (g W p) (g Z p) ≡ S.nought →
    S.times (upd g o (λ q. S.times (v q) (g o q)) W p) (upd g o (λ q. S.times (v q) (g o q)) Z p) ≡ S.nought
weighted_apart S g o v W Z k p e =
    let new = upd g o (λ q. S.times (v q) (g o q)) in
    elim (cases_eq W o) [
      | inl a ↦ ap₂ S.times (subst (λ x. new x p ≡ S.times (v p) (g x p)) (sym a) (ap (λ f. f p) (upd_same g o (λ q. S.times (v q) (g o q))))) (ap (λ f. f p) (upd_other g o (λ q. S.times (v q) (g o q)) Z (λ b. k (a ∙ sym b))))
          ∙ S.times_assoc _ _ _ ∙ ap (S.times (v p)) e ∙ S.times_nought (v p)
      | inr a ↦ ap (λ x. S.times x (new Z p)) (ap (λ f. f p) (upd_other g o (λ q. S.times (v q) (g o q)) W a)) ∙ elim (cases_eq Z o) [
        | inl b ↦ ap (S.times (g W p)) (subst (λ x. new x p ≡ S.times (v p) (g x p)) (sym b) (ap (λ f. f p) (upd_same g o (λ q. S.times (v q) (g o q)))))
            ∙ times_left_comm S _ _ _ ∙ ap (S.times (v p)) e ∙ S.times_nought (v p)
        | inr b ↦ ap (S.times (g W p)) (ap (λ f. f p) (upd_other g o (λ q. S.times (v q) (g o q)) Z b)) ∙ e
      ]
    ]

module _ {T : Type 0} (S : Semiring T) (D : ℕ → ℕ) (n : ℕ) (some_place : 0 < n) (lab : ℕ → ℕ) (rs : List Seat) (len : length rs ≡ 16) (ok : rooted rs ≡ true)
    (z : ℕ) (low : 1 ≤ z) (high : z < 16) (live : (row rs z).used ≡ true) where
  abbrev P : Weighted T
  P = pattern_of (test_gain S lab) rs

  under : Under P (row rs z).up z
  unfolding pattern_of
  under = tree_under P _ (tree_of (test_gain S lab) rs (omega arith) ok) z (in_rows (test_gain S lab) rs z low high live)

  pub under_weighted : (o : ℕ) (v : ℕ → T) → Under (weighted S P o v) (row rs z).up z
  unfolding weighted
  under_weighted o v = record { hung = record { apart = under.hung.apart; no_top = under.hung.no_top; ups = under.hung.ups }; within = under.within; up_Z = under.up_Z; W_Z = under.W_Z }

  -- merging in the array is merging of the pattern, and the factor goes with the row
  pub merged_kept : (rs' : List Seat) → Merged rs z rs' → (o : ℕ) (v : ℕ → T) →
      value S D n (merged S (weighted S P o v) (row rs z).up z) ≡ value S D n (weighted S (pattern_of (test_gain S lab) rs') (cond (eqb o z) (row rs z).up o) v)
  unfolding test_gain
  merged_kept rs' m o v =
      weighted_merged S D n some_place P (row rs z).up z (beside P _ z under) o v
      ∙ sym (value_alike S D n some_place _ _ (weighted_alike S (pattern_of (test_gain S lab) rs') (merged S P (row rs z).up z) (cond (eqb o z) (row rs z).up o) v (merged_alike S (test_gain S lab) (tests_join S lab) rs rs' z (row rs z).up low m)))

  -- where the two tests join to nothing it is worth nothing
  pub merged_dropped : joined (row rs (row rs z).up).test (row rs z).test ≡ None → (o : ℕ) (v : ℕ → T) → value S D n (merged S (weighted S P o v) (row rs z).up z) ≡ S.nought
  unfolding test_gain
  merged_dropped e o v =
      merged_nought S D n some_place (weighted S P o v) (row rs z).up z (beside (weighted S P o v) _ z (under_weighted o v))
      (unfold weighted pattern_of in λ p. weighted_apart S (λ r. test_gain S lab (row rs r).test) o v (row rs z).up z under.W_Z p (tests_apart S lab _ _ e p))

  -- a row by self may be merged
  pub self_kept : (row rs z).axis ≡ Itself → (o : ℕ) (v : ℕ → T) → value S D n (weighted S P o v) ≡ value S D n (merged S (weighted S P o v) (row rs z).up z)
  self_kept a o v = merge_kept S D n some_place (weighted S P o v) (row rs z).up z (under_weighted o v) (unfold weighted pattern_of in a)
