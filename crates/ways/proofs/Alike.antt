-- What a pattern comes to is read off its rows in use and row 0; what else the functions say counts for nothing.
use Rattle.std.proofs.Common.{◌≡◌, ℕ, ◌<◌, ◌∷◌, sym, ap, ◌∙◌, subst, ap₂, inl, inr}
use Rattle.std.proofs.lemmas.Bool.{cases_eq}
use Rattle.record.specs.Axes.{holds}
use Rattle.tally.specs.Semirings.{Semiring, bracket, product}
use Rattle.ways.specs.Ways.{upd, In, Apart, Weighted, Tree, all_rows, sum_rows, link, is_way, gains, value, weighted}
use Rattle.ways.proofs.RowLists.{all_cong, product_cong}
use Rattle.ways.proofs.RowSums.{upd_same, upd_other, sum_rows_cong}

pub record Alike {T : Type 0} (P Q : Weighted T) : Type 0 where
  pub rows : P.rows ≡ Q.rows
  pub up : (r : ℕ) → In r P.rows → P.up r ≡ Q.up r
  pub axis : (r : ℕ) → In r P.rows → P.axis r ≡ Q.axis r
  pub gain : (r : ℕ) → In r (0 ∷ P.rows) → P.gain r ≡ Q.gain r

pub same_alike : {T : Type 0} (P Q : Weighted T) → P ≡ Q → Alike P Q
same_alike P Q e = record { rows = ap (λ X. X.rows) e; up = λ r i. ap (λ X. X.up r) e; axis = λ r i. ap (λ X. X.axis r) e; gain = λ r i. ap (λ X. X.gain r) e }

module _ {T : Type 0} (S : Semiring T) (D : ℕ → ℕ) (n : ℕ) (some_place : 0 < n) (P Q : Weighted T) (h : Alike P Q) where
  linked : (a : ℕ → ℕ) (r : ℕ) → In r P.rows → link D P a r ≡ link D Q a r
  unfolding link
  linked a r i = ap₂ (λ x u. holds D x (a u) (a r)) (h.axis r i) (h.up r i)

  same_way : (a : ℕ → ℕ) → is_way D P a ≡ is_way D Q a
  unfolding is_way
  same_way a = all_cong P.rows (link D P a) (link D Q a) (linked a) ∙ ap (λ l. all_rows l (link D Q a)) h.rows

  same_gains : (a : ℕ → ℕ) → gains S P a ≡ gains S Q a
  unfolding gains
  same_gains a =
      product_cong S (0 ∷ P.rows) (λ r. P.gain r (a r)) (λ r. Q.gain r (a r)) (λ r i. ap (λ f. f (a r)) (h.gain r i))
      ∙ ap (λ l. product S (0 ∷ l) (λ r. Q.gain r (a r))) h.rows

  pub value_alike : value S D n P ≡ value S D n Q
  unfolding value
  value_alike =
      sum_rows_cong S n P.rows (λ a. S.times (bracket S (is_way D P a)) (gains S P a)) (λ a. S.times (bracket S (is_way D Q a)) (gains S Q a))
      (λ a _. ap₂ (λ b g. S.times (bracket S b) g) (same_way a) (same_gains a)) (λ _. 0) (λ _. some_place)
      ∙ ap (λ l. sum_rows S n l (λ a. S.times (bracket S (is_way D Q a)) (gains S Q a)) (λ _. 0)) h.rows

-- a factor at a row in use, or at row 0
pub weighted_alike : {T : Type 0} (S : Semiring T) (P Q : Weighted T) (o : ℕ) (v : ℕ → T) → Alike P Q → Alike (weighted S P o v) (weighted S Q o v)
unfolding weighted
weighted_alike S P Q o v h = record {
  rows = h.rows;
  up = h.up;
  axis = h.axis;
  gain = λ r i. elim (cases_eq r o) [
    | inl e ↦ subst (λ x. upd P.gain o (λ q. S.times (v q) (P.gain o q)) x ≡ upd Q.gain o (λ q. S.times (v q) (Q.gain o q)) x) (sym e)
        (upd_same P.gain o _ ∙ ap (λ g. λ q. S.times (v q) (g q)) (h.gain o (subst (λ x. In x (0 ∷ P.rows)) e i)) ∙ sym (upd_same Q.gain o _))
    | inr k ↦ upd_other P.gain o _ r k ∙ h.gain r i ∙ sym (upd_other Q.gain o _ r k)
  ];
}

-- and it is as much of a tree
pub tree_alike : {T : Type 0} (P Q : Weighted T) (rank : ℕ → ℕ) → Alike P Q → Tree Q rank → Tree P rank
tree_alike P Q rank h t = record {
  apart = subst (λ l. Apart l) (sym h.rows) t.apart;
  no_root = λ i. t.no_root (subst (In 0) h.rows i);
  ups = λ r i. subst (λ u. In u (0 ∷ P.rows)) (sym (h.up r i)) (subst (λ l. In (Q.up r) (0 ∷ l)) (sym h.rows) (t.ups r (subst (In r) h.rows i)));
  ranks = λ r i. subst (λ u. rank u < rank r) (sym (h.up r i)) (t.ranks r (subst (In r) h.rows i));
}
