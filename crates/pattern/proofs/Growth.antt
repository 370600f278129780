-- A record that begins with another has its ways too.
use Rattle.std.proofs.Common.{◌≡◌, ℕ, zero, suc, ◌+◌, ◌<◌, ◌≤◌, List, [], ◌∷◌, ◌++◌, length, refl, ap, ◌∙◌, subst, ap₂, inl, inr, arith}
use Rattle.std.proofs.lemmas.List.{get_or_append_left, length-append}
use Rattle.std.proofs.lemmas.Bool.{cases_eq}
use Rattle.record.specs.Axes.{holds}
use Rattle.record.specs.Records.{root, depth_at}
use Rattle.record.specs.declared.place.Place.{Place}
use Rattle.record.proofs.Prefixes.{holds_same}
use Rattle.tally.specs.Semirings.{Semiring, bracket, sum, product}
use Rattle.tally.specs.Tallies.{naturals}
use Rattle.pattern.specs.Laws.{PrefixesKeepTheValue, MorePlacesLoseNoWay}
use Rattle.pattern.specs.Questions.{label_at, pattern_of, test_gain, value_within, value_at, ways}
use Rattle.pattern.specs.Rows.{seats, row}
use Rattle.pattern.specs.Tests.{passes}
use Rattle.ways.specs.Ways.{upd, Weighted, all_rows, link, is_way, sum_rows, gains, value, weighted, held}
use Rattle.pattern.specs.declared.base.Pattern.{Pattern}
use Rattle.pattern.specs.declared.row.Test.{Test}
use Rattle.pattern.specs.declared.row.Test.TheVariants.{Any, Star, Label, Root}
use Rattle.ways.proofs.RowLists.{all_cong, product_cong}
use Rattle.ways.proofs.RowSums.{upd_same, upd_other, upd_carries, sum_rows_cong}

-- sums of natural numbers grow with their terms and with the places
pub sum_grows : (n m : ℕ) (f g : ℕ → ℕ) → n ≤ m → ((p : ℕ) → p < n → f p ≤ g p) → sum naturals n f ≤ sum naturals m g
unfolding sum naturals
sum_grows zero m f g h k = omega arith
sum_grows (suc n) zero f g h k = absurd (omega arith)
sum_grows (suc n) (suc m) f g h k = elim (cases_eq n m) [
  | inl e ↦ subst (λ x. sum naturals n f + f n ≤ sum naturals x g + g x) e (omega (arith, sum_grows n n f g (omega arith) (λ p l. k p (omega arith)), k n (omega arith)))
  | inr d ↦ omega (arith, sum_grows (suc n) m f g (omega arith) k)
]

within : (n : ℕ) (a : ℕ → ℕ) (r p : ℕ) → ((s : ℕ) → a s < n) → p < n → (s : ℕ) → upd a r p s < n
within n a r p h l s = elim (cases_eq s r) [ inl k ↦ rw (k, upd_same a r p) l | inr k ↦ rw (upd_other a r p s k) (h s) ]

pub rows_grow : (n m : ℕ) (rs : List ℕ) (F G : (ℕ → ℕ) → ℕ) → n ≤ m → ((a : ℕ → ℕ) → ((r : ℕ) → a r < n) → F a ≤ G a) →
    (a : ℕ → ℕ) → ((r : ℕ) → a r < n) → sum_rows naturals n rs F a ≤ sum_rows naturals m rs G a
unfolding sum_rows
rows_grow n m [] F G h k a l = k a l
rows_grow n m (r ∷ rs) F G h k a l = sum_grows n m _ _ h (λ p i. rows_grow n m rs F G h k (upd a r p) (within n a r p l i))

-- the value depends only on the first n places
module _ {T : Type 0} (S : Semiring T) (D E : ℕ → ℕ) (n : ℕ) (some_place : 0 < n) (same : (i : ℕ) → i < n → D i ≡ E i) (P Q : Weighted T)
    (rows : P.rows ≡ Q.rows) (up : P.up ≡ Q.up) (axis : P.axis ≡ Q.axis) (gain : (r p : ℕ) → p < n → P.gain r p ≡ Q.gain r p) where
  term_same : (a : ℕ → ℕ) → ((r : ℕ) → a r < n) → S.times (bracket S (is_way D P a)) (gains S P a) ≡ S.times (bracket S (is_way E Q a)) (gains S Q a)
  unfolding is_way link gains
  term_same a h =
      ap₂ (λ b g. S.times (bracket S b) g)
      (all_cong P.rows _ (link E Q a) (λ r _. holds_same D E n same (P.axis r) _ _ (h _) (h _) ∙ ap₂ (λ u x. holds E x (a u) (a r)) (ap (λ f. f r) up) (ap (λ f. f r) axis)) ∙ ap (λ rs. all_rows rs (link E Q a)) rows)
      (product_cong S (0 ∷ P.rows) _ (λ r. Q.gain r (a r)) (λ r _. gain r (a r) (h r)) ∙ ap (λ rs. product S (0 ∷ rs) (λ r. Q.gain r (a r))) rows)

  pub value_same : value S D n P ≡ value S E n Q
  unfolding value
  value_same =
      sum_rows_cong S n P.rows _ _ term_same (λ _. 0) (λ _. some_place)
      ∙ ap (λ rs. sum_rows S n rs (λ a. S.times (bracket S (is_way E Q a)) (gains S Q a)) (λ _. 0)) rows

-- tests look only at the place
pub passes_same : (lab lab' : ℕ → ℕ) (t : Test) (p : ℕ) → lab p ≡ lab' p → passes lab t p ≡ passes lab' t p
passes_same lab lab' Any p e = refl
passes_same lab lab' Star p e = refl
passes_same lab lab' (Label n) p e = rw e refl
passes_same lab lab' Root p e = refl

front_depth : (places more : List Place) (i : ℕ) → i < length places → depth_at (places ++ more) i ≡ depth_at places i
front_depth places more i h = ap (λ (x : Place). x.depth) (get_or_append_left places more root i h)

front_label : (places more : List Place) (i : ℕ) → i < length places → label_at (places ++ more) i ≡ label_at places i
front_label places more i h = ap (λ (x : Place). x.label) (get_or_append_left places more root i h)

module _ {T : Type 0} (S : Semiring T) where
  held_gain : (places more : List Place) (P : Pattern) (p r q : ℕ) → q < length places →
      (held S (pattern_of (test_gain S (label_at (places ++ more))) (seats P.rows)) P.output p).gain r q ≡ (held S (pattern_of (test_gain S (label_at places)) (seats P.rows)) P.output p).gain r q
  unfolding held weighted pattern_of test_gain
  held_gain places more P p r q h =
      upd_carries (λ (x : T). x) _ _ P.output _ _ r q (same_test r) (ap (S.times _) (same_test P.output))
    where
      same_test : (r : ℕ) → bracket S (passes (label_at (places ++ more)) (row (seats P.rows) r).test q) ≡ bracket S (passes (label_at places) (row (seats P.rows) r).test q)
      same_test r = ap (bracket S) (passes_same _ _ (row (seats P.rows) r).test q (front_label places more q h))

pub prefixes_keep_the_value : {T : Type 0} (S : Semiring T) → PrefixesKeepTheValue S
unfolding value_within value_at
prefixes_keep_the_value S places more rec P p =
    value_same S (depth_at (places ++ more)) (depth_at places) (length places) rec.some_place (front_depth places more) _ _
    (unfold held weighted pattern_of in refl) (unfold held weighted pattern_of in refl) (unfold held weighted pattern_of in refl) (held_gain S places more P p)

pub more_places_lose_no_way : MorePlacesLoseNoWay
unfolding ways value_at value_within value
more_places_lose_no_way places more rec P p =
    subst (λ x. x ≤ ways (places ++ more) P p) (prefixes_keep_the_value naturals places more rec P p)
    (rows_grow (length places) (length (places ++ more)) _ _ _ (omega (arith, length-append places more)) (λ a h. omega arith) (λ _. 0) (λ r. rec.some_place))
