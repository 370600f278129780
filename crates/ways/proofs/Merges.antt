-- Merging a row that stands where its up-row does keeps the value.
use Rattle.std.proofs.Common.{◌≡◌, ℕ, ◌<◌, Bool, cond, ◌&&◌, eqb, ◌≢◌, ◌∷◌, sym, refl, ap, ◌∙◌, subst, ap₂, inl, inr, arith}
use Rattle.std.proofs.lemmas.Bool.{cases_eq, eq-eqb, ne_eqb}
use Rattle.std.proofs.lemmas.Bool.Decides.{nat_tests}
use Rattle.record.specs.Axes.{holds}
use Rattle.record.specs.declared.axis.Axis.{Axis}
use Rattle.record.specs.declared.axis.Axis.TheVariants.{Itself}
use Rattle.tally.specs.Semirings.{Semiring, bracket, sum, product}
use Rattle.tally.proofs.Sums.{nought_times, sum_cong, sum_pick, bracket_and}
use Rattle.ways.specs.Merging.{Hung, Under, axed, merged}
use Rattle.ways.specs.Ways.{upd, In, Apart, remove, Weighted, all_rows, link, is_way, gains, value, Tree, weighted}
use Rattle.ways.proofs.RowLists.{in_sub, in_stays, not_in, apart_remove, all_cong, all_remove, product_cong, product_remove, product_grow, times_left_comm}
use Rattle.ways.proofs.RowSums.{upd_same, upd_other, sum_rows_cong, sum_rows_plus, sum_rows_nought, pull}

module _ {T : Type 0} (S : Semiring T) where
  -- [h and r] g = [h] ([r] g)
  pub apart_factor : (h r : Bool) (g : T) → S.times (bracket S (h && r)) g ≡ S.times (bracket S h) (S.times (bracket S r) g)
  apart_factor h r g = ap (λ x. S.times x g) (bracket_and S h r) ∙ S.times_assoc _ _ _

  times_right : (a b c : T) → S.times (S.plus a b) c ≡ S.plus (S.times a c) (S.times b c)
  times_right a b c = S.times_comm _ c ∙ S.times_plus c a b ∙ ap₂ S.plus (S.times_comm c a) (S.times_comm c b)

-- the axis of row Z and the links of the others
module _ {T : Type 0} (D : ℕ → ℕ) (P : Weighted T) (Z : ℕ) (apart : Apart P.rows) (inZ : In Z P.rows) where
  -- the links of the rows but Z
  unfoldable pub rest : (ℕ → ℕ) → Bool
  rest a = all_rows (remove Z P.rows) (link D P a)

  pub left_Z : (r : ℕ) → In r (remove Z P.rows) → r ≢ Z
  left_Z r i e = not_in Z P.rows apart (subst (λ x. In x (remove Z P.rows)) e i)

  pub way_rest : (a : ℕ → ℕ) → is_way D P a ≡ (holds D (P.axis Z) (a (P.up Z)) (a Z) && rest a)
  unfolding is_way link rest
  way_rest a = all_remove P.rows (link D P a) Z inZ

  way_axed : (x : Axis) (a : ℕ → ℕ) → is_way D (axed P Z x) a ≡ (holds D x (a (P.up Z)) (a Z) && rest a)
  unfolding is_way link rest axed
  way_axed x a =
      all_remove P.rows (link D (axed P Z x) a) Z inZ
      ∙ ap₂ ◌&&◌ (ap (λ y. holds D y (a (P.up Z)) (a Z)) (upd_same P.axis Z x))
      (all_cong (remove Z P.rows) _ _ (λ r i. ap (λ y. holds D y (a (P.up r)) (a r)) (upd_other P.axis Z x r (left_Z r i))))

-- Z is a row, W another or row 0
pub record Beside {T : Type 0} (P : Weighted T) (W Z : ℕ) : Type 0 where
  pub apart : Apart P.rows
  pub no_top : In 0 P.rows → ⊥
  pub within : In Z P.rows
  pub within_W : In W (0 ∷ P.rows)
  pub W_Z : W ≢ Z

pub beside : {T : Type 0} (P : Weighted T) (W Z : ℕ) → Under P W Z → Beside P W Z
beside P W Z under = record {
  apart = under.hung.apart;
  no_top = under.hung.no_top;
  within = under.within;
  within_W = subst (λ x. In x (0 ∷ P.rows)) under.up_Z (under.hung.ups Z under.within);
  W_Z = under.W_Z;
}

left_apart : {T : Type 0} (P : Weighted T) (W Z : ℕ) → Beside P W Z → (r : ℕ) → In r (0 ∷ remove Z P.rows) → r ≢ Z
left_apart P W Z u r (inl e) k = u.no_top (subst (λ x. In x P.rows) (sym k ∙ e) u.within)
left_apart P W Z u r (inr i) k = not_in Z P.rows u.apart (subst (λ x. In x (remove Z P.rows)) k i)

module _ {T : Type 0} (S : Semiring T) (D : ℕ → ℕ) (n : ℕ) (some_place : 0 < n) (P : Weighted T) where
  -- an axis that is one of two
  pub split_kept : (Z : ℕ) → Apart P.rows → In Z P.rows → (x y : Axis) →
      ((p q : ℕ) → bracket S (holds D (P.axis Z) p q) ≡ S.plus (bracket S (holds D x p q)) (bracket S (holds D y p q))) →
      value S D n P ≡ S.plus (value S D n (axed P Z x)) (value S D n (axed P Z y))
  unfolding value gains axed
  split_kept Z apart inZ x y e =
      sum_rows_cong S n P.rows _ _ (λ a _. one a) (λ _. 0) (λ _. some_place) ∙ sum_rows_plus S n P.rows (F x) (F y) (λ _. 0)
    where
      F : Axis → (ℕ → ℕ) → T
      F x a = S.times (bracket S (is_way D (axed P Z x) a)) (gains S (axed P Z x) a)

      c : (ℕ → ℕ) → T
      c a = S.times (bracket S (rest D P Z apart inZ a)) (gains S P a)

      h : Axis → (ℕ → ℕ) → T
      h x a = bracket S (holds D x (a (P.up Z)) (a Z))

      part : (x : Axis) (a : ℕ → ℕ) → F x a ≡ S.times (h x a) (c a)
      part x a = ap (λ b. S.times (bracket S b) (gains S P a)) (way_axed D P Z apart inZ x a) ∙ apart_factor S _ _ _

      one : (a : ℕ → ℕ) → S.times (bracket S (is_way D P a)) (gains S P a) ≡ S.plus (F x a) (F y a)
      one a =
          ap (λ b. S.times (bracket S b) (gains S P a)) (way_rest D P Z apart inZ a) ∙ apart_factor S _ _ _
          ∙ ap (λ b. S.times b (c a)) (e _ _) ∙ times_right S _ _ _ ∙ sym (ap₂ S.plus (part x a) (part y a))

  -- a row by self goes into its up-row
  module _ (W Z : ℕ) (under : Under P W Z) where
    module _ (b : ℕ → ℕ) where
      both : ℕ → ℕ
      both = upd b Z (b W)

      link_merged : (r : ℕ) → r ≢ Z → link D P both r ≡ link D (merged S P W Z) b r
      unfolding link merged both
      link_merged r k = ap₂ (holds D (P.axis r)) ups (upd_other b Z (b W) r k)
        where
          ups : upd b Z (b W) (P.up r) ≡ b (cond (eqb (P.up r) Z) W (P.up r))
          ups = elim (cases_eq (P.up r) Z) [
            | inl e ↦ rw (e, eq-eqb Z Z refl) (upd_same b Z (b W))
            | inr l ↦ rw (ne_eqb (P.up r) Z l) (upd_other b Z (b W) (P.up r) l)
          ]

      rest_merged : rest D P Z under.hung.apart under.within both ≡ is_way D (merged S P W Z) b
      unfolding is_way merged rest
      rest_merged = all_cong _ _ _ (λ r i. link_merged r (left_Z D P Z under.hung.apart under.within r i))

      gains_merged : gains S P both ≡ gains S (merged S P W Z) b
      unfolding gains merged product both
      gains_merged =
          ap (S.times (P.gain 0 (both 0))) (product_remove S Z P.rows (λ r. P.gain r (both r)) under.within)
          ∙ times_left_comm S _ _ _
          ∙ ap₂ S.times (ap (P.gain Z) (upd_same b Z (b W)))
          (product_cong S (0 ∷ remove Z P.rows) (λ r. P.gain r (both r)) (λ r. P.gain r (b r)) (λ r i. ap (P.gain r) (upd_other b Z (b W) r (left_apart P W Z (beside P W Z under) r i))))
          ∙ sym (product_grow S W (0 ∷ remove Z P.rows) (λ r. P.gain r (b r)) (λ r. upd P.gain W (λ p. S.times (P.gain W p) (P.gain Z p)) r (b r)) (P.gain Z (b W))
          (elim (beside P W Z under).within_W [ inl e ↦ inl e | inr i ↦ inr (in_stays W Z P.rows under.W_Z i) ])
          (λ i. under.hung.no_top (in_sub 0 Z P.rows i), apart_remove Z P.rows under.hung.apart)
          (ap (λ g. g (b W)) (upd_same P.gain W _))
          (λ r k. ap (λ g. g (b r)) (upd_other P.gain W _ r k)))

      merge_one : b W < n → sum S n (λ p. S.times (bracket S (is_way D (axed P Z Itself) (upd b Z p))) (gains S P (upd b Z p))) ≡ S.times (bracket S (is_way D (merged S P W Z) b)) (gains S (merged S P W Z) b)
      unfolding both
      merge_one h =
          sum_cong S n _ (λ p. S.times (bracket S (eqb (b W) p)) (G p))
          (λ p _. ap (λ t. S.times (bracket S t) (gains S P (upd b Z p))) (way_axed D P Z under.hung.apart under.within Itself (upd b Z p)) ∙ apart_factor S _ _ _ ∙ ap (λ t. S.times (bracket S t) (G p)) (self p))
          ∙ sum_pick S n (b W) G h
          ∙ ap₂ (λ t g. S.times (bracket S t) g) rest_merged gains_merged
        where
          G : ℕ → T
          G p = S.times (bracket S (rest D P Z under.hung.apart under.within (upd b Z p))) (gains S P (upd b Z p))

          self : (p : ℕ) → holds D Itself (upd b Z p (P.up Z)) (upd b Z p Z) ≡ eqb (b W) p
          self p = unfold holds in ap₂ eqb (ap (upd b Z p) under.up_Z ∙ upd_other b Z p W under.W_Z) (upd_same b Z p)

    pub axed_merged : value S D n (axed P Z Itself) ≡ value S D n (merged S P W Z)
    unfolding value axed gains merged
    axed_merged =
        pull S n Z P.rows (λ a. S.times (bracket S (is_way D (axed P Z Itself) a)) (gains S P a)) (λ _. 0) under.within under.hung.apart
        ∙ sum_rows_cong S n (remove Z P.rows) _ _ (λ b h. merge_one b (h W)) (λ _. 0) (λ _. some_place)

    same_axed : (x : Axis) → P.axis Z ≡ x → value S D n P ≡ value S D n (axed P Z x)
    unfolding value gains axed
    same_axed x e = sum_rows_cong S n P.rows _ _
        (λ a _. ap (λ b. S.times (bracket S b) (gains S P a)) (way_rest D P Z under.hung.apart under.within a ∙ ap (λ y. holds D y (a (P.up Z)) (a Z) && rest D P Z under.hung.apart under.within a) e ∙ sym (way_axed D P Z under.hung.apart under.within x a)))
        (λ _. 0) (λ _. some_place)

    pub merge_kept : P.axis Z ≡ Itself → value S D n P ≡ value S D n (merged S P W Z)
    merge_kept e = same_axed Itself e ∙ axed_merged

-- the trees that merging leaves

pub tree_hung : {T : Type 0} (P : Weighted T) (rank : ℕ → ℕ) → Tree P rank → Hung P
tree_hung P rank tree = record { apart = tree.apart; no_top = tree.no_root; ups = tree.ups }

pub tree_under : {T : Type 0} (P : Weighted T) (rank : ℕ → ℕ) → Tree P rank → (Z : ℕ) → In Z P.rows → Under P (P.up Z) Z
tree_under P rank tree Z i = record {
  hung = tree_hung P rank tree;
  within = i;
  up_Z = refl;
  W_Z = λ e. let h = tree.ranks Z i in let k : rank (P.up Z) ≡ rank Z = ap rank e in absurd (omega arith);
}

pub tree_axed : {T : Type 0} (P : Weighted T) (rank : ℕ → ℕ) → Tree P rank → (Z : ℕ) (x : Axis) → Tree (axed P Z x) rank
unfolding axed
tree_axed P rank tree Z x = record { apart = tree.apart; no_root = tree.no_root; ups = tree.ups; ranks = tree.ranks }

pub tree_merged : {T : Type 0} (S : Semiring T) (P : Weighted T) (rank : ℕ → ℕ) → Tree P rank → (W Z : ℕ) → Under P W Z → Tree (merged S P W Z) rank
unfolding merged
tree_merged S P rank tree W Z under = record {
  apart = apart_remove Z P.rows tree.apart;
  no_root = λ i. tree.no_root (in_sub 0 Z P.rows i);
  ups = λ r i. stays_up (P.up r) (tree.ups r (in_sub r Z P.rows i));
  ranks = λ r i. let l : rank W < rank Z = subst (λ x. rank x < rank Z) under.up_Z (tree.ranks Z under.within) in let h = tree.ranks r (in_sub r Z P.rows i) in grind (arith, nat_tests);
}
  where
    stays : (x : ℕ) → x ≢ Z → In x (0 ∷ P.rows) → In x (0 ∷ remove Z P.rows)
    stays x k (inl e) = inl e
    stays x k (inr i) = inr (in_stays x Z P.rows k i)

    in_W : In W (0 ∷ P.rows)
    in_W = subst (λ x. In x (0 ∷ P.rows)) under.up_Z (tree.ups Z under.within)

    stays_up : (u : ℕ) → In u (0 ∷ P.rows) → In (cond (eqb u Z) W u) (0 ∷ remove Z P.rows)
    stays_up u i = elim (cases_eq u Z) [
      | inl e ↦ subst (λ t. In (cond t W u) (0 ∷ remove Z P.rows)) (sym (eq-eqb u Z e)) (stays W under.W_Z in_W)
      | inr k ↦ subst (λ t. In (cond t W u) (0 ∷ remove Z P.rows)) (sym (ne_eqb u Z k)) (stays u k i)
    ]

-- where two gains never meet, the merged pattern is worth nothing: a dropped end
pub merged_nought : {T : Type 0} (S : Semiring T) (D : ℕ → ℕ) (n : ℕ) (some_place : 0 < n) (P : Weighted T) (W Z : ℕ) → Beside P W Z →
    ((p : ℕ) → S.times (P.gain W p) (P.gain Z p) ≡ S.nought) → value S D n (merged S P W Z) ≡ S.nought
unfolding value gains merged
merged_nought {T} S D n some_place P W Z u h =
    sum_rows_cong S n (remove Z P.rows) _ (λ _. S.nought) (λ a _. ap (S.times _) (nil a) ∙ S.times_nought _) (λ _. 0) (λ _. some_place)
    ∙ sum_rows_nought S n (remove Z P.rows) (λ _. 0)
  where
    g : ℕ → ℕ → T
    g = upd P.gain W (λ p. S.times (P.gain W p) (P.gain Z p))

    inW_left : In W (0 ∷ remove Z P.rows)
    inW_left = elim u.within_W [ inl e ↦ inl e | inr i ↦ inr (in_stays W Z P.rows u.W_Z i) ]

    nil : (a : ℕ → ℕ) → product S (0 ∷ remove Z P.rows) (λ r. g r (a r)) ≡ S.nought
    nil a =
        product_remove S W (0 ∷ remove Z P.rows) (λ r. g r (a r)) inW_left
        ∙ ap (λ x. S.times x (product S (remove W (0 ∷ remove Z P.rows)) (λ r. g r (a r)))) (ap (λ f. f (a W)) (upd_same P.gain W _) ∙ h (a W))
        ∙ nought_times S _

-- a factor at one row, such as the output held at a place
module _ {T : Type 0} (S : Semiring T) where
  abbrev wg : (ℕ → ℕ → T) → ℕ → (ℕ → T) → ℕ → ℕ → T
  wg g o w = upd g o (λ q. S.times (w q) (g o q))

  abbrev mg : (ℕ → ℕ → T) → ℕ → ℕ → ℕ → ℕ → T
  mg g W Z = upd g W (λ q. S.times (g W q) (g Z q))

  at_same : (g : ℕ → ℕ → T) (r : ℕ) (v : ℕ → T) (q : ℕ) → upd g r v r q ≡ v q
  at_same g r v q = ap (λ f. f q) (upd_same g r v)

  pub at_other : (g : ℕ → ℕ → T) (r : ℕ) (v : ℕ → T) (s q : ℕ) → s ≢ r → upd g r v s q ≡ g s q
  at_other g r v s q k = ap (λ f. f q) (upd_other g r v s k)

  -- the factor goes from Z to W with the row
  weigh_Z : (g : ℕ → ℕ → T) (w : ℕ → T) (W Z r q : ℕ) → r ≢ Z → W ≢ Z → mg (wg g Z w) W Z r q ≡ wg (mg g W Z) W w r q
  weigh_Z g w W Z r q rz wz = elim (cases_eq r W) [
    | inl e ↦ subst (λ x. mg (wg g Z w) W Z x q ≡ wg (mg g W Z) W w x q) (sym e)
        (at_same (wg g Z w) W _ q ∙ ap₂ S.times (at_other g Z _ W q wz) (at_same g Z _ q) ∙ times_left_comm S _ _ _ ∙ sym (at_same (mg g W Z) W _ q ∙ ap (S.times (w q)) (at_same g W _ q)))
    | inr k ↦ at_other (wg g Z w) W _ r q k ∙ at_other g Z _ r q rz ∙ sym (at_other (mg g W Z) W _ r q k ∙ at_other g W _ r q k)
  ]

  weigh_W : (g : ℕ → ℕ → T) (w : ℕ → T) (W Z r q : ℕ) → W ≢ Z → mg (wg g W w) W Z r q ≡ wg (mg g W Z) W w r q
  weigh_W g w W Z r q wz = elim (cases_eq r W) [
    | inl e ↦ subst (λ x. mg (wg g W w) W Z x q ≡ wg (mg g W Z) W w x q) (sym e)
        (at_same (wg g W w) W _ q ∙ ap₂ S.times (at_same g W _ q) (at_other g W _ Z q (λ e. wz (sym e))) ∙ S.times_assoc _ _ _ ∙ sym (at_same (mg g W Z) W _ q ∙ ap (S.times (w q)) (at_same g W _ q)))
    | inr k ↦ at_other (wg g W w) W _ r q k ∙ at_other g W _ r q k ∙ sym (at_other (mg g W Z) W _ r q k ∙ at_other g W _ r q k)
  ]

  weigh_else : (g : ℕ → ℕ → T) (w : ℕ → T) (o W Z r q : ℕ) → o ≢ W → o ≢ Z → mg (wg g o w) W Z r q ≡ wg (mg g W Z) o w r q
  weigh_else g w o W Z r q ow oz = elim (cases_eq r W) [
    | inl e ↦ subst (λ x. mg (wg g o w) W Z x q ≡ wg (mg g W Z) o w x q) (sym e)
        (at_same (wg g o w) W _ q ∙ ap₂ S.times (at_other g o _ W q (λ e. ow (sym e))) (at_other g o _ Z q (λ e. oz (sym e))) ∙ sym (at_other (mg g W Z) o _ W q (λ e. ow (sym e)) ∙ at_same g W _ q))
    | inr k ↦ at_other (wg g o w) W _ r q k ∙ elim (cases_eq r o) [
      | inl e ↦ subst (λ x. wg g o w x q ≡ wg (mg g W Z) o w x q) (sym e) (at_same g o _ q ∙ sym (at_same (mg g W Z) o _ q ∙ ap (S.times (w q)) (at_other g W _ o q ow)))
      | inr l ↦ at_other g o _ r q l ∙ sym (at_other (mg g W Z) o _ r q l ∙ at_other g W _ r q k)
    ]
  ]

  weigh_merged : (g : ℕ → ℕ → T) (w : ℕ → T) (o W Z r q : ℕ) → r ≢ Z → W ≢ Z → mg (wg g o w) W Z r q ≡ wg (mg g W Z) (cond (eqb o Z) W o) w r q
  weigh_merged g w o W Z r q rz wz = elim (cases_eq o Z) [
    | inl e ↦ subst (λ b. mg (wg g o w) W Z r q ≡ wg (mg g W Z) (cond b W o) w r q) (sym (eq-eqb o Z e)) (subst (λ x. mg (wg g x w) W Z r q ≡ wg (mg g W Z) W w r q) (sym e) (weigh_Z g w W Z r q rz wz))
    | inr k ↦ subst (λ b. mg (wg g o w) W Z r q ≡ wg (mg g W Z) (cond b W o) w r q) (sym (ne_eqb o Z k)) (elim (cases_eq o W) [
      | inl e ↦ subst (λ x. mg (wg g x w) W Z r q ≡ wg (mg g W Z) x w r q) (sym e) (weigh_W g w W Z r q wz)
      | inr l ↦ weigh_else g w o W Z r q l k
    ])
  ]

  -- the output goes with the row
  pub weighted_merged : (D : ℕ → ℕ) (n : ℕ) → 0 < n → (P : Weighted T) (W Z : ℕ) → Beside P W Z → (o : ℕ) (w : ℕ → T) →
      value S D n (merged S (weighted S P o w) W Z) ≡ value S D n (weighted S (merged S P W Z) (cond (eqb o Z) W o) w)
  unfolding value gains merged weighted is_way link
  weighted_merged D n some_place P W Z u o w =
      sum_rows_cong S n (remove Z P.rows) _ _
      (λ a _. ap (S.times _) (product_cong S (0 ∷ remove Z P.rows) _ _ (λ r i. weigh_merged P.gain w o W Z r (a r) (left_apart P W Z u r i) u.W_Z)))
      (λ _. 0) (λ _. some_place)
