-- Rows by an or_self axis, by following and by preceding are replaced, and the value stays.
use Rattle.std.proofs.Common.{◌≡◌, ℕ, suc, ◌+◌, ◌*◌, ◌<◌, ◌≤◌, Bool, true, false, not, ◌&&◌, eqb, ◌≢◌, ◌⊎◌, List, [], ◌∷◌, sym, refl, ap, ◌∙◌, subst, ap₂, inl, inr, arith}
use mathlib.Core.Path.{fun_ext}
use Rattle.record.specs.Axes.{leads, reaches, holds, or_self, following_sibling, descendant}
use Rattle.record.specs.declared.axis.Step.TheVariants.{Descendant, FollowingSibling}
use Rattle.record.specs.declared.axis.Reach.TheVariants.{DescendantOrSelf, AncestorOrSelf, Following, Preceding}
use Rattle.record.specs.declared.axis.Axis.{Axis}
use Rattle.record.specs.declared.axis.Axis.TheVariants.{Along, Against, Itself, Wide}
use Rattle.tally.specs.Semirings.{Semiring, bracket, sum, total, product}
use Rattle.ways.specs.Merging.{Under, axed, merged}
use Rattle.ways.specs.Ways.{upd, In, remove, Weighted, all_rows, link, is_way, sum_rows, gains, value, Tree, weighted}
use Rattle.std.proofs.lemmas.Bool.{cases_eq, cases_Bool, eq-eqb, ne_eqb, and_parts}
use Rattle.std.proofs.lemmas.Bool.Decides.{Decides-eqb}
use Rattle.record.proofs.Intervals.{descendant_decides, following_decides}
use Rattle.record.proofs.Pairs.{or_self_decides}
use Rattle.record.proofs.Pointwise.{exact2}
use Rattle.tally.proofs.Sums.{one_times, nought_times, sum_cong, sum_swap, sum_times, bracket_on, bracket_off}
use Rattle.ways.proofs.Merges.{at_other, apart_factor, rest, left_Z, way_rest, split_kept, axed_merged}
use Rattle.ways.proofs.RowLists.{remove_other, in_sub, in_stays, not_in, apart_remove, all_cong, all_remove, product_cong, product_remove, times_left_comm}
use Rattle.ways.proofs.RowSums.{upd_same, upd_other, upd_comm, sum_rows_cong, pull}
use Rattle.ways.specs.Expanding.{Grown, star, opened}
use Rattle.ways.proofs.Pairing.{opens, one_pair}
use Rattle.ways.proofs.Steps.{brackets}

-- an or_self axis is the plain one, or self
module _ {T : Type 0} (S : Semiring T) (D : ℕ → ℕ) (root : D 0 ≡ 0) (steps : (i : ℕ) → D (suc i) ≤ suc (D i)) (n : ℕ) (some_place : 0 < n) (others : (i : ℕ) → 0 < i → i < n → 1 ≤ D i) where
  or_two : (p q : ℕ) → bracket S (or_self D p q) ≡ S.plus (bracket S (descendant D p q)) (bracket S (eqb p q))
  unfolding total
  or_two p q =
      brackets S (or_self D p q) (descendant D p q ∷ eqb p q ∷ [])
      (exact2 _ _ _ (or_self_decides D root steps p q) (descendant_decides D root steps p q) (Decides-eqb p q)
      (λ o. elim o [ inl e ↦ inr e | inr d ↦ inl d ]) (λ d. inr d) (λ e. inl e) (λ d e. let l = d.before in absurd (omega arith)))
      ∙ ap (S.plus (bracket S (descendant D p q))) (S.plus_nought _)

  eqb_comm : (x y : ℕ) → eqb x y ≡ eqb y x
  eqb_comm x y = elim (cases_eq x y) [ inl e ↦ eq-eqb x y e ∙ sym (eq-eqb y x (sym e)) | inr k ↦ ne_eqb x y k ∙ sym (ne_eqb y x (λ e. k (sym e))) ]

  pub below_kept : (P : Weighted T) (W Z : ℕ) → Under P W Z → P.axis Z ≡ Wide DescendantOrSelf →
      value S D n P ≡ S.plus (value S D n (axed P Z (Along Descendant))) (value S D n (merged S P W Z))
  unfolding holds reaches leads
  below_kept P W Z u e =
      split_kept S D n some_place P Z u.hung.apart u.within (Along Descendant) Itself (λ p q. ap (λ x. bracket S (holds D x p q)) e ∙ or_two p q)
      ∙ ap (S.plus _) (axed_merged S D n some_place P W Z u)

  pub above_kept : (P : Weighted T) (W Z : ℕ) → Under P W Z → P.axis Z ≡ Wide AncestorOrSelf →
      value S D n P ≡ S.plus (value S D n (axed P Z (Against Descendant))) (value S D n (merged S P W Z))
  unfolding holds reaches leads
  above_kept P W Z u e =
      split_kept S D n some_place P Z u.hung.apart u.within (Against Descendant) Itself
      (λ p q. ap (λ x. bracket S (holds D x p q)) e ∙ or_two q p ∙ ap (λ b. S.plus (bracket S (descendant D q p)) (bracket S b)) (eqb_comm q p))
      ∙ ap (S.plus _) (axed_merged S D n some_place P W Z u)

-- a row is reached over two new rows
module _ {T : Type 0} (S : Semiring T) (D : ℕ → ℕ) (n : ℕ) (some_place : 0 < n) (P : Weighted T) (W Z N M : ℕ) (side : Axis) (L : List ℕ) (under : Under P W Z) (grown : Grown P.rows L N M) where
  abbrev Q : Weighted T
  Q = opened S P W Z N M side L

  M_N : M ≢ N
  M_N e = not_in N L grown.apart (subst (λ x. In x (remove N L)) e grown.in_M)

  row_M : (r : ℕ) → In r P.rows → r ≢ M
  row_M r i e = not_in M (remove N L) (apart_remove N L grown.apart) (subst (λ x. In x (remove M (remove N L))) e (subst (λ l. In r l) (sym grown.left) i))

  row_N : (r : ℕ) → In r P.rows → r ≢ N
  row_N r i e = not_in N L grown.apart (subst (λ x. In x (remove N L)) e (in_sub r M (remove N L) (subst (λ l. In r l) (sym grown.left) i)))

  zero_M : 0 ≢ M
  zero_M e = grown.no_root (in_sub 0 N L (subst (λ x. In x (remove N L)) (sym e) grown.in_M))

  zero_N : 0 ≢ N
  zero_N e = grown.no_root (subst (λ x. In x L) (sym e) grown.in_N)

  all_M : (r : ℕ) → In r (0 ∷ P.rows) → r ≢ M
  all_M r (inl e) k = zero_M (sym e ∙ k)
  all_M r (inr i) k = row_M r i k

  all_N : (r : ℕ) → In r (0 ∷ P.rows) → r ≢ N
  all_N r (inl e) k = zero_N (sym e ∙ k)
  all_N r (inr i) k = row_N r i k

  Z_M : Z ≢ M
  Z_M = row_M Z under.within

  Z_N : Z ≢ N
  Z_N = row_N Z under.within

  in_W : In W (0 ∷ P.rows)
  in_W = subst (λ x. In x (0 ∷ P.rows)) under.up_Z (under.hung.ups Z under.within)

  module _ (b : ℕ → ℕ) (x y : ℕ) where
    -- N at x and M at y
    wide : ℕ → ℕ
    wide = upd (upd b M y) N x

    at_N : wide N ≡ x
    unfolding wide
    at_N = upd_same (upd b M y) N x

    at_M : wide M ≡ y
    unfolding wide
    at_M = upd_other (upd b M y) N x M M_N ∙ upd_same b M y

    at_row : (r : ℕ) → In r (0 ∷ P.rows) → wide r ≡ b r
    unfolding wide
    at_row r i = upd_other (upd b M y) N x r (all_N r i) ∙ upd_other b M y r (all_M r i)

    link_N : link D Q wide N ≡ or_self D x (b W)
    unfolding link opened holds reaches wide
    link_N =
        ap₂ (λ t u. holds D t (wide u) (wide N))
        (upd_other (upd (upd P.axis N (Wide AncestorOrSelf)) M side) Z (Wide DescendantOrSelf) N (λ e. Z_N (sym e)) ∙ upd_other (upd P.axis N (Wide AncestorOrSelf)) M side N (λ e. M_N (sym e)) ∙ upd_same P.axis N (Wide AncestorOrSelf))
        (upd_other (upd (upd P.up N W) M N) Z M N (λ e. Z_N (sym e)) ∙ upd_other (upd P.up N W) M N N (λ e. M_N (sym e)) ∙ upd_same P.up N W)
        ∙ ap₂ (λ p q. or_self D q p) (at_row W in_W) at_N

    link_M : link D Q wide M ≡ holds D side x y
    unfolding link opened
    link_M =
        ap₂ (λ t u. holds D t (wide u) (wide M))
        (upd_other (upd (upd P.axis N (Wide AncestorOrSelf)) M side) Z (Wide DescendantOrSelf) M (λ e. Z_M (sym e)) ∙ upd_same (upd P.axis N (Wide AncestorOrSelf)) M side)
        (upd_other (upd (upd P.up N W) M N) Z M M (λ e. Z_M (sym e)) ∙ upd_same (upd P.up N W) M N)
        ∙ ap₂ (λ p q. holds D side p q) at_N at_M

    link_Z : link D Q wide Z ≡ or_self D y (b Z)
    unfolding link opened holds reaches wide
    link_Z =
        ap₂ (λ t u. holds D t (wide u) (wide Z)) (upd_same (upd (upd P.axis N (Wide AncestorOrSelf)) M side) Z (Wide DescendantOrSelf)) (upd_same (upd (upd P.up N W) M N) Z M)
        ∙ ap₂ (or_self D) at_M (at_row Z (inr under.within))

    link_other : (r : ℕ) → In r (remove Z P.rows) → link D Q wide r ≡ link D P b r
    unfolding link opened
    link_other r j =
        let i : In r P.rows = in_sub r Z P.rows j in
        let z : r ≢ Z = left_Z D P Z under.hung.apart under.within r j in
        ap₂ (λ t u. holds D t (wide u) (wide r))
        (upd_other (upd (upd P.axis N (Wide AncestorOrSelf)) M side) Z (Wide DescendantOrSelf) r z ∙ upd_other (upd P.axis N (Wide AncestorOrSelf)) M side r (row_M r i) ∙ upd_other P.axis N (Wide AncestorOrSelf) r (row_N r i))
        (upd_other (upd (upd P.up N W) M N) Z M r z ∙ upd_other (upd P.up N W) M N r (row_M r i) ∙ upd_other P.up N W r (row_N r i))
        ∙ ap₂ (holds D (P.axis r)) (at_row (P.up r) (under.hung.ups r i)) (at_row r (inr i))

    -- the three links
    three : Bool
    three = or_self D x (b W) && (holds D side x y && or_self D y (b Z))

    and_regroup : (p q r s : Bool) → (p && (q && (r && s))) ≡ ((p && (q && r)) && s)
    and_regroup true true r s = refl
    and_regroup true false r s = refl
    and_regroup false q r s = refl

    way_opened : is_way D Q wide ≡ (three && rest D P Z under.hung.apart under.within b)
    unfolding is_way rest three opened
    way_opened =
        all_remove L (link D Q wide) N grown.in_N
        ∙ ap₂ ◌&&◌ link_N
        (all_remove (remove N L) (link D Q wide) M grown.in_M
        ∙ ap₂ ◌&&◌ link_M
        (ap (λ l. all_rows l (link D Q wide)) grown.left
        ∙ all_remove P.rows (link D Q wide) Z under.within
        ∙ ap₂ ◌&&◌ link_Z (all_cong (remove Z P.rows) _ _ link_other)))
        ∙ and_regroup (or_self D x (b W)) (holds D side x y) (or_self D y (b Z)) (all_rows (remove Z P.rows) (link D P b))

    gains_opened : gains S Q wide ≡ S.times (star S x) (S.times (star S y) (gains S P b))
    unfolding gains opened
    gains_opened =
        product_remove S N (0 ∷ L) G (inr grown.in_N)
        ∙ ap₂ S.times (ap (λ g. g (wide N)) (upd_other (upd P.gain N (star S)) M (star S) N (λ e. M_N (sym e)) ∙ upd_same P.gain N (star S)) ∙ ap (star S) at_N)
        (ap (λ l. product S l G) (remove_other N 0 L zero_N)
        ∙ product_remove S M (0 ∷ remove N L) G (inr grown.in_M)
        ∙ ap₂ S.times (ap (λ g. g (wide M)) (upd_same (upd P.gain N (star S)) M (star S)) ∙ ap (star S) at_M)
        (ap (λ l. product S l G) (remove_other M 0 (remove N L) zero_M ∙ ap {B = List ℕ} (λ l. 0 ∷ l) grown.left)
        ∙ product_cong S (0 ∷ P.rows) G (λ r. P.gain r (b r)) (λ r i.
        ap (λ g. g (wide r)) (upd_other (upd P.gain N (star S)) M (star S) r (all_M r i) ∙ upd_other P.gain N (star S) r (all_N r i)) ∙ ap (P.gain r) (at_row r i))))
      where
        G : ℕ → T
        G r = upd (upd P.gain N (star S)) M (star S) r (wide r)

    -- where the three links hold, neither new row is at the root
    stars : (c : T) → (three ≡ true → (x ≢ 0) × (y ≢ 0)) → S.times (bracket S three) (S.times (star S x) (S.times (star S y) c)) ≡ S.times (bracket S three) c
    unfolding star
    stars c h = elim (cases_Bool three) [
      | inl t ↦ ap (S.times (bracket S three)) (on x (h t).0 (S.times (bracket S (not (eqb y 0))) c) ∙ on y (h t).1 c)
      | inr f ↦ ap (λ b. S.times b (S.times (star S x) (S.times (star S y) c))) (bracket_off S three f) ∙ nought_times S _ ∙ sym (ap (λ b. S.times b c) (bracket_off S three f) ∙ nought_times S c)
    ]
      where
        on : (z : ℕ) → z ≢ 0 → (c : T) → S.times (bracket S (not (eqb z 0))) c ≡ c
        on z k c = ap (λ b. S.times (bracket S (not b)) c) (ne_eqb z 0 k) ∙ ap (λ b. S.times b c) (bracket_on S _ refl) ∙ one_times S c

    opened_one : (three ≡ true → (x ≢ 0) × (y ≢ 0)) → S.times (bracket S (is_way D Q wide)) (gains S Q wide) ≡ S.times (bracket S three) (S.times (bracket S (rest D P Z under.hung.apart under.within b)) (gains S P b))
    opened_one h =
        ap₂ (λ w g. S.times (bracket S w) g) way_opened gains_opened ∙ apart_factor S three _ _
        ∙ ap (S.times (bracket S three)) (times_left_comm S _ _ _ ∙ ap (S.times (star S x)) (times_left_comm S _ _ _))
        ∙ stars _ h

  opened_kept : ((p q x y : ℕ) → (or_self D x p && (holds D side x y && or_self D y q)) ≡ true → (x ≢ 0) × (y ≢ 0)) →
      ((p q : ℕ) → p < n → q < n → bracket S (holds D (P.axis Z) p q) ≡ sum S n (λ y. sum S n (λ x. bracket S (or_self D x p && (holds D side x y && or_self D y q))))) →
      value S D n P ≡ value S D n Q
  unfolding value opened wide three
  opened_kept nz e = sym
      (pull S n N L F (λ _. 0) grown.in_N grown.apart
      ∙ pull S n M (remove N L) (λ b. sum S n (λ x. F (upd b N x))) (λ _. 0) grown.in_M (apart_remove N L grown.apart)
      ∙ ap (λ l. sum_rows S n l (λ b. sum S n (λ y. sum S n (λ x. F (upd (upd b M y) N x)))) (λ _. 0)) grown.left
      ∙ sum_rows_cong S n P.rows _ _ (λ b h. one b (h W) (h Z)) (λ _. 0) (λ _. some_place))
    where
      F : (ℕ → ℕ) → T
      F a = S.times (bracket S (is_way D Q a)) (gains S Q a)

      c : (ℕ → ℕ) → T
      c b = S.times (bracket S (rest D P Z under.hung.apart under.within b)) (gains S P b)

      one : (b : ℕ → ℕ) → b W < n → b Z < n → sum S n (λ y. sum S n (λ x. F (upd (upd b M y) N x))) ≡ S.times (bracket S (is_way D P b)) (gains S P b)
      one b k l =
          sum_cong S n _ _ (λ y _. sum_cong S n _ (λ x. S.times (c b) (bracket S (three b x y))) (λ x _. opened_one b x y (nz (b W) (b Z) x y) ∙ S.times_comm _ _) ∙ sum_times S n (c b) _)
          ∙ sum_times S n (c b) _ ∙ S.times_comm _ _
          ∙ ap (λ t. S.times t (c b)) (sym (e (b W) (b Z) k l) ∙ ap (λ w. bracket S (holds D (P.axis Z) (b w) (b Z))) (sym under.up_Z))
          ∙ sym (ap (λ w. S.times (bracket S w) (gains S P b)) (way_rest D P Z under.hung.apart under.within b) ∙ apart_factor S _ _ _)

-- following and preceding, over the one pair of new rows
module _ {T : Type 0} (S : Semiring T) (D : ℕ → ℕ) (root : D 0 ≡ 0) (steps : (i : ℕ) → D (suc i) ≤ suc (D i)) (n : ℕ) (some_place : 0 < n) (others : (i : ℕ) → 0 < i → i < n → 1 ≤ D i)
    (P : Weighted T) (W Z N M : ℕ) (L : List ℕ) (under : Under P W Z) (grown : Grown P.rows L N M) where
  aside : (x y : ℕ) → following_sibling D x y ≡ true → (x ≢ 0) × (y ≢ 0)
  aside x y e = let f = (following_decides D root steps x y).0 e in
      (λ k. let z : D x ≡ 0 = ap D k ∙ root in let l = f.low in absurd (omega arith), λ k. let l = f.before in absurd (omega arith))

  pub following_kept : P.axis Z ≡ Wide Following → value S D n P ≡ value S D n (opened S P W Z N M (Along FollowingSibling) L)
  unfolding holds reaches leads opens
  following_kept a = opened_kept S D n some_place P W Z N M (Along FollowingSibling) L under grown
      (λ p q x y e. aside x y (and_parts _ _ (and_parts _ _ e).1).0)
      (λ p q h l. ap (λ t. bracket S (holds D t p q)) a ∙ one_pair S D root steps n others p q l ∙ sum_swap S n n (λ x y. bracket S (opens D p q x y)))

  turned_and : (p q r : Bool) → (p && (q && r)) ≡ (r && (q && p))
  turned_and true true true = refl
  turned_and true true false = refl
  turned_and true false true = refl
  turned_and true false false = refl
  turned_and false true true = refl
  turned_and false true false = refl
  turned_and false false true = refl
  turned_and false false false = refl

  pub preceding_kept : P.axis Z ≡ Wide Preceding → value S D n P ≡ value S D n (opened S P W Z N M (Against FollowingSibling) L)
  unfolding holds reaches leads opens
  preceding_kept a = opened_kept S D n some_place P W Z N M (Against FollowingSibling) L under grown
      (λ p q x y e. let (u, v) = aside y x (and_parts _ _ (and_parts _ _ e).1).0 in (v, u))
      (λ p q h l. ap (λ t. bracket S (holds D t p q)) a ∙ one_pair S D root steps n others q p h
      ∙ sum_cong S n _ _ (λ y _. sum_cong S n _ _ (λ x _. ap (bracket S) (turned_and (or_self D y q) (following_sibling D y x) (or_self D x p)))))

-- the tree with two new rows
rank_wide : (ℕ → ℕ) → ℕ → ℕ → ℕ → ℕ → ℕ
rank_wide rank W N M = upd (upd (λ r. 3 * rank r) N (3 * rank W + 1)) M (3 * rank W + 2)

pub tree_opened : {T : Type 0} (S : Semiring T) (P : Weighted T) (rank : ℕ → ℕ) → Tree P rank → (W Z N M : ℕ) (side : Axis) (L : List ℕ) → Under P W Z → Grown P.rows L N M →
    (rank' : ℕ → ℕ) × Tree (opened S P W Z N M side L) rank'
unfolding opened
tree_opened {T} S P rank tree W Z N M side L under grown = (rank_wide rank W N M, record { apart = grown.apart; no_root = grown.no_root; ups = ups; ranks = ranks })
  where
    M≢N : M ≢ N
    M≢N e = not_in N L grown.apart (subst (λ x. In x (remove N L)) e grown.in_M)

    in_L : (r : ℕ) → In r P.rows → In r L
    in_L r i = in_sub r N L (in_sub r M (remove N L) (subst (λ l. In r l) (sym grown.left) i))

    keeps : (r : ℕ) → In r (0 ∷ P.rows) → In r (0 ∷ L)
    keeps r (inl e) = inl e
    keeps r (inr i) = inr (in_L r i)

    not_N : (r : ℕ) → In r (0 ∷ P.rows) → r ≢ N
    not_N r (inl e) k = grown.no_root (subst (λ x. In x L) (sym k ∙ e) grown.in_N)
    not_N r (inr i) k = not_in N L grown.apart (subst (λ x. In x (remove N L)) k (in_sub r M (remove N L) (subst (λ l. In r l) (sym grown.left) i)))

    not_M : (r : ℕ) → In r (0 ∷ P.rows) → r ≢ M
    not_M r (inl e) k = grown.no_root (subst (λ x. In x L) (sym k ∙ e) (in_sub M N L grown.in_M))
    not_M r (inr i) k = not_in M (remove N L) (apart_remove N L grown.apart) (subst (λ x. In x (remove M (remove N L))) k (subst (λ l. In r l) (sym grown.left) i))

    in_W : In W (0 ∷ P.rows)
    in_W = subst (λ x. In x (0 ∷ P.rows)) under.up_Z (tree.ups Z under.within)

    -- a row of L is N, M or an old one
    which : (r : ℕ) → In r L → (r ≡ N) ⊎ ((r ≡ M) ⊎ In r P.rows)
    which r i = elim (cases_eq r N) [
      | inl e ↦ inl e
      | inr k ↦ elim (cases_eq r M) [
        | inl e ↦ inr (inl e)
        | inr l ↦ inr (inr (subst (λ x. In r x) grown.left (in_stays r M (remove N L) l (in_stays r N L k i))))
      ]
    ]

    up' : ℕ → ℕ
    up' = upd (upd (upd P.up N W) M N) Z M

    zn : Z ≢ N
    zn = not_N Z (inr under.within)

    zm : Z ≢ M
    zm = not_M Z (inr under.within)

    up_N : up' N ≡ W
    up_N = upd_other (upd (upd P.up N W) M N) Z M N (λ e. zn (sym e)) ∙ upd_other (upd P.up N W) M N N (λ e. M≢N (sym e)) ∙ upd_same P.up N W

    up_M : up' M ≡ N
    up_M = upd_other (upd (upd P.up N W) M N) Z M M (λ e. zm (sym e)) ∙ upd_same (upd P.up N W) M N

    up_Z : up' Z ≡ M
    up_Z = upd_same (upd (upd P.up N W) M N) Z M

    up_r : (r : ℕ) → In r P.rows → r ≢ Z → up' r ≡ P.up r
    up_r r i k = upd_other (upd (upd P.up N W) M N) Z M r k ∙ upd_other (upd P.up N W) M N r (not_M r (inr i)) ∙ upd_other P.up N W r (not_N r (inr i))

    ups : (r : ℕ) → In r L → In (up' r) (0 ∷ L)
    ups r i = elim (which r i) [
      | inl e ↦ subst (λ x. In (up' x) (0 ∷ L)) (sym e) (subst (λ x. In x (0 ∷ L)) (sym up_N) (keeps W in_W))
      | inr o ↦ elim o [
        | inl e ↦ subst (λ x. In (up' x) (0 ∷ L)) (sym e) (subst (λ x. In x (0 ∷ L)) (sym up_M) (inr grown.in_N))
        | inr j ↦ elim (cases_eq r Z) [
          | inl e ↦ subst (λ x. In (up' x) (0 ∷ L)) (sym e) (subst (λ x. In x (0 ∷ L)) (sym up_Z) (inr (in_sub M N L grown.in_M)))
          | inr k ↦ subst (λ x. In x (0 ∷ L)) (sym (up_r r j k)) (keeps (P.up r) (tree.ups r j))
        ]
      ]
    ]

    rk : ℕ → ℕ
    rk = rank_wide rank W N M

    rk_N : rk N ≡ 3 * rank W + 1
    rk_N = unfold rank_wide in upd_other (upd (λ r. 3 * rank r) N (3 * rank W + 1)) M (3 * rank W + 2) N (λ e. M≢N (sym e)) ∙ upd_same (λ r. 3 * rank r) N (3 * rank W + 1)

    rk_M : rk M ≡ 3 * rank W + 2
    rk_M = unfold rank_wide in upd_same (upd (λ r. 3 * rank r) N (3 * rank W + 1)) M (3 * rank W + 2)

    rk_r : (r : ℕ) → In r (0 ∷ P.rows) → rk r ≡ 3 * rank r
    rk_r r i = unfold rank_wide in upd_other (upd (λ r. 3 * rank r) N (3 * rank W + 1)) M (3 * rank W + 2) r (not_M r i) ∙ upd_other (λ r. 3 * rank r) N (3 * rank W + 1) r (not_N r i)

    falls : (r u : ℕ) → rk u < rk r → up' r ≡ u → rk (up' r) < rk r
    falls r u h e = subst (λ x. rk x < rk r) (sym e) h

    ranks : (r : ℕ) → In r L → rk (up' r) < rk r
    ranks r i = elim (which r i) [
      | inl e ↦ subst (λ x. rk (up' x) < rk x) (sym e) (falls N W (let a = rk_N in let b = rk_r W in_W in omega arith) up_N)
      | inr o ↦ elim o [
        | inl e ↦ subst (λ x. rk (up' x) < rk x) (sym e) (falls M N (let a = rk_N in let b = rk_M in omega arith) up_M)
        | inr j ↦ elim (cases_eq r Z) [
          | inl e ↦ subst (λ x. rk (up' x) < rk x) (sym e) (falls Z M (let a = rk_M in let b = rk_r Z (inr under.within) in let c : rank W < rank Z = subst (λ x. rank x < rank Z) under.up_Z (tree.ranks Z under.within) in omega arith) up_Z)
          | inr k ↦ falls r (P.up r) (let a = rk_r r (inr j) in let b = rk_r (P.up r) (tree.ups r j) in let c = tree.ranks r j in omega arith) (up_r r j k)
        ]
      ]
    ]

-- a factor at an old row stays where two rows are new
pub weighted_opened : {T : Type 0} (S : Semiring T) (P : Weighted T) (W Z N M : ℕ) (side : Axis) (L : List ℕ) (o : ℕ) (w : ℕ → T) → o ≢ N → o ≢ M →
    opened S (weighted S P o w) W Z N M side L ≡ weighted S (opened S P W Z N M side L) o w
unfolding opened weighted
weighted_opened S P W Z N M side L o w on om =
    ap (λ g. record { rows = L; up = upd (upd (upd P.up N W) M N) Z M; axis = upd (upd (upd P.axis N (Wide AncestorOrSelf)) M side) Z (Wide DescendantOrSelf); gain = g })
    (ap (λ g. upd g M (star S)) (upd_comm P.gain o N _ (star S) on) ∙ upd_comm (upd P.gain N (star S)) o M _ (star S) om
    ∙ ap (λ v. upd (upd (upd P.gain N (star S)) M (star S)) o v) (fun_ext (λ q. ap (S.times (w q)) (sym (at_other S (upd P.gain N (star S)) M (star S) o q om ∙ at_other S P.gain N (star S) o q on)))))
