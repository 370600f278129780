-- Two new rows in the array and in the pattern.
use Rattle.std.proofs.Common.{◌≡◌, ℕ, zero, suc, ◌+◌, ◌<◌, ◌≤◌, Bool, true, false, cond, eqb, ◌≢◌, List, [], ◌∷◌, ◌++◌, length, set, sym, refl, ap, ◌∙◌, subst, ap₂, inl, inr, arith}
use mathlib.Core.Path.{fun_ext}
use Rattle.std.proofs.lemmas.List.{get_or-set_same, get_or-set_other, length-set}
use Rattle.std.proofs.lemmas.Bool.{cases_eq, cases_Bool, eq-eqb, ne_eqb, both_ways, or_cases, or_left, or_right}
use Rattle.record.specs.declared.axis.Reach.TheVariants.{DescendantOrSelf, AncestorOrSelf}
use Rattle.record.specs.declared.axis.Axis.{Axis}
use Rattle.record.specs.declared.axis.Axis.TheVariants.{Wide}
use Rattle.tally.specs.Semirings.{Semiring}
use Rattle.ways.specs.Expanding.{Grown, opened, star}
use Rattle.ways.specs.Merging.{Under}
use Rattle.ways.specs.Ways.{upd, In, remove, Tree}
use Rattle.ways.proofs.Merges.{tree_under}
use Rattle.ways.proofs.Openings.{tree_opened}
use Rattle.ways.proofs.RowLists.{in_stays}
use Rattle.ways.proofs.RowSums.{upd_same, upd_other}
use Rattle.pattern.specs.Questions.{sift, pattern_of}
use Rattle.pattern.specs.Rows.{Seat, top, row, hung, fresh, spread, has_root, live, fifteen, rooted}
use Rattle.pattern.specs.declared.row.Test.{Test}
use Rattle.pattern.specs.declared.row.Test.TheVariants.{Star}
use Rattle.pattern.proofs.MergedRows.{pattern_cong, least, none}
use Rattle.pattern.proofs.Moved.{upd_id}
use Rattle.pattern.proofs.Trees.{upto, upto_in, sift_cong, sift_drop, sift_apart, in_sift, sift_in, fifteen_in, in_fifteen, fifteen_apart, in_rows, tree_of, rooted_from}

set_row : (rs : List Seat) (k : ℕ) (r : Seat) → k < length rs → row (set rs k r) ≡ upd (row rs) k r
set_row rs k r l = fun_ext (λ i. elim (cases_eq i k) [
  | inl e ↦ subst (λ j. row (set rs k r) j ≡ upd (row rs) k r j) (sym e) (get_or-set_same rs k r top l ∙ sym (upd_same (row rs) k r))
  | inr n ↦ get_or-set_other rs k i r top n ∙ sym (upd_other (row rs) k r i n)
])

upd_map : {A B : Type 0} (f : A → B) (g : ℕ → A) (k : ℕ) (v : A) → ◌≡◌ {A = ℕ → B} (λ i. f (upd g k v i)) (upd (λ i. f (g i)) k (f v))
upd_map f g k v = fun_ext (λ i. elim (cases_eq i k) [
  | inl e ↦ subst (λ j. f (upd g k v j) ≡ upd (λ i. f (g i)) k (f v) j) (sym e) (ap f (upd_same g k v) ∙ sym (upd_same (λ i. f (g i)) k (f v)))
  | inr n ↦ ap f (upd_other g k v i n) ∙ sym (upd_other (λ i. f (g i)) k (f v) i n)
])

module _ (rs : List Seat) (len : length rs ≡ 16) (z n m : ℕ) (x : Axis) (z_high : z < 16) (n_low : 1 ≤ n) (n_high : n < 16) (m_low : 1 ≤ m) (m_high : m < 16) (m_n : m ≢ n)
    (used_z : (row rs z).used ≡ true) (free : (row rs n).used ≡ false) (spare : (row rs m).used ≡ false) where
  abbrev w : ℕ
  w = (row rs z).up

  abbrev rs' : List Seat
  rs' = spread rs z n m x

  n_z : n ≢ z
  n_z e = both_ways _ free (subst (λ i. (row rs i).used ≡ true) (sym e) used_z)

  m_z : m ≢ z
  m_z e = both_ways _ spare (subst (λ i. (row rs i).used ≡ true) (sym e) used_z)

  rows_spread : row rs' ≡ upd (upd (upd (row rs) n (fresh w (Wide AncestorOrSelf))) m (fresh n x)) z (hung (row rs z) m (Wide DescendantOrSelf))
  rows_spread =
      let one = set rs n (fresh w (Wide AncestorOrSelf)) in
      let two = set one m (fresh n x) in
      let l : length one ≡ length rs = length-set rs n (fresh w (Wide AncestorOrSelf)) in
      let k : length two ≡ length one = length-set one m (fresh n x) in
      set_row two z (hung (row rs z) m (Wide DescendantOrSelf)) (omega arith)
      ∙ ap (λ f. upd f z (hung (row rs z) m (Wide DescendantOrSelf))) (set_row one m (fresh n x) (omega arith) ∙ ap (λ f. upd f m (fresh n x)) (set_row rs n (fresh w (Wide AncestorOrSelf)) (omega arith)))

  -- a field of the rows
  field : {B : Type 0} (f : Seat → B) → ◌≡◌ {A = ℕ → B} (λ i. f (row rs' i)) (upd (upd (upd (λ i. f (row rs i)) n (f (fresh w (Wide AncestorOrSelf)))) m (f (fresh n x))) z (f (hung (row rs z) m (Wide DescendantOrSelf))))
  field f =
      ap (λ g. λ i. f (g i)) rows_spread
      ∙ upd_map f _ z _ ∙ ap (λ g. upd g z (f (hung (row rs z) m (Wide DescendantOrSelf)))) (upd_map f _ m _ ∙ ap (λ g. upd g m (f (fresh n x))) (upd_map f (row rs) n _))

  -- a field that the new place of z does not change
  field_kept : {B : Type 0} (f : Seat → B) → f (hung (row rs z) m (Wide DescendantOrSelf)) ≡ f (row rs z) → ◌≡◌ {A = ℕ → B} (λ i. f (row rs' i)) (upd (upd (λ i. f (row rs i)) n (f (fresh w (Wide AncestorOrSelf)))) m (f (fresh n x)))
  field_kept f e = field f ∙ upd_id _ z _ (upd_other (upd (λ i. f (row rs i)) n (f (fresh w (Wide AncestorOrSelf)))) m (f (fresh n x)) z (λ k. m_z (sym k)) ∙ upd_other (λ i. f (row rs i)) n (f (fresh w (Wide AncestorOrSelf))) z (λ k. n_z (sym k)) ∙ sym e)

  used_spread : ◌≡◌ {A = ℕ → Bool} (λ i. (row rs' i).used) (upd (upd (λ i. (row rs i).used) n true) m true)
  used_spread = field_kept (λ r. r.used) refl

  pub used_at : (i : ℕ) → (row rs' i).used ≡ upd (upd (λ i. (row rs i).used) n true) m true i
  used_at i = ap (λ f. f i) used_spread

  pub test_at : (i : ℕ) → (row rs' i).test ≡ upd (upd (λ i. (row rs i).test) n Star) m Star i
  test_at i = ap (λ f. f i) (field_kept (λ r. r.test) refl)

  used_n : (row rs' n).used ≡ true
  used_n = used_at n ∙ upd_other (upd (λ i. (row rs i).used) n true) m true n (λ e. m_n (sym e)) ∙ upd_same (λ i. (row rs i).used) n true

  used_m : (row rs' m).used ≡ true
  used_m = used_at m ∙ upd_same (upd (λ i. (row rs i).used) n true) m true

  module _ {T : Type 0} (S : Semiring T) (gain : Test → ℕ → T) (stars : gain Star ≡ star S) where
    pub spread_array : pattern_of gain rs' ≡ opened S (pattern_of gain rs) w z n m x (pattern_of gain rs').rows
    unfolding pattern_of opened
    spread_array = pattern_cong _ _ _ _ _ _ _ _ refl
        (field (λ r. r.up)) (field (λ r. r.axis))
        (field_kept (λ r. gain r.test) refl ∙ ap₂ (λ a b. upd (upd (λ i. gain (row rs i).test) n a) m b) stars stars)

    pub spread_grown : Grown (pattern_of gain rs).rows (pattern_of gain rs').rows n m
    unfolding pattern_of
    spread_grown = record {
      apart = sift_apart fifteen _ fifteen_apart;
      no_root = λ i. let (a, b) = fifteen_in 0 (sift_in fifteen _ 0 i).0 in omega arith;
      in_N = in_sift fifteen _ n (in_fifteen n n_low n_high) used_n;
      in_M = in_stays m n _ m_n (in_sift fifteen _ m (in_fifteen m m_low m_high) used_m);
      left =
          ap (remove m) (sym (sift_drop fifteen (λ i. (row rs' i).used) n fifteen_apart))
          ∙ sym (sift_drop fifteen (λ i. cond (eqb i n) false (row rs' i).used) m fifteen_apart)
          ∙ sift_cong fifteen _ _ (λ i _. back i);
    }
      where
        back : (i : ℕ) → cond (eqb i m) false (cond (eqb i n) false (row rs' i).used) ≡ (row rs i).used
        back i = elim (cases_eq i m) [
          | inl e ↦ rw (eq-eqb i m e) (sym (subst (λ j. (row rs j).used ≡ false) (sym e) spare))
          | inr k ↦ rw (ne_eqb i m k) (elim (cases_eq i n) [
            | inl e ↦ rw (eq-eqb i n e) (sym (subst (λ j. (row rs j).used ≡ false) (sym e) free))
            | inr l ↦ rw (ne_eqb i n l) (used_at i ∙ upd_other (upd (λ i. (row rs i).used) n true) m true i k ∙ upd_other (λ i. (row rs i).used) n true i l)
          ])
        ]

  grown_used : (i : ℕ) → (row rs i).used ≡ true → (row rs' i).used ≡ true
  grown_used i u = used_at i ∙ elim (cases_eq i m) [
    | inl e ↦ subst (λ j. upd (upd (λ i. (row rs i).used) n true) m true j ≡ true) (sym e) (upd_same (upd (λ i. (row rs i).used) n true) m true)
    | inr k ↦ upd_other (upd (λ i. (row rs i).used) n true) m true i k ∙ elim (cases_eq i n) [
      | inl e ↦ subst (λ j. upd (λ i. (row rs i).used) n true j ≡ true) (sym e) (upd_same (λ i. (row rs i).used) n true)
      | inr l ↦ upd_other (λ i. (row rs i).used) n true i l ∙ u
    ]
  ]

  pub spread_top : has_root rs ≡ true → has_root rs' ≡ true
  spread_top u = grown_used 0 u

  pub spread_live : (o : ℕ) → live rs o ≡ true → live rs' o ≡ true
  unfolding live
  spread_live o h = elim (or_cases (eqb o 0) (row rs o).used h) [
    | inl e ↦ or_left (eqb o 0) (row rs' o).used e
    | inr u ↦ or_right (eqb o 0) (row rs' o).used (grown_used o u)
  ]

  pub spread_rooted : rooted rs ≡ true → 1 ≤ z → rooted rs' ≡ true
  spread_rooted ok low =
      let P = pattern_of none rs in
      let tree = tree_of none rs (omega arith) ok in
      let s : none Star ≡ star least = fun_ext (λ p. refl) in
      let u : Under P w z = unfold pattern_of in tree_under P _ tree z (in_rows none rs z low z_high used_z) in
      let (rank, t) = tree_opened least P _ tree w z n m x (pattern_of none rs').rows u (spread_grown least none s) in
      rooted_from none rs' rank (subst (λ Q. Tree Q rank) (sym (spread_array least none s)) t)

-- new rows above all others come last
sift_none : (f : ℕ → Bool) (L : List ℕ) → ((r : ℕ) → In r L → f r ≡ false) → sift L f ≡ []
unfolding sift
sift_none f [] h = refl
sift_none f (r ∷ L) h = rw (h r (inl refl)) (sift_none f L (λ s i. h s (inr i)))

sift_end : (f g : ℕ → Bool) (n : ℕ) → ((r : ℕ) → r < n → g r ≡ f r) → ((r : ℕ) → n ≤ r → f r ≡ false) → g n ≡ true → g (suc n) ≡ true → ((r : ℕ) → suc (suc n) ≤ r → g r ≡ false) →
    (c a : ℕ) → a ≤ n → suc n < a + c → sift (upto a c) g ≡ sift (upto a c) f ++ (n ∷ suc n ∷ [])
unfolding sift
sift_end f g n same none one two past zero a h l = absurd (omega arith)
sift_end f g n same none one two past (suc zero) a h l = absurd (omega arith)
sift_end f g n same none one two past (suc (suc c)) a h l = elim (cases_eq a n) [
  | inl e ↦
      let ga : g a ≡ true = ap g e ∙ one in
      let gb : g (suc a) ≡ true = ap (λ x. g (suc x)) e ∙ two in
      let fa : f a ≡ false = none a (omega arith) in
      let fb : f (suc a) ≡ false = none (suc a) (omega arith) in
      let G : sift (upto (suc (suc a)) c) g ≡ [] = sift_none g _ (λ r i. past r (let (u, v) = upto_in (suc (suc a)) c r i in omega arith)) in
      let F : sift (upto (suc (suc a)) c) f ≡ [] = sift_none f _ (λ r i. none r (let (u, v) = upto_in (suc (suc a)) c r i in omega arith)) in
      rw (ga, gb, fa, fb, G, F) (ap {B = List ℕ} (λ x. x ∷ suc x ∷ []) e)
  | inr k ↦
      let again : sift (upto (suc a) (suc c)) g ≡ sift (upto (suc a) (suc c)) f ++ (n ∷ suc n ∷ []) = sift_end f g n same none one two past (suc c) (suc a) (omega arith) (omega arith) in
      let s : g a ≡ f a = same a (omega arith) in
      ap₂ (λ b l. cond b (a ∷ l) l) s again ∙ elim (cases_Bool (f a)) [ inl t ↦ rw t refl | inr u ↦ rw u refl ]
]

-- so that the pattern is the one of the expansion
pub spread_last : {T : Type 0} (S : Semiring T) (gain : Test → ℕ → T) → gain Star ≡ star S → (rs : List Seat) → length rs ≡ 16 → (z n : ℕ) (x : Axis) → z < 16 → 1 ≤ n → suc n < 16 → (row rs z).used ≡ true →
    ((r : ℕ) → n ≤ r → (row rs r).used ≡ false) →
    pattern_of gain (spread rs z n (suc n) x) ≡ opened S (pattern_of gain rs) (row rs z).up z n (suc n) x ((pattern_of gain rs).rows ++ (n ∷ suc n ∷ []))
unfolding pattern_of
spread_last {T} S gain stars rs len z n x hz p q live above =
    let free : (row rs n).used ≡ false = above n (omega arith) in
    let spare : (row rs (suc n)).used ≡ false = above (suc n) (omega arith) in
    let at = used_at rs len z n (suc n) x hz p (omega arith) (omega arith) q (omega arith) live free spare in
    let old : ℕ → Bool = (λ i. (row rs i).used) in
    spread_array rs len z n (suc n) x hz p (omega arith) (omega arith) q (omega arith) live free spare S gain stars
    ∙ ap (opened S (pattern_of gain rs) (row rs z).up z n (suc n) x)
    (sift_end old (λ i. (row (spread rs z n (suc n) x) i).used) n
    (λ r l. at r ∙ upd_other (upd old n true) (suc n) true r (omega arith) ∙ upd_other old n true r (omega arith))
    above
    (used_n rs len z n (suc n) x hz p (omega arith) (omega arith) q (omega arith) live free spare)
    (used_m rs len z n (suc n) x hz p (omega arith) (omega arith) q (omega arith) live free spare)
    (λ r l. at r ∙ upd_other (upd old n true) (suc n) true r (omega arith) ∙ upd_other old n true r (omega arith) ∙ above r (omega arith))
    15 1 (omega arith) (omega arith))
