-- Rows lead to row 0 exactly if they make a tree.
use Rattle.std.proofs.Common.{◌≡◌, ℕ, zero, suc, ◌+◌, ◌<◌, ◌≤◌, Bool, true, false, cond, not, eqb, ltb, ◌≢◌, List, [], ◌∷◌, length, sym, refl, ap, ◌∙◌, subst, ap₂, inl, inr, arith}
use Rattle.std.proofs.lemmas.List.{get_or_past}
use Rattle.std.proofs.lemmas.Bool.{cases_eq, cases_lt, cases_Bool, eq-eqb, ne_eqb, eqb-true, false≢true, both_ways, and_parts, and_from, or_cases, or_left, or_right, ltb-true, lt-ltb, not-true, not_from_false}
use Rattle.ways.specs.Ways.{In, Apart, remove, Tree}
use Rattle.ways.proofs.RowLists.{remove_here, remove_other, all_decides}
use Rattle.pattern.specs.declared.row.Test.{Test}
use Rattle.pattern.specs.Rows.{Seat, top, row, fifteen, climbs, well_hung, rooted}
use Rattle.pattern.specs.Questions.{sift, pattern_of}

-- lists that are sifted

pub sift_in : (L : List ℕ) (f : ℕ → Bool) (r : ℕ) → In r (sift L f) → In r L × (f r ≡ true)
unfolding sift
sift_in [] f r = λ i. absurd i
sift_in (s ∷ L) f r = elim (cases_Bool (f s)) [
  | inl t ↦ rw t (λ i. elim i [ inl e ↦ (inl e, subst (λ x. f x ≡ true) (sym e) t) | inr j ↦ let (a, b) = sift_in L f r j in (inr a, b) ])
  | inr n ↦ rw n (λ i. let (a, b) = sift_in L f r i in (inr a, b))
]

pub in_sift : (L : List ℕ) (f : ℕ → Bool) (r : ℕ) → In r L → f r ≡ true → In r (sift L f)
unfolding sift
in_sift [] f r i e = absurd i
in_sift (s ∷ L) f r i e = elim (cases_Bool (f s)) [
  | inl t ↦ rw t (elim i [ inl k ↦ inl k | inr j ↦ inr (in_sift L f r j e) ])
  | inr n ↦ rw n (elim i [ inl k ↦ absurd (both_ways _ n (subst (λ x. f x ≡ true) k e)) | inr j ↦ in_sift L f r j e ])
]

pub sift_apart : (L : List ℕ) (f : ℕ → Bool) → Apart L → Apart (sift L f)
unfolding sift
sift_apart [] f d = d
sift_apart (s ∷ L) f d = elim (cases_Bool (f s)) [
  | inl t ↦ rw t (λ i. d.0 (sift_in L f s i).0, sift_apart L f d.1)
  | inr n ↦ rw n (sift_apart L f d.1)
]

pub sift_cong : (L : List ℕ) (f g : ℕ → Bool) → ((r : ℕ) → In r L → f r ≡ g r) → sift L f ≡ sift L g
unfolding sift
sift_cong [] f g h = refl
sift_cong (s ∷ L) f g h = ap₂ (λ b l. cond b (s ∷ l) l) (h s (inl refl)) (sift_cong L f g (λ r i. h r (inr i)))

-- one row is no longer taken
pub sift_drop : (L : List ℕ) (f : ℕ → Bool) (z : ℕ) → Apart L → sift L (λ r. cond (eqb r z) false (f r)) ≡ remove z (sift L f)
unfolding sift remove
sift_drop [] f z d = refl
sift_drop (s ∷ L) f z d = elim (cases_eq s z) [
  | inl e ↦ rw (eq-eqb s z e) (elim (cases_Bool (f s)) [
    | inl t ↦ rw t (sift_cong L _ f (λ r i. let k : eqb r z ≡ false = ne_eqb r z (λ h. d.0 (subst (λ x. In x L) (h ∙ sym e) i)) in rw k refl) ∙ sym (subst (λ x. remove x (s ∷ sift L f) ≡ sift L f) e (remove_here s (sift L f))))
    | inr n ↦ rw n (sift_drop L f z d.1)
  ])
  | inr k ↦ rw (ne_eqb s z k) (elim (cases_Bool (f s)) [
    | inl t ↦ rw t (ap {B = List ℕ} (λ l. s ∷ l) (sift_drop L f z d.1) ∙ sym (remove_other z s (sift L f) k))
    | inr n ↦ rw n (sift_drop L f z d.1)
  ])
]

sift_le : (L : List ℕ) (f : ℕ → Bool) → length (sift L f) ≤ length L
unfolding sift
sift_le [] f = omega arith
sift_le (s ∷ L) f = let h = sift_le L f in elim (cases_Bool (f s)) [ inl t ↦ rw t (omega arith) | inr n ↦ rw n (omega arith) ]

sift_lt : (L : List ℕ) (f : ℕ → Bool) (r : ℕ) → In r L → f r ≡ false → length (sift L f) < length L
unfolding sift
sift_lt [] f r i e = absurd i
sift_lt (s ∷ L) f r i e = elim (cases_Bool (f s)) [
  | inl t ↦ rw t (elim i [ inl k ↦ absurd (both_ways _ e (subst (λ x. f x ≡ true) (sym k) t)) | inr j ↦ let h = sift_lt L f r j e in omega arith ])
  | inr n ↦ rw n (let h = sift_le L f in omega arith)
]

-- the numbers from a on; the library's `range_with_len` goes on at a + 1, which does not compute where suc a does
abbrev pub upto : ℕ → ℕ → List ℕ
upto a zero = []
upto a (suc n) = a ∷ upto (suc a) n

pub upto_in : (a n r : ℕ) → In r (upto a n) → (a ≤ r) × (r < a + n)
upto_in a zero r i = absurd i
upto_in a (suc n) r i = elim i [ inl e ↦ (omega arith, omega arith) | inr j ↦ let (u, v) = upto_in (suc a) n r j in (omega arith, omega arith) ]

in_upto : (a n r : ℕ) → a ≤ r → r < a + n → In r (upto a n)
in_upto a zero r h l = absurd (omega arith)
in_upto a (suc n) r h l = elim (cases_eq r a) [ inl e ↦ inl e | inr k ↦ inr (in_upto (suc a) n r (omega arith) (omega arith)) ]

upto_apart : (a n : ℕ) → Apart (upto a n)
upto_apart a zero = tt
upto_apart a (suc n) = (λ i. let (u, v) = upto_in (suc a) n a i in absurd (omega arith), upto_apart (suc a) n)

pub fifteen_in : (r : ℕ) → In r fifteen → (1 ≤ r) × (r < 16)
fifteen_in r i = upto_in 1 15 r i

pub in_fifteen : (r : ℕ) → 1 ≤ r → r < 16 → In r fifteen
in_fifteen r h l = in_upto 1 15 r h l

pub fifteen_apart : Apart fifteen
fifteen_apart = upto_apart 1 15

-- the way up

abbrev pub height : (ℕ → ℕ) → ℕ → ℕ → ℕ
height up zero r = 0
height up (suc k) r = cond (eqb r 0) 0 (suc (height up k (up r)))

module _ (used : ℕ → Bool) (up : ℕ → ℕ) where
  climbs_on : (k r : ℕ) → r ≢ 0 → climbs used up (suc k) r ≡ true → (used r ≡ true) × (climbs used up k (up r) ≡ true)
  unfolding climbs
  climbs_on k r n e = and_parts _ _ (rw (ne_eqb r 0 n) at e)

  climbs_used : (k r : ℕ) → r ≢ 0 → climbs used up k r ≡ true → used r ≡ true
  unfolding climbs
  climbs_used zero r n e = absurd (n (eqb-true r 0 e))
  climbs_used (suc k) r n e = (climbs_on k r n e).0

  -- more steps are not needed
  height_same : (k r : ℕ) → climbs used up k r ≡ true → height up (suc k) r ≡ height up k r
  unfolding climbs
  height_same zero r e = let z : r ≡ 0 = eqb-true r 0 e in rw z refl
  height_same (suc k) r e = elim (cases_eq r 0) [
    | inl z ↦ rw z refl
    | inr n ↦ let b : eqb r 0 ≡ false = ne_eqb r 0 n in
        let again : height up (suc k) (up r) ≡ height up k (up r) = height_same k (up r) (climbs_on k r n e).1 in
        ap (λ x. cond (eqb r 0) 0 (suc x)) again
  ]

  height_falls : (k r : ℕ) → r ≢ 0 → climbs used up (suc k) r ≡ true → height up (suc k) (up r) < height up (suc k) r
  height_falls k r n e =
      let b : eqb r 0 ≡ false = ne_eqb r 0 n in
      let h : height up (suc k) (up r) ≡ height up k (up r) = height_same k (up r) (climbs_on k r n e).1 in
      let g : height up (suc k) r ≡ suc (height up k (up r)) = ap (λ x. cond x 0 (suc (height up k (up r)))) b in
      omega arith

  -- rows of falling rank come to row 0 in as many steps as there are rows
  climbs_enough : (rank : ℕ → ℕ) (m : ℕ) (L : List ℕ) (r : ℕ) → length L ≤ m → In r (0 ∷ L) → ((s : ℕ) → In s L → (used s ≡ true) × In (up s) (0 ∷ L) × (rank (up s) < rank s)) → climbs used up m r ≡ true
  unfolding climbs
  climbs_enough rank zero [] r l i h = elim i [ inl e ↦ eq-eqb r 0 e | inr j ↦ absurd j ]
  climbs_enough rank zero (s ∷ L) r l i h = absurd (omega arith)
  climbs_enough rank (suc m) L r l (inl e) h = rw e refl
  climbs_enough rank (suc m) L r l (inr i) h =
      let f : ℕ → Bool = (λ s. ltb (rank s) (rank r)) in
      let (u, v, w) = h r i in
      let short : length (sift L f) < length L = sift_lt L f r i (not_below (rank r)) in
      or_right (eqb r 0) _ (and_from _ _ u
      (climbs_enough rank m (sift L f) (up r) (omega arith)
      (down L r (up r) v w)
      (λ s j. let (a, b) = sift_in L f s j in let (x, y, z) = h s a in
      (x, down L r (up s) y (let k : rank s < rank r = ltb-true _ _ b in omega arith), z))))
    where
      not_below : (k : ℕ) → ltb k k ≡ false
      not_below k = elim (cases_Bool (ltb k k)) [ inl t ↦ absurd (let l = ltb-true k k t in omega arith) | inr n ↦ n ]

      down : (L : List ℕ) (r x : ℕ) → In x (0 ∷ L) → rank x < rank r → In x (0 ∷ sift L (λ s. ltb (rank s) (rank r)))
      down L r x (inl e) k = inl e
      down L r x (inr j) k = inr (in_sift L (λ s. ltb (rank s) (rank r)) x j (lt-ltb _ _ k))

module _ {T : Type 0} (gain : Test → ℕ → T) (rs : List Seat) where
  abbrev used : ℕ → Bool
  used i = (row rs i).used

  abbrev ups : ℕ → ℕ
  ups i = (row rs i).up

  pub in_rows : (r : ℕ) → 1 ≤ r → r < 16 → (row rs r).used ≡ true → In r (pattern_of gain rs).rows
  unfolding pattern_of
  in_rows r h l e = in_sift fifteen used r (in_fifteen r h l) e

  pub rows_in : (r : ℕ) → In r (pattern_of gain rs).rows → (1 ≤ r) × (r < 16) × ((row rs r).used ≡ true)
  unfolding pattern_of
  rows_in r i = let (a, b) = sift_in fifteen used r i in let (u, v) = fifteen_in r a in (u, v, b)

  pub tree_of : length rs ≤ 16 → rooted rs ≡ true → Tree (pattern_of gain rs) (height ups 16)
  unfolding pattern_of rooted well_hung
  tree_of len ok = record {
    apart = sift_apart fifteen used fifteen_apart;
    no_root = λ i. let (a, b, c) = rows_in 0 i in absurd (omega arith);
    ups = λ r i. let (a, b, c) = rows_in r i in above r (climbs_on used ups 15 r (omega arith) (climbing r i)).1;
    ranks = λ r i. let (a, b, c) = rows_in r i in height_falls used ups 15 r (omega arith) (climbing r i);
  }
    where
      climbing : (r : ℕ) → In r (sift fifteen used) → climbs used ups 16 r ≡ true
      climbing r i =
          let (a, b) = sift_in fifteen used r i in
          elim (or_cases _ _ ((all_decides fifteen (well_hung used ups)).0 ok r a)) [
            | inl n ↦ absurd (both_ways _ (not-true _ n) b)
            | inr c ↦ c
          ]

      inside : (x : ℕ) → (row rs x).used ≡ true → x < 16
      inside x e = elim (cases_lt x 16) [
        | inl l ↦ l
        | inr l ↦ absurd (false≢true (sym (ap (λ y. y.used) (get_or_past rs x top (omega arith))) ∙ e))
      ]

      above : (r : ℕ) → climbs used ups 15 (ups r) ≡ true → In (ups r) (0 ∷ sift fifteen used)
      above r c = elim (cases_eq (ups r) 0) [
        | inl e ↦ inl e
        | inr n ↦ let u = climbs_used used ups 15 (ups r) n c in inr (in_sift fifteen used (ups r) (in_fifteen (ups r) (omega arith) (inside (ups r) u)) u)
      ]

  pub rooted_from : (rank : ℕ → ℕ) → Tree (pattern_of gain rs) rank → rooted rs ≡ true
  unfolding pattern_of rooted well_hung
  rooted_from rank tree = (all_decides fifteen (well_hung used ups)).1 (λ r i. elim (cases_Bool (used r)) [
    | inl t ↦ or_right (not (used r)) _ (climbs_enough used ups rank 16 (sift fifteen used) r (let h = sift_le fifteen used in omega arith) (inr (in_sift fifteen used r i t))
        (λ s j. ((sift_in fifteen used s j).1, tree.ups s j, tree.ranks s j)))
    | inr n ↦ or_left _ _ (not_from_false _ n)
  ])
