-- Lists of rows, and what holds of all of them.
use Rattle.std.proofs.Common.{◌≡◌, ℕ, Bool, true, ◌&&◌, ◌≢◌, List, [], ◌∷◌, Decides, sym, refl, ap, ◌∙◌, subst, ap₂, inl, inr}
use Rattle.std.proofs.lemmas.Bool.{cases_eq, eq-eqb, ne_eqb, and_parts, and_from}
use Rattle.std.proofs.lemmas.Bool.Decides.{same_from_decides}
use Rattle.tally.specs.Semirings.{Semiring, product}
use Rattle.ways.specs.Ways.{In, Apart, remove, all_rows}

-- lists of rows

pub remove_here : (z : ℕ) (rs : List ℕ) → remove z (z ∷ rs) ≡ rs
unfolding remove
remove_here z rs = rw (eq-eqb z z refl)

pub remove_other : (z r : ℕ) (rs : List ℕ) → r ≢ z → remove z (r ∷ rs) ≡ r ∷ remove z rs
unfolding remove
remove_other z r rs n = rw (ne_eqb r z n)

-- cases of the head
pub by_head : (z r : ℕ) (rs : List ℕ) (P : List ℕ → Type 0) → (r ≡ z → P rs) → (r ≢ z → P (r ∷ remove z rs)) → P (remove z (r ∷ rs))
by_head z r rs P f g = elim (cases_eq r z) [
  | inl e ↦ subst (λ x. P (remove z (x ∷ rs))) (sym e) (subst P (sym (remove_here z rs)) (f e))
  | inr k ↦ subst P (sym (remove_other z r rs k)) (g k)
]

pub in_sub : (x z : ℕ) (rs : List ℕ) → In x (remove z rs) → In x rs
unfolding remove
in_sub x z [] = λ i. i
in_sub x z (r ∷ rs) = by_head z r rs (λ l. In x l → In x (r ∷ rs)) (λ _ i. inr i) (λ _ i. elim i [ inl e ↦ inl e | inr j ↦ inr (in_sub x z rs j) ])

pub not_in : (z : ℕ) (rs : List ℕ) → Apart rs → In z (remove z rs) → ⊥
unfolding remove
not_in z [] d = λ i. i
not_in z (r ∷ rs) d = by_head z r rs (λ l. In z l → ⊥) (λ e i. d.0 (subst (λ x. In x rs) (sym e) i)) (λ k i. elim i [ inl e ↦ k (sym e) | inr j ↦ not_in z rs d.1 j ])

pub apart_remove : (z : ℕ) (rs : List ℕ) → Apart rs → Apart (remove z rs)
unfolding remove
apart_remove z [] d = d
apart_remove z (r ∷ rs) d = by_head z r rs Apart (λ _. d.1) (λ _. (λ i. d.0 (in_sub r z rs i), apart_remove z rs d.1))

pub in_stays : (x z : ℕ) (rs : List ℕ) → x ≢ z → In x rs → In x (remove z rs)
unfolding remove
in_stays x z [] n i = i
in_stays x z (r ∷ rs) n i = by_head z r rs (λ l. In x l)
    (λ e. elim i [ inl u ↦ absurd (n (u ∙ e)) | inr j ↦ j ])
    (λ k. elim i [ inl u ↦ inl u | inr j ↦ inr (in_stays x z rs n j) ])

-- all rows pass

pub all_decides : (rs : List ℕ) (f : ℕ → Bool) → Decides (all_rows rs f) ((r : ℕ) → In r rs → f r ≡ true)
unfolding all_rows
all_decides [] f = (λ _ r i. absurd i, λ _. refl)
all_decides (s ∷ rs) f = (
  λ e r i. elim i [ inl u ↦ rw u (and_parts _ _ e).0 | inr j ↦ (all_decides rs f).0 (and_parts _ _ e).1 r j ],
  λ h. and_from _ _ (h s (inl refl)) ((all_decides rs f).1 (λ r i. h r (inr i))),
)

pub all_cong : (rs : List ℕ) (f g : ℕ → Bool) → ((r : ℕ) → In r rs → f r ≡ g r) → all_rows rs f ≡ all_rows rs g
unfolding all_rows
all_cong [] f g h = refl
all_cong (s ∷ rs) f g h = ap₂ ◌&&◌ (h s (inl refl)) (all_cong rs f g (λ r i. h r (inr i)))

pub all_remove : (rs : List ℕ) (f : ℕ → Bool) (z : ℕ) → In z rs → all_rows rs f ≡ (f z && all_rows (remove z rs) f)
all_remove rs f z i = same_from_decides {P = (r : ℕ) → In r rs → f r ≡ true} _ _ (all_decides rs f) (
  λ e r k. let (a, b) = and_parts _ _ e in
      elim (cases_eq r z) [ inl u ↦ rw u a | inr n ↦ (all_decides (remove z rs) f).0 b r (in_stays r z rs n k) ],
  λ h. and_from _ _ (h z i) ((all_decides (remove z rs) f).1 (λ r k. h r (in_sub r z rs k))),
)

-- products

module _ {T : Type 0} (S : Semiring T) where
  pub product_cong : (rs : List ℕ) (f g : ℕ → T) → ((r : ℕ) → In r rs → f r ≡ g r) → product S rs f ≡ product S rs g
  unfolding product
  product_cong [] f g h = refl
  product_cong (s ∷ rs) f g h = ap₂ S.times (h s (inl refl)) (product_cong rs f g (λ r i. h r (inr i)))

  pub times_left_comm : (a b c : T) → S.times a (S.times b c) ≡ S.times b (S.times a c)
  times_left_comm a b c = sym (S.times_assoc a b c) ∙ ap (λ x. S.times x c) (S.times_comm a b) ∙ S.times_assoc b a c

  pub product_remove : (z : ℕ) (rs : List ℕ) (f : ℕ → T) → In z rs → product S rs f ≡ S.times (f z) (product S (remove z rs) f)
  unfolding product
  product_remove z [] f i = absurd i
  product_remove z (r ∷ rs) f i = by_head z r rs (λ l. S.times (f r) (product S rs f) ≡ S.times (f z) (product S l f))
      (λ e. rw e)
      (λ k. elim i [ inl e ↦ absurd (k (sym e)) | inr j ↦ ap (S.times (f r)) (product_remove z rs f j) ∙ times_left_comm _ _ _ ])

  -- one factor is multiplied by k
  pub product_grow : (w : ℕ) (rs : List ℕ) (f g : ℕ → T) (k : T) → In w rs → Apart rs → g w ≡ S.times (f w) k → ((r : ℕ) → r ≢ w → g r ≡ f r) → product S rs g ≡ S.times k (product S rs f)
  unfolding product
  product_grow w [] f g k i d e h = absurd i
  product_grow w (r ∷ rs) f g k i d e h = elim i [
    | inl u ↦ ap₂ S.times (ap g (sym u) ∙ e ∙ ap (λ x. S.times (f x) k) u) (product_cong rs g f (λ s j. h s (λ v. d.0 (subst (λ x. In x rs) (v ∙ u) j))))
        ∙ ap (λ x. S.times x (product S rs f)) (S.times_comm (f r) k) ∙ S.times_assoc k (f r) _
    | inr j ↦ ap₂ S.times (h r (λ v. d.0 (subst (λ x. In x rs) (sym v) j))) (product_grow w rs f g k j d.1 e h) ∙ times_left_comm _ _ _
  ]
