-- following: q is later than p and no descendant, exactly if one pair of siblings lies between.
use Rattle.std.proofs.Common.{◌≡◌, ℕ, zero, suc, ◌<◌, ◌≤◌, true, ◌⊎◌, Decides, sym, subst, inl, inr, arith}
use Rattle.std.proofs.lemmas.Bool.{cases_eq, cases_lt, cases_order, cases_Bool, and_parts, and_from, ltb-true, lt-ltb, not-true, not_from_false, both_ways}
use Rattle.std.proofs.lemmas.Bool.Decides.{Decides-or, Decides-eqb}
use Rattle.record.specs.Axes.{descendant, or_self, following}
use Rattle.record.specs.Laws.{Pair}
use Rattle.record.proofs.Intervals.{ChildR, DescR, FollR, descendant_decides, following_decides}

abbrev pub OrSelf : (ℕ → ℕ) → ℕ → ℕ → Type 0
OrSelf D p q = (p ≡ q) ⊎ DescR D p q

pub record Way (D : ℕ → ℕ) (p q x y : ℕ) : Type 0 where
  pub top : OrSelf D x p
  pub side : FollR D x y
  pub down : OrSelf D y q

module _ (D : ℕ → ℕ) where
  pub way_later : (p q x y : ℕ) → Way D p q x y → (p < y) × (y ≤ q)
  way_later p q x y v = grind (arith, v.top, v.down, cases_order y p)

  way_not : (p q x y : ℕ) → Way D p q x y → DescR D p q → ⊥
  way_not p q x y v d = let l = way_later p q x y v in grind (arith, v.top, v.down)

  pub way_unique : (p q x y x' y' : ℕ) → Way D p q x y → Way D p q x' y' → (x ≡ x') × (y ≡ y')
  way_unique p q x y x' y' v w =
      let l = way_later p q x y v in
      let m = way_later p q x' y' w in
      let e : D x ≡ D x' = grind (arith, v.top, v.down, w.top, w.down, cases_order (D x) (D x')) in
      (grind (arith, v.top, w.top, cases_order x x'), grind (arith, v.down, w.down, cases_order y y'))

  -- the last of the lowest places after p, up to q
  lowest : (p q : ℕ) → p < q → (y : ℕ) × (p < y) × (y ≤ q) × ((x : ℕ) → p < x → x < y → D y ≤ D x) × ((x : ℕ) → y < x → x ≤ q → D y < D x)
  lowest p zero h = absurd (omega arith)
  lowest p (suc q) h = elim (cases_eq p q) [
    | inl e ↦ (suc q, omega arith, omega arith, λ x a b. absurd (omega arith), λ x a b. absurd (omega arith))
    | inr n ↦ let (y, a, b, low, high) = lowest p q (omega arith) in
        elim (cases_lt (D y) (D (suc q))) [
          | inl l ↦ (y, a, omega arith, low, λ x u v. elim (cases_eq x (suc q)) [ inl e ↦ rw e l | inr k ↦ high x u (omega arith) ])
          | inr l ↦ (suc q, omega arith, omega arith, λ x u v. grind (arith, low x, high x, cases_order x y), λ x u v. absurd (omega arith))
        ]
  ]

  -- the ancestor or self of p at depth m
  pub ancestor_at : D 0 ≡ 0 → ((i : ℕ) → D (suc i) ≤ suc (D i)) → (m p : ℕ) → m ≤ D p → (x : ℕ) × (x ≤ p) × (D x ≡ m) × ((z : ℕ) → x < z → z ≤ p → m < D z)
  ancestor_at root steps m zero h = (0, omega arith, omega arith, λ z a b. absurd (omega arith))
  ancestor_at root steps m (suc p) h = elim (cases_eq (D (suc p)) m) [
    | inl e ↦ (suc p, omega arith, e, λ z a b. absurd (omega arith))
    | inr n ↦ let (x, a, e, over) = ancestor_at root steps m p (omega (arith, steps p)) in
        (x, omega arith, e, λ z u v. elim (cases_eq z (suc p)) [ inl k ↦ rw k (omega arith) | inr k ↦ over z u (omega arith) ])
  ]

  -- a later place that is no descendant is reached
  way_exists : D 0 ≡ 0 → ((i : ℕ) → D (suc i) ≤ suc (D i)) → (p q : ℕ) → p < q → ((y : ℕ) → p < y → y ≤ q → 1 ≤ D y) → (DescR D p q → ⊥) → (x : ℕ) × (y : ℕ) × Way D p q x y
  way_exists root steps p q h pos no_desc =
      let (y, a, b, low, high) = lowest p q h in
      let shallow : D y ≤ D p = elim (cases_lt (D p) (D y)) [
        | inl l ↦ absurd (no_desc (record { before = h; level = grind (arith, high q); over = λ x u v. grind (arith, low x, high x, cases_order x y) }))
        | inr l ↦ l
      ] in
      let (x, c, e, over) = ancestor_at root steps (D y) p shallow in (
        x,
        y,
        record {
          top = elim (cases_eq x p) [ inl k ↦ inl k | inr k ↦ inr (record { before = omega arith; level = omega (arith, over p); over = λ z u v. omega (arith, over z) }) ];
          side = record { before = omega arith; level = sym e; low = omega (arith, pos y); over = λ z u v. grind (arith, low z, over z, cases_lt p z) };
          down = elim (cases_eq y q) [ inl k ↦ inl k | inr k ↦ inr (record { before = omega arith; level = high q (omega arith) (omega arith); over = λ z u v. high z u (omega arith) }) ];
        },
      )

module _ (D : ℕ → ℕ) (root : D 0 ≡ 0) (steps : (i : ℕ) → D (suc i) ≤ suc (D i)) where
  pub or_self_decides : (p q : ℕ) → Decides (or_self D p q) (OrSelf D p q)
  unfolding or_self
  or_self_decides p q = Decides-or _ _ (Decides-eqb p q) (descendant_decides D root steps p q)

  pub way_from_pair : (p q x y : ℕ) → Pair D p q x y → Way D p q x y
  way_from_pair p q x y u =
      record { top = (or_self_decides x p).0 u.above; side = (following_decides D root steps x y).0 u.beside; down = (or_self_decides y q).0 u.below }

  pub pair_from_way : (p q x y : ℕ) → Way D p q x y → Pair D p q x y
  pair_from_way p q x y v =
      record { above = (or_self_decides x p).1 v.top; beside = (following_decides D root steps x y).1 v.side; below = (or_self_decides y q).1 v.down }

  pub following_from_way : (p q x y : ℕ) → Way D p q x y → following D p q ≡ true
  unfolding following
  following_from_way p q x y v =
      let k = way_later D p q x y v in
      and_from _ _ (lt-ltb p q (omega arith)) (not_from_false _ (elim (cases_Bool (descendant D p q)) [ inl t ↦ absurd (way_not D p q x y v ((descendant_decides D root steps p q).0 t)) | inr g ↦ g ]))

  pub way_from_following : (n : ℕ) → ((i : ℕ) → 0 < i → i < n → 1 ≤ D i) → (p q : ℕ) → q < n → following D p q ≡ true → (x : ℕ) × (y : ℕ) × Way D p q x y
  unfolding following
  way_from_following n others p q l t =
      let (a, b) = and_parts _ _ t in
      let h : p < q = ltb-true p q a in
      way_exists D root steps p q h (λ y u w. others y (omega arith) (omega arith)) (λ d. both_ways _ (not-true _ b) ((descendant_decides D root steps p q).1 d))

-- the words of the definition: a descendant is a child or a descendant of a child
module _ (D : ℕ → ℕ) (root : D 0 ≡ 0) (steps : (i : ℕ) → D (suc i) ≤ suc (D i)) where
  pub desc_first : (p q : ℕ) → DescR D p q → (x : ℕ) × ChildR D p x × ((x ≡ q) ⊎ DescR D x q)
  desc_first p q d =
      let (x, a, e, over) = ancestor_at D root steps (suc (D p)) q d.level in
      let l : p < x = grind (arith, over p, cases_order p x, d.before) in (
        x,
        record { before = l; level = e; over = λ z u v. d.over z u (omega arith) },
        elim (cases_eq x q) [ inl k ↦ inl k | inr k ↦ inr (record { before = omega arith; level = omega (arith, over q); over = λ z u v. omega (arith, over z) }) ],
      )

  pub desc_then : (p x q : ℕ) → ChildR D p x → (x ≡ q) ⊎ DescR D x q → DescR D p q
  desc_then p x q c o = elim o [
    | inl e ↦ subst (λ y. DescR D p y) e (record { before = c.before; level = omega arith; over = c.over })
    | inr d ↦ record { before = omega arith; level = omega arith; over = λ z u v. grind (arith, cases_order z x) }
  ]
