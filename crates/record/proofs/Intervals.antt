-- What the axes say of depths between two places.
use Rattle.std.proofs.Common.{◌≡◌, ℕ, zero, suc, ◌-◌, ◌<◌, ◌≤◌, Bool, true, false, cond, ◌||◌, eqb, ◌≢◌, Some, None, Decides, Option, sym, refl, ap, ◌∙◌, inl, inr, arith}
use Rattle.std.proofs.lemmas.Bool.{eqb-true, eqb-false, eq-eqb, cases_eq, cases_lt, cases_order, false≢true, and_parts, and_from, ltb-true, lt-ltb, or_cases, or_left, or_right, cases_Bool, not-true, not_from_false}
use Rattle.std.proofs.lemmas.Bool.Decides.{Decides-below_or}
use Rattle.record.specs.Axes.{last_before, parent_of, is_place, child, under, descendant, same_place, following_sibling, some_below, next}

abbrev pub LastView : (ℕ → ℕ) → ℕ → ℕ → Option ℕ → Type 0
LastView D k m None = (x : ℕ) → x < k → suc (D x) ≢ m
LastView D k m (Some p) = (p < k) × (suc (D p) ≡ m) × ((x : ℕ) → p < x → x < k → suc (D x) ≢ m)

module _ (D : ℕ → ℕ) where
  view_more : (k m : ℕ) (o : Option ℕ) → suc (D k) ≢ m → LastView D k m o → LastView D (suc k) m o
  view_more k m None ne v = λ x h. elim (cases_eq x k) [ inl e ↦ rw e ne | inr n ↦ v x (omega arith) ]
  view_more k m (Some p) ne v =
      (omega (arith, v.0), v.1, λ x h l. elim (cases_eq x k) [ inl e ↦ rw e ne | inr n ↦ v.2 x h (omega arith) ])

  pub last_view : (k m : ℕ) → LastView D k m (last_before D k m)
  unfolding last_before
  last_view zero m = λ x h. absurd (omega arith)
  last_view (suc k) m = go (eqb (suc (D k)) m) refl (last_view k m)
    where
      go : (b : Bool) → eqb (suc (D k)) m ≡ b → LastView D k m (last_before D k m) → LastView D (suc k) m (cond b (Some k) (last_before D k m))
      go true e v = (omega arith, eqb-true _ _ e, λ x h l. absurd (omega arith))
      go false e v = view_more k m (last_before D k m) (eqb-false _ _ e) v

-- every place strictly between p and q is at depth m or below it
abbrev pub Over : (ℕ → ℕ) → ℕ → ℕ → ℕ → Type 0
Over D m p q = (x : ℕ) → p < x → x < q → m ≤ D x

pub record ChildR (D : ℕ → ℕ) (p q : ℕ) : Type 0 where
  pub before : p < q
  pub level : D q ≡ suc (D p)
  pub over : Over D (suc (D p)) p q

pub record DescR (D : ℕ → ℕ) (p q : ℕ) : Type 0 where
  pub before : p < q
  pub level : suc (D p) ≤ D q
  pub over : Over D (suc (D p)) p q

pub record NextR (D : ℕ → ℕ) (p q : ℕ) : Type 0 where
  pub before : p < q
  pub level : D q ≡ D p
  pub low : 1 ≤ D p
  pub over : Over D (suc (D p)) p q

pub record FollR (D : ℕ → ℕ) (p q : ℕ) : Type 0 where
  pub before : p < q
  pub level : D q ≡ D p
  pub low : 1 ≤ D p
  pub over : Over D (D p) p q

abbrev pub ParentView : (ℕ → ℕ) → ℕ → Option ℕ → Type 0
ParentView D q None = D q ≡ 0
ParentView D q (Some r) = ChildR D r q

pub child_unique : (D : ℕ → ℕ) (p r q : ℕ) → ChildR D p q → ChildR D r q → p ≡ r
child_unique D p r q a b = elim (cases_order p r) [
  | inl e ↦ e
  | inr h ↦ elim h [ inl l ↦ absurd (omega (arith, a.over r)) | inr l ↦ absurd (omega (arith, b.over p)) ]
]

module _ (D : ℕ → ℕ) (root : D 0 ≡ 0) (steps : (i : ℕ) → D (suc i) ≤ suc (D i)) where
  -- a climb meets each depth
  climb : (m p q : ℕ) → p ≤ q → D p ≤ m → m ≤ D q → (x : ℕ) × (p ≤ x) × (x ≤ q) × (D x ≡ m)
  climb m p zero a b c = (p, omega arith, omega arith, omega (arith, ap D (let e : p ≡ 0 = omega arith in e)))
  climb m p (suc q) a b c = elim (cases_eq (D (suc q)) m) [
    | inl e ↦ (suc q, omega arith, omega arith, e)
    | inr n ↦ elim (cases_eq p (suc q)) [
      | inl e ↦ absurd (n (let u : D p ≡ D (suc q) = ap D e in omega arith))
      | inr k ↦ let (x, l, h, e) = climb m p q (omega arith) b (omega (arith, steps q)) in (x, l, omega arith, e)
    ]
  ]

  over_from_last : (p q : ℕ) → LastView D q (D q) (Some p) → Over D (suc (D p)) p q
  over_from_last p q v x h l = elim (cases_lt (D p) (D x)) [
    | inl a ↦ a
    | inr a ↦ let (y, u, w, e) = climb (D p) x q (omega arith) a (omega (arith, v.1)) in
        elim (cases_eq y q) [
          | inl e' ↦ absurd (let f : D y ≡ D q = ap D e' in omega (arith, v.1))
          | inr n ↦ absurd (v.2 y (omega arith) (omega arith) (omega (arith, v.1)))
        ]
  ]

  parent_go : (q : ℕ) (o : Option ℕ) → LastView D q (D q) o → ParentView D q o
  parent_go q None v = elim (cases_eq (D q) 0) [
    | inl e ↦ e
    | inr n ↦ let (x, a, b, e) = climb (D q - 1) 0 q (omega arith) (omega arith) (omega arith) in
        elim (cases_eq x q) [
          | inl e' ↦ absurd (let f : D x ≡ D q = ap D e' in omega arith)
          | inr k ↦ absurd (v x (omega arith) (omega arith))
        ]
  ]
  parent_go q (Some p) v = record { before = v.0; level = sym v.1; over = over_from_last p q v }

  pub parent_view : (q : ℕ) → ParentView D q (parent_of D q)
  unfolding parent_of
  parent_view q = parent_go q (last_before D q (D q)) (last_view D q (D q))

  child_to : (p q : ℕ) (o : Option ℕ) → ParentView D q o → is_place o p ≡ true → ChildR D p q
  unfolding is_place
  child_to p q None v e = absurd (false≢true e)
  child_to p q (Some r) v e = rw (eqb-true r p e) at v

  child_from : (p q : ℕ) (o : Option ℕ) → ParentView D q o → ChildR D p q → is_place o p ≡ true
  unfolding is_place
  child_from p q None v c = absurd (omega arith)
  child_from p q (Some r) v c = eq-eqb r p (child_unique D r p q v c)

  pub child_decides : (p q : ℕ) → Decides (child D p q) (ChildR D p q)
  unfolding child
  child_decides p q = (child_to p q (parent_of D q) (parent_view q), child_from p q (parent_of D q) (parent_view q))

  -- p under r, and r the parent of q
  desc_more : (p r q : ℕ) → DescR D p r → ChildR D r q → DescR D p q
  desc_more p r q a b = record {
    before = omega arith;
    level = omega arith;
    over = λ x h l. elim (cases_order x r) [
      | inl e ↦ rw e a.level
      | inr k ↦ elim k [ inl u ↦ a.over x h u | inr u ↦ omega (arith, b.over x u l) ]
    ];
  }

  under_to : (k p q : ℕ) → under D k p q ≡ true → DescR D p q
  unfolding under
  under_to zero p q e = absurd (false≢true e)
  under_to (suc k) p q e = go (parent_of D q) (parent_view q) e (λ r. under_to k p r)
    where
      go : (o : Option ℕ) → ParentView D q o → (elim o [ None ↦ false | Some r ↦ eqb r p || under D k p r ]) ≡ true → ((r : ℕ) → under D k p r ≡ true → DescR D p r) → DescR D p q
      go None v e h = absurd (false≢true e)
      go (Some r) v e h = elim (or_cases _ _ e) [
        | inl t ↦ let c : ChildR D p q = rw (eqb-true r p t) at v in record { before = c.before; level = omega arith; over = c.over }
        | inr t ↦ desc_more p r q (h r t) v
      ]

  under_from : (k p q : ℕ) → q ≤ k → DescR D p q → under D k p q ≡ true
  unfolding under
  under_from zero p q l d = absurd (omega arith)
  under_from (suc k) p q l d = go (parent_of D q) (parent_view q) (λ r. under_from k p r)
    where
      go : (o : Option ℕ) → ParentView D q o → ((r : ℕ) → r ≤ k → DescR D p r → under D k p r ≡ true) → (elim o [ None ↦ false | Some r ↦ eqb r p || under D k p r ]) ≡ true
      go None v h = absurd (omega arith)
      go (Some r) v h = elim (cases_order r p) [
        | inl e ↦ or_left _ _ (eq-eqb r p e)
        | inr c ↦ elim c [
          | inl u ↦ absurd (omega (arith, v.over p))
          | inr u ↦ or_right _ _ (h r (omega arith) (record { before = u; level = d.over r u v.before; over = λ x a b. d.over x a (omega arith) }))
        ]
      ]

  pub descendant_decides : (p q : ℕ) → Decides (descendant D p q) (DescR D p q)
  unfolding descendant
  descendant_decides p q = (under_to q p q, under_from q p q (omega arith))

  foll_to : (p q : ℕ) (o s : Option ℕ) → ParentView D p o → ParentView D q s → p < q → same_place o s ≡ true → FollR D p q
  unfolding same_place is_place
  foll_to p q None s v w l e = absurd (false≢true e)
  foll_to p q (Some r) None v w l e = absurd (false≢true e)
  foll_to p q (Some r) (Some s) v w l e =
      let u : ChildR D r q = rw (eqb-true s r e) at w in
      record { before = l; level = omega arith; low = omega arith; over = λ x a b. omega (arith, u.over x) }

  pub foll_child : (r p q : ℕ) → ChildR D r p → FollR D p q → ChildR D r q
  foll_child r p q c f = record {
    before = omega arith;
    level = omega arith;
    over = λ x a b. elim (cases_order x p) [
      | inl e ↦ omega (arith, ap D e)
      | inr k ↦ elim k [ inl u ↦ c.over x a u | inr u ↦ omega (arith, f.over x u b) ]
    ];
  }

  foll_from : (p q : ℕ) (o s : Option ℕ) → ParentView D p o → ParentView D q s → FollR D p q → same_place o s ≡ true
  unfolding same_place is_place
  foll_from p q None s v w f = absurd (omega arith)
  foll_from p q (Some r) None v w f = absurd (omega arith)
  foll_from p q (Some r) (Some s) v w f = eq-eqb s r (child_unique D s r q w (foll_child r p q v f))

  pub following_decides : (p q : ℕ) → Decides (following_sibling D p q) (FollR D p q)
  unfolding following_sibling
  following_decides p q = (
    λ e. let (a, b) = and_parts _ _ e in foll_to p q _ _ (parent_view p) (parent_view q) (ltb-true p q a) b,
    λ f. and_from _ _ (lt-ltb p q f.before) (foll_from p q _ _ (parent_view p) (parent_view q) f),
  )

  some_decides : (p n : ℕ) → Decides (some_below n (λ x. following_sibling D p x)) ((k : ℕ) × (k < n) × FollR D p k)
  unfolding some_below
  some_decides p n = Decides-below_or (λ x. following_sibling D p x) (λ x. FollR D p x) (λ n. some_below n (λ x. following_sibling D p x)) (λ x. following_decides p x) refl (λ _. refl) n

  next_to : (p q : ℕ) → FollR D p q → some_below q (λ x. following_sibling D p x) ≡ false → NextR D p q
  next_to p q f e = record {
    before = f.before;
    level = f.level;
    low = f.low;
    over = λ x a b. elim (cases_eq (D x) (D p)) [
      | inl s ↦ absurd (false≢true (sym e ∙ (some_decides p q).1 (x, b, record { before = a; level = s; low = f.low; over = λ y c d. f.over y c (omega arith) })))
      | inr n ↦ omega (arith, f.over x a b)
    ];
  }

  pub next_foll : (p q : ℕ) → NextR D p q → FollR D p q
  next_foll p q n = record { before = n.before; level = n.level; low = n.low; over = λ x a b. omega (arith, n.over x a b) }

  next_first : (p q : ℕ) → NextR D p q → some_below q (λ x. following_sibling D p x) ≡ false
  next_first p q n = elim (cases_Bool (some_below q (λ x. following_sibling D p x))) [
    | inl t ↦ let (x, l, f) = (some_decides p q).0 t in absurd (omega (arith, n.over x f.before l, f.level))
    | inr e ↦ e
  ]

  pub next_decides : (p q : ℕ) → Decides (next D p q) (NextR D p q)
  unfolding next
  next_decides p q = (
    λ e. let (a, b) = and_parts _ _ e in next_to p q ((following_decides p q).0 a) (not-true _ b),
    λ n. and_from _ _ ((following_decides p q).1 (next_foll p q n)) (not_from_false _ (next_first p q n)),
  )
