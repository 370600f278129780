-- What a first child and a next sibling say of the depths between places.
use Rattle.std.proofs.Common.{◌≡◌, ℕ, suc, ◌<◌, ◌≤◌, ◌⊎◌, inl, inr, arith}
use Rattle.std.proofs.lemmas.Bool.{cases_eq, cases_order}
use Rattle.record.proofs.Intervals.{ChildR, DescR, NextR, FollR}
use Rattle.record.proofs.Pairs.{OrSelf}

module _ (D : ℕ → ℕ) (steps : (i : ℕ) → D (suc i) ≤ suc (D i)) where
  pub first_is : (p c : ℕ) → ChildR D p c → ((k : ℕ) → k < c → ChildR D p k → ⊥) → c ≡ suc p
  first_is p c a none_before = elim (cases_eq c (suc p)) [
    | inl e ↦ e
    | inr k ↦ absurd (none_before (suc p) (omega arith) (record { before = omega arith; level = omega (arith, a.over (suc p), steps p); over = λ x u v. absurd (omega arith) }))
  ]

module _ (D : ℕ → ℕ) where
  pub child_tail : (p q : ℕ) → ChildR D p (suc p) → ChildR D p q → (suc p ≡ q) ⊎ FollR D (suc p) q
  child_tail p q c d = grind (arith, cases_order (suc p) q)

  pub child_tail·1 : (p q : ℕ) → ChildR D p (suc p) → FollR D (suc p) q → ChildR D p q
  child_tail·1 p q c d = grind (arith, cases_order (suc p))

  pub foll_tail : (p r q : ℕ) → NextR D p r → FollR D p q → (r ≡ q) ⊎ FollR D r q
  foll_tail p r q c d = grind (arith, cases_order r q)

  pub foll_tail·1 : (p r q : ℕ) → NextR D p r → FollR D r q → FollR D p q
  foll_tail·1 p r q c d = grind (arith, cases_order r)

  pub next_only : (p r q : ℕ) → NextR D p r → NextR D p q → r ≡ q
  next_only p r q a b = grind (arith, cases_order r q)

  pub next_back : (p r x : ℕ) → NextR D p r → NextR D x r → p ≡ x
  next_back p r x a b = grind (arith, cases_order p x)

  -- the sources of a next sibling
  pub child_back : (p r x : ℕ) → NextR D p r → ChildR D x r → ChildR D x p
  child_back p r x a b = grind (arith, cases_order p x)

  pub child_back·1 : (p r x : ℕ) → NextR D p r → ChildR D x p → ChildR D x r
  child_back·1 p r x a b = grind (arith, cases_order p)

  pub desc_back : (p r x : ℕ) → NextR D p r → DescR D x r → DescR D x p
  desc_back p r x a b = grind (arith, cases_order p x)

  pub desc_back·1 : (p r x : ℕ) → NextR D p r → DescR D x p → DescR D x r
  desc_back·1 p r x a b = grind (arith, cases_order p)

  pub foll_back : (p r x : ℕ) → NextR D p r → FollR D x r → (p ≡ x) ⊎ FollR D x p
  foll_back p r x a b = grind (arith, cases_order p x)

  pub foll_back·1 : (p r x : ℕ) → NextR D p r → FollR D x p → FollR D x r
  foll_back·1 p r x a b = grind (arith, cases_order p)

  -- and of a first child
  pub desc_up : (p c x : ℕ) → ChildR D p c → DescR D x c → (p ≡ x) ⊎ DescR D x p
  desc_up p c x a b = grind (arith, cases_order p x)

  pub desc_up·1 : (p c x : ℕ) → ChildR D p c → DescR D x p → DescR D x c
  desc_up·1 p c x a b = grind (arith, cases_order p)

  pub foll_up : (p x : ℕ) → ChildR D p (suc p) → FollR D x (suc p) → ⊥
  foll_up p x a b = grind (arith, cases_order p x)

  pub child_apart : (p x y q : ℕ) → ChildR D p x → OrSelf D x q → ChildR D p y → OrSelf D y q → x ≡ y
  child_apart p x y q a b c d = grind (arith, b, d, cases_order x y)
