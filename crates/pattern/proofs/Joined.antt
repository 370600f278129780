-- The join of two tests holds where both hold.
use Rattle.std.proofs.Common.{◌≡◌, ℕ, Bool, true, false, cond, not, ◌&&◌, eqb, ◌≢◌, Some, None, sym, refl, ◌∙◌, subst, inl, inr}
use Rattle.std.proofs.Math.Bool.{and-true, and_self, and_self_left, not-and_self, and-not_self}
use Rattle.std.proofs.lemmas.Bool.{cases_eq, eq-eqb, ne_eqb}
use Rattle.pattern.specs.declared.row.Test.{Test}
use Rattle.pattern.specs.declared.row.Test.TheVariants.{Any, Star, Label, Root}
use Rattle.pattern.specs.Tests.{passes, joined, JoinTold}

absorb_right : (a b : Bool) → (a && b) ≡ ((a && b) && a)
absorb_right true true = refl
absorb_right true false = refl
absorb_right false b = refl

never_more : (b c : Bool) → (b && (not b && c)) ≡ false
never_more true c = refl
never_more false c = refl

never_last : (b c : Bool) → ((not b && c) && b) ≡ false
never_last true true = refl
never_last true false = refl
never_last false true = refl
never_last false false = refl

-- every test holds somewhere
somewhere : (t : Test) → (lab : ℕ → ℕ) × (p : ℕ) × (passes lab t p ≡ true)
somewhere Any = (λ _. 0, 0, refl)
somewhere Star = (λ _. 0, 1, refl)
somewhere (Label n) = (λ _. n, 1, eq-eqb n n refl)
somewhere Root = (λ _. 0, 0, refl)

labels_apart : (lab : ℕ → ℕ) (n m p : ℕ) → n ≢ m → (passes lab (Label n) p && passes lab (Label m) p) ≡ false
labels_apart lab n m p k = elim (cases_eq (lab p) n) [
  | inl e ↦ let f : eqb (lab p) m ≡ false = ne_eqb (lab p) m (λ h. k (sym e ∙ h)) in rw f (none (eqb p 0) (eqb (lab p) n))
  | inr d ↦ let f : eqb (lab p) n ≡ false = ne_eqb (lab p) n d in rw f (none_first (eqb p 0) (eqb (lab p) m))
]
  where
    none : (a b : Bool) → ((not a && b) && (not a && false)) ≡ false
    none true b = refl
    none false true = refl
    none false false = refl

    none_first : (a b : Bool) → ((not a && false) && (not a && b)) ≡ false
    none_first true b = refl
    none_first false b = refl

pub join_told : (a b : Test) → JoinTold a b (joined a b)
join_told Any b = (λ lab p. refl, somewhere b)
join_told Star Any = (λ lab p. sym (and-true _), somewhere Star)
join_told Star Star = (λ lab p. sym (and_self _), somewhere Star)
join_told Star (Label m) = (λ lab p. sym (and_self_left (not (eqb p 0)) (eqb (lab p) m)), somewhere (Label m))
join_told Star Root = λ lab p. not-and_self (eqb p 0)
join_told (Label n) Any = (λ lab p. sym (and-true _), somewhere (Label n))
join_told (Label n) Star = (λ lab p. absorb_right (not (eqb p 0)) (eqb (lab p) n), somewhere (Label n))
join_told (Label n) (Label m) = elim (cases_eq n m) [
  | inl e ↦ subst (λ x. JoinTold (Label n) (Label m) (cond x (Some (Label n)) None)) (sym (eq-eqb n m e)) (λ lab p. subst (λ x. passes lab (Label n) p ≡ (passes lab (Label n) p && passes lab (Label x) p)) e (sym (and_self _)), somewhere (Label n))
  | inr k ↦ subst (λ x. JoinTold (Label n) (Label m) (cond x (Some (Label n)) None)) (sym (ne_eqb n m k)) (λ lab p. labels_apart lab n m p k)
]
join_told (Label n) Root = λ lab p. never_last (eqb p 0) (eqb (lab p) n)
join_told Root Any = (λ lab p. sym (and-true _), somewhere Root)
join_told Root Star = λ lab p. and-not_self (eqb p 0)
join_told Root (Label m) = λ lab p. never_more (eqb p 0) (eqb (lab p) m)
join_told Root Root = (λ lab p. sym (and_self _), somewhere Root)
