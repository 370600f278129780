-- Finite sums in a commutative semiring.
use Rattle.std.proofs.Common.{◌≡◌, ℕ, zero, suc, ◌<◌, ◌≤◌, Bool, true, false, cond, ◌&&◌, eqb, ◌≢◌, List, [], ◌∷◌, map, sym, refl, ap, ◌∙◌, ap₂, inl, inr, arith}
use Rattle.std.proofs.lemmas.Bool.{cases_eq, eq-eqb, ne_eqb}
use Rattle.tally.specs.Semirings.{Semiring, Carries, bracket, sum, total, product}

module _ {T : Type 0} (S : Semiring T) where
  plus_four : (a b c d : T) → S.plus (S.plus a b) (S.plus c d) ≡ S.plus (S.plus a c) (S.plus b d)
  plus_four a b c d =
      S.plus_assoc a b (S.plus c d) ∙ ap (S.plus a) (sym (S.plus_assoc b c d) ∙ ap (λ x. S.plus x d) (S.plus_comm b c) ∙ S.plus_assoc c b d) ∙ sym (S.plus_assoc a c (S.plus b d))

  pub nought_plus : (a : T) → S.plus S.nought a ≡ a
  nought_plus a = S.plus_comm S.nought a ∙ S.plus_nought a

  pub one_times : (a : T) → S.times S.one a ≡ a
  one_times a = S.times_comm S.one a ∙ S.times_one a

  pub nought_times : (a : T) → S.times S.nought a ≡ S.nought
  nought_times a = S.times_comm S.nought a ∙ S.times_nought a

  pub sum_cong : (n : ℕ) (f g : ℕ → T) → ((p : ℕ) → p < n → f p ≡ g p) → sum S n f ≡ sum S n g
  unfolding sum
  sum_cong zero f g e = refl
  sum_cong (suc n) f g e = ap₂ S.plus (sum_cong n f g (λ p h. e p (omega arith))) (e n (omega arith))

  pub sum_nought : (n : ℕ) → sum S n (λ _. S.nought) ≡ S.nought
  unfolding sum
  sum_nought zero = refl
  sum_nought (suc n) = S.plus_nought _ ∙ sum_nought n

  pub sum_plus : (n : ℕ) (f g : ℕ → T) → sum S n (λ p. S.plus (f p) (g p)) ≡ S.plus (sum S n f) (sum S n g)
  unfolding sum
  sum_plus zero f g = sym (S.plus_nought S.nought)
  sum_plus (suc n) f g = ap (λ x. S.plus x (S.plus (f n) (g n))) (sum_plus n f g) ∙ plus_four _ _ _ _

  pub sum_times : (n : ℕ) (c : T) (f : ℕ → T) → sum S n (λ p. S.times c (f p)) ≡ S.times c (sum S n f)
  unfolding sum
  sum_times zero c f = sym (S.times_nought c)
  sum_times (suc n) c f = ap (λ x. S.plus x (S.times c (f n))) (sum_times n c f) ∙ sym (S.times_plus c _ _)

  pub sum_swap : (m n : ℕ) (f : ℕ → ℕ → T) → sum S m (λ p. sum S n (λ q. f p q)) ≡ sum S n (λ q. sum S m (λ p. f p q))
  unfolding sum
  sum_swap zero n f = sym (sum_nought n)
  sum_swap (suc m) n f = ap (λ x. S.plus x (sum S n (f m))) (sum_swap m n f) ∙ sym (sum_plus n (λ q. sum S m (λ p. f p q)) (f m))

  -- w is not met below n
  pick_none : (n w : ℕ) (G : ℕ → T) → n ≤ w → sum S n (λ z. S.times (bracket S (eqb w z)) (G z)) ≡ S.nought
  unfolding bracket
  pick_none n w G h = sum_cong n _ (λ _. S.nought) (λ z l. let e : eqb w z ≡ false = ne_eqb w z (omega arith) in rw e (nought_times (G z))) ∙ sum_nought n

  pub sum_pick : (n w : ℕ) (G : ℕ → T) → w < n → sum S n (λ z. S.times (bracket S (eqb w z)) (G z)) ≡ G w
  unfolding sum bracket
  sum_pick zero w G h = absurd (omega arith)
  sum_pick (suc n) w G h = elim (cases_eq w n) [
    | inl e ↦
        let b : eqb w n ≡ true = eq-eqb w n e in
        ap₂ S.plus (pick_none n w G (omega arith)) (ap (λ t. S.times (cond t S.one S.nought) (G n)) b ∙ one_times (G n) ∙ ap G (sym e)) ∙ nought_plus (G w)
    | inr k ↦
        let b : eqb w n ≡ false = ne_eqb w n k in
        ap₂ S.plus (sum_pick n w G (omega arith)) (ap (λ t. S.times (cond t S.one S.nought) (G n)) b ∙ nought_times (G n)) ∙ S.plus_nought (G w)
  ]

  pub bracket_and : (x y : Bool) → bracket S (x && y) ≡ S.times (bracket S x) (bracket S y)
  unfolding bracket
  bracket_and true y = sym (one_times _)
  bracket_and false y = sym (nought_times _)

  pub times_total : (c : T) (xs : List T) → S.times c (total S xs) ≡ total S (map (S.times c) xs)
  unfolding total
  times_total c [] = S.times_nought c
  times_total c (x ∷ xs) = S.times_plus c x _ ∙ ap (S.plus (S.times c x)) (times_total c xs)

pub only : {T : Type 0} (S : Semiring T) (n w : ℕ) (f : ℕ → T) → w < n → ((z : ℕ) → z < n → z ≢ w → f z ≡ S.nought) → sum S n f ≡ f w
unfolding sum
only S zero w f h k = absurd (omega arith)
only S (suc n) w f h k = elim (cases_eq w n) [
  | inl e ↦ ap₂ S.plus (sum_cong S n f (λ _. S.nought) (λ z l. k z (omega arith) (omega arith)) ∙ sum_nought S n) (ap f (sym e)) ∙ nought_plus S (f w)
  | inr d ↦ ap₂ S.plus (only S n w f (omega arith) (λ z l u. k z (omega arith) u)) (k n (omega arith) (λ e. d (sym e))) ∙ S.plus_nought (f w)
]

pub bracket_on : {T : Type 0} (S : Semiring T) (b : Bool) → b ≡ true → bracket S b ≡ S.one
unfolding bracket
bracket_on S b e = rw e

pub bracket_off : {T : Type 0} (S : Semiring T) (b : Bool) → b ≡ false → bracket S b ≡ S.nought
unfolding bracket
bracket_off S b e = rw e

-- what a homomorphism carries
module _ {T U : Type 0} {S : Semiring T} {R : Semiring U} {h : T → U} (c : Carries S R h) where
  pub carries_bracket : (b : Bool) → h (bracket S b) ≡ bracket R b
  unfolding bracket
  carries_bracket true = c.one
  carries_bracket false = c.nought

  pub carries_sum : (n : ℕ) (f : ℕ → T) → h (sum S n f) ≡ sum R n (λ p. h (f p))
  unfolding sum
  carries_sum zero f = c.nought
  carries_sum (suc n) f = c.plus (sum S n f) (f n) ∙ ap (λ (x : U). R.plus x (h (f n))) (carries_sum n f)

  pub carries_total : (xs : List T) → h (total S xs) ≡ total R (map h xs)
  unfolding total
  carries_total [] = c.nought
  carries_total (x ∷ xs) = c.plus x (total S xs) ∙ ap (R.plus (h x)) (carries_total xs)

  pub carries_product : (rs : List ℕ) (f : ℕ → T) → h (product S rs f) ≡ product R rs (λ r. h (f r))
  unfolding product
  carries_product [] f = c.one
  carries_product (r ∷ rs) f = c.times (f r) (product S rs f) ∙ ap (R.times (h (f r))) (carries_product rs f)
