-- Sums over the places of several rows.
use Rattle.std.proofs.Common.{◌≡◌, ℕ, ◌<◌, ◌≢◌, List, [], ◌∷◌, map, sym, refl, ap, ◌∙◌, inl, inr}
use mathlib.Core.Path.{fun_ext}
use Rattle.std.proofs.lemmas.Bool.{cases_eq, eq-eqb, ne_eqb}
use Rattle.tally.specs.Semirings.{Semiring, sum, total}
use Rattle.tally.proofs.Sums.{sum_cong, sum_nought, sum_plus, sum_swap}
use Rattle.ways.specs.Ways.{upd, In, Apart, remove, sum_rows}

pub upd_same : {A : Type 0} (f : ℕ → A) (r : ℕ) (v : A) → upd f r v r ≡ v
unfolding upd
upd_same f r v = rw (eq-eqb r r refl)

pub upd_other : {A : Type 0} (f : ℕ → A) (r : ℕ) (v : A) (s : ℕ) → s ≢ r → upd f r v s ≡ f s
unfolding upd
upd_other f r v s n = rw (ne_eqb s r n)

pub upd_comm : {A : Type 0} (f : ℕ → A) (r s : ℕ) (u v : A) → r ≢ s → upd (upd f r u) s v ≡ upd (upd f s v) r u
unfolding upd
upd_comm {A} f r s u v n = fun_ext go
  where
    go : (x : ℕ) → upd (upd f r u) s v x ≡ upd (upd f s v) r u x
    go x = elim (cases_eq x s) [
      | inl e ↦ rw (eq-eqb x s e, ne_eqb x r (λ k. n (sym k ∙ e)))
      | inr k ↦ rw (ne_eqb x s k)
    ]

-- two functions that agree up to h agree again after they are changed at one row
pub upd_carries : {T U : Type 0} (h : T → U) (f : ℕ → ℕ → T) (g : ℕ → ℕ → U) (o : ℕ) (v : ℕ → T) (w : ℕ → U) (r q : ℕ) → h (f r q) ≡ g r q → h (v q) ≡ w q → h (upd f o v r q) ≡ upd g o w r q
unfolding upd
upd_carries h f g o v w r q e d = elim (cases_eq r o) [ inl k ↦ rw (eq-eqb r o k) d | inr k ↦ rw (ne_eqb r o k) e ]

module _ {T : Type 0} (S : Semiring T) where
  -- nested sums
  pub sum_rows_cong : (n : ℕ) (rs : List ℕ) (F G : (ℕ → ℕ) → T) → ((a : ℕ → ℕ) → ((r : ℕ) → a r < n) → F a ≡ G a) → (a : ℕ → ℕ) → ((r : ℕ) → a r < n) → sum_rows S n rs F a ≡ sum_rows S n rs G a
  unfolding sum_rows
  sum_rows_cong n [] F G e a h = e a h
  sum_rows_cong n (r ∷ rs) F G e a h = sum_cong S n _ _ (λ p l. sum_rows_cong n rs F G e (upd a r p) (within p l))
    where
      within : (p : ℕ) → p < n → (s : ℕ) → upd a r p s < n
      within p l s = elim (cases_eq s r) [ inl k ↦ rw (k, upd_same a r p) l | inr k ↦ rw (upd_other a r p s k) (h s) ]

  pub sum_rows_nought : (n : ℕ) (rs : List ℕ) (a : ℕ → ℕ) → sum_rows S n rs (λ _. S.nought) a ≡ S.nought
  unfolding sum_rows
  sum_rows_nought n [] a = refl
  sum_rows_nought n (r ∷ rs) a = sum_cong S n _ (λ _. S.nought) (λ p _. sum_rows_nought n rs (upd a r p)) ∙ sum_nought S n

  pub sum_rows_plus : (n : ℕ) (rs : List ℕ) (F G : (ℕ → ℕ) → T) (a : ℕ → ℕ) → sum_rows S n rs (λ b. S.plus (F b) (G b)) a ≡ S.plus (sum_rows S n rs F a) (sum_rows S n rs G a)
  unfolding sum_rows
  sum_rows_plus n [] F G a = refl
  sum_rows_plus n (r ∷ rs) F G a = sum_cong S n _ _ (λ p _. sum_rows_plus n rs F G (upd a r p)) ∙ sum_plus S n _ _

  pub sum_rows_total : {X : Type 0} (n : ℕ) (rs : List ℕ) (F : X → (ℕ → ℕ) → T) (xs : List X) (a : ℕ → ℕ) → sum_rows S n rs (λ b. total S (map (λ x. F x b) xs)) a ≡ total S (map (λ x. sum_rows S n rs (F x) a) xs)
  unfolding total
  sum_rows_total n rs F [] a = sum_rows_nought n rs a
  sum_rows_total n rs F (x ∷ xs) a = sum_rows_plus n rs (F x) (λ b. total S (map (λ x. F x b) xs)) a ∙ ap (S.plus (sum_rows S n rs (F x) a)) (sum_rows_total n rs F xs a)

  -- two rows of the order change places
  pub sum_rows_exchange : (n r s : ℕ) (rs : List ℕ) (F : (ℕ → ℕ) → T) (a : ℕ → ℕ) → r ≢ s → sum_rows S n (r ∷ s ∷ rs) F a ≡ sum_rows S n (s ∷ r ∷ rs) F a
  unfolding sum_rows
  sum_rows_exchange n r s rs F a k =
      sum_swap S n n (λ p q. sum_rows S n rs F (upd (upd a r p) s q))
      ∙ sum_cong S n _ _ (λ q _. sum_cong S n _ _ (λ p _. ap (sum_rows S n rs F) (upd_comm a r s p q k)))

  -- the outermost sum becomes the innermost
  pub push : (n z : ℕ) (rs : List ℕ) (F : (ℕ → ℕ) → T) (a : ℕ → ℕ) → (In z rs → ⊥) → sum S n (λ p. sum_rows S n rs F (upd a z p)) ≡ sum_rows S n rs (λ b. sum S n (λ p. F (upd b z p))) a
  unfolding sum_rows
  push n z [] F a k = refl
  push n z (r ∷ rs) F a k =
      sum_swap S n n (λ p q. sum_rows S n rs F (upd (upd a z p) r q))
      ∙ sum_cong S n _ _ (λ q _. sum_cong S n _ _ (λ p _. ap (sum_rows S n rs F) (upd_comm a z r p q (λ e. k (inl e)))) ∙ push n z rs F (upd a r q) (λ i. k (inr i)))

  -- the sum over a row of the list becomes the innermost
  pub pull : (n z : ℕ) (rs : List ℕ) (F : (ℕ → ℕ) → T) (a : ℕ → ℕ) → In z rs → Apart rs → sum_rows S n rs F a ≡ sum_rows S n (remove z rs) (λ b. sum S n (λ p. F (upd b z p))) a
  unfolding sum_rows remove
  pull n z [] F a i d = absurd i
  pull n z (r ∷ rs) F a i d = elim (cases_eq r z) [
    | inl e ↦ here (sym e)
    | inr k ↦ there k (λ b j. pull n z rs F b j d.1)
  ]
    where
      here : z ≡ r → sum_rows S n (r ∷ rs) F a ≡ sum_rows S n (remove z (r ∷ rs)) (λ b. sum S n (λ p. F (upd b z p))) a
      here e = rw (e, eq-eqb r r refl) (push n r rs F a d.0)

      there : r ≢ z → ((b : ℕ → ℕ) → In z rs → sum_rows S n rs F b ≡ sum_rows S n (remove z rs) (λ b. sum S n (λ p. F (upd b z p))) b) → sum_rows S n (r ∷ rs) F a ≡ sum_rows S n (remove z (r ∷ rs)) (λ b. sum S n (λ p. F (upd b z p))) a
      there k ih = rw (ne_eqb r z k) (sum_cong S n _ _ (λ p _. ih (upd a r p) (⊎-else i)))
        where
          ⊎-else : In z (r ∷ rs) → In z rs
          ⊎-else (inl e) = absurd (k (sym e))
          ⊎-else (inr j) = j
