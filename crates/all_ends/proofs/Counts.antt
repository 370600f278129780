-- Numbers summed over the fifteen rows below row 0, and what a change of one row does to them.
use Rattle.std.proofs.Common.{◌≡◌, ℕ, ◌+◌, ◌*◌, ◌<◌, ◌≤◌, Bool, true, false, cond, ◌≢◌, List, [], ◌∷◌, map, length, set, sym, refl, ap, ◌∙◌, subst, inl, inr, arith}
use Rattle.record.specs.Moves.{bit, count}
use Rattle.std.proofs.lemmas.List.{get_or-set_same, get_or-set_other}
use Rattle.ways.specs.Ways.{In, Apart}
use Rattle.ways.proofs.Ends.{lsum, lsum_bound}
use Rattle.pattern.specs.Rows.{Seat, top, row, fifteen}
use Rattle.pattern.specs.Sizes.{how_many}
use Rattle.pattern.proofs.Trees.{in_fifteen, fifteen_apart}

pub sum_same : (L : List ℕ) (f g : ℕ → ℕ) → ((i : ℕ) → In i L → g i ≡ f i) → lsum g L ≡ lsum f L
sum_same [] f g h = refl
sum_same (r ∷ L) f g h = let a = h r (inl refl) in let b = sum_same L f g (λ i j. h i (inr j)) in omega arith

-- one number is another
sum_change : (L : List ℕ) (f g : ℕ → ℕ) (z : ℕ) → In z L → Apart L → ((i : ℕ) → i ≢ z → g i ≡ f i) → lsum g L + f z ≡ lsum f L + g z
sum_change [] f g z i d h = absurd i
sum_change (r ∷ L) f g z (inl e) d h =
    let b = sum_same L f g (λ i j. h i (λ k. d.0 (subst (λ x. In x L) (k ∙ e) j))) in
    let p : f z ≡ f r = ap f e in
    let q : g z ≡ g r = ap g e in
    omega arith
sum_change (r ∷ L) f g z (inr j) d h =
    let a = h r (λ k. d.0 (subst (λ x. In x L) (sym k) j)) in
    let b = sum_change L f g z j d.1 h in
    omega arith

-- a number for each row, summed
unfoldable pub weigh : (Seat → ℕ) → List Seat → ℕ
weigh f rs = lsum (λ i. f (row rs i)) fifteen

pub weigh_change : (f : Seat → ℕ) (rs rs' : List Seat) (z : ℕ) → 1 ≤ z → z < 16 → ((i : ℕ) → i ≢ z → f (row rs' i) ≡ f (row rs i)) → weigh f rs' + f (row rs z) ≡ weigh f rs + f (row rs' z)
unfolding weigh
weigh_change f rs rs' z low high h = sum_change fifteen (λ i. f (row rs i)) (λ i. f (row rs' i)) z (in_fifteen z low high) fifteen_apart h

pub weigh_set : (f : Seat → ℕ) (rs : List Seat) (z : ℕ) (r : Seat) → 1 ≤ z → z < 16 → length rs ≡ 16 → weigh f (set rs z r) + f (row rs z) ≡ weigh f rs + f r
weigh_set f rs z r low high len =
    weigh_change f rs (set rs z r) z low high (λ i k. ap f (get_or-set_other rs z i r top k))
    ∙ ap (λ x. weigh f rs + f x) (get_or-set_same rs z r top (omega arith))

pub weigh_cong : (f g : Seat → ℕ) → ((r : Seat) → f r ≡ g r) → (rs : List Seat) → weigh f rs ≡ weigh g rs
unfolding weigh
weigh_cong f g h rs = sum_same fifteen (λ i. g (row rs i)) (λ i. f (row rs i)) (λ i _. h (row rs i))

pub weigh_bound : (f : Seat → ℕ) (K : ℕ) → ((r : Seat) → f r ≤ K) → (rs : List Seat) → weigh f rs ≤ 15 * K
unfolding weigh
weigh_bound f K h rs = lsum_bound fifteen (λ i. f (row rs i)) K (λ i _. h (row rs i))

-- counting rows is such a sum
count_sum : (L : List ℕ) (f : ℕ → Bool) → count (map f L) ≡ lsum (λ i. bit (f i)) L
count_sum [] f = refl
count_sum (r ∷ L) f = ap (λ n. bit (f r) + n) (count_sum L f)

pub how_many_weigh : (f : Seat → Bool) (rs : List Seat) → how_many f rs ≡ weigh (λ r. bit (f r)) rs
unfolding how_many weigh
how_many_weigh f rs = count_sum fifteen (λ i. f (row rs i))

-- a bit as a choice
pub bit_cond : (b : Bool) → bit b ≡ cond b 1 0
bit_cond true = refl
bit_cond false = refl
