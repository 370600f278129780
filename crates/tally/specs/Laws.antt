-- The laws of sums, and that yes-or-no and the count follow the number of ways.
use Rattle.std.specs.Prelude.{◌≡◌, ℕ, ◌<◌, ◌==◌}
use Rattle.tally.specs.Semirings.{Semiring, Carries, bracket, sum}
use Rattle.tally.specs.Tallies.{naturals, yes_no_ring, count_ring, is_some, counted}

-- the order of two sums does not matter
abbrev pub SumsExchange : {T : Type 0} → Semiring T → Type 0
SumsExchange {T} S =
    (m n : ℕ) (f : ℕ → ℕ → T) → sum S m (λ p. sum S n (λ q. f p q)) ≡ sum S n (λ q. sum S m (λ p. f p q))

-- a sum held at one place is the term there
abbrev pub SumsPick : {T : Type 0} → Semiring T → Type 0
SumsPick {T} S = (n w : ℕ) (f : ℕ → T) → w < n → sum S n (λ z. S.times (bracket S (w == z)) (f z)) ≡ f w

-- there is a way exactly if their number is not 0
abbrev pub YesFollowsTheNumber : Type 0
YesFollowsTheNumber = Carries naturals yes_no_ring is_some

-- the capped count of sums and products is the capped sum and product of the counts
abbrev pub CountFollowsTheNumber : Type 0
CountFollowsTheNumber = Carries naturals count_ring counted

pub record SumLaws {T : Type 0} (S : Semiring T) : Type 0 where
  pub exchange : SumsExchange S
  pub pick : SumsPick S
