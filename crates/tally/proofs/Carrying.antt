-- The tallies follow the number of ways.
use Rattle.std.proofs.Common.{◌≡◌, ℕ, zero, suc, ◌+◌, ◌*◌, ◌&&◌, ◌||◌, leb, sym, refl, ap, ◌∙◌, mul-zero, zero-mul, mul-suc, arith}
use Rattle.std.proofs.lemmas.Bool.Decides.{nat_tests}
use Rattle.tally.specs.Laws.{YesFollowsTheNumber, CountFollowsTheNumber, SumLaws}
use Rattle.tally.specs.Semirings.{Semiring}
use Rattle.tally.specs.Tallies.{naturals, yes_no, limit, same_count, cap_left, cap_right}
use Rattle.tally.proofs.Sums.{sum_swap, sum_pick}

some_plus : (a b : ℕ) → leb 1 (a + b) ≡ (leb 1 a || leb 1 b)
some_plus a b = grind (arith, nat_tests)

some_times : (a b : ℕ) → leb 1 (a * b) ≡ (leb 1 a && leb 1 b)
some_times zero b = rw zero-mul refl
some_times (suc a) zero = rw mul-zero (grind (arith, nat_tests))
some_times (suc a) (suc b) = let h = mul-suc (suc a) b in grind (arith, nat_tests)

pub yes_follows_the_number : YesFollowsTheNumber
unfolding naturals
yes_follows_the_number = record {
  nought = refl;
  one = refl;
  plus = λ a b. ap yes_no (some_plus a b);
  times = λ a b. ap yes_no (some_times a b);
}

pub count_follows_the_number : CountFollowsTheNumber
unfolding naturals
count_follows_the_number = record {
  nought = refl;
  one = refl;
  plus = λ a b. same_count _ _ (omega arith);
  times = λ a b. same_count _ _ (sym (cap_left a (limit b) ∙ cap_right a b));
}

pub sum_laws : {T : Type 0} (S : Semiring T) → SumLaws S
sum_laws S = record { exchange = λ m n f. sum_swap S m n f; pick = λ n w f h. sum_pick S n w f h }
