-- The natural numbers, yes or no, and the capped count, as semirings.
use Rattle.std.specs.Prelude.{◌≡◌, ℕ, zero, suc, ◌+◌, ◌*◌, ◌≤◌, min, Bool, true, false, ◌&&◌, ◌||◌, nat_le}
use Rattle.std.proofs.Common.{sym, ap, subst, ◌∙◌, inl, inr, mul_comm, mul_assoc, mul-add, mul-suc, mul-zero, arith}
use Rattle.std.proofs.Math.Bool.{or_comm, or_assoc, and_comm, and_assoc, and-or_distrib_left}
use Rattle.std.proofs.Math.Bridge.{le_prop}
use Rattle.std.proofs.lemmas.Bool.{cases_lt}
use Rattle.tally.specs.Limits.{max_count}
use Rattle.tally.specs.Semirings.{Semiring}
use Rattle.tally.specs.declared.counts.YesNo.{YesNo}
use Rattle.tally.specs.declared.counts.Count.{Count}

-- the natural numbers: ways are counted in them
unfoldable pub naturals : Semiring ℕ
naturals = record {
  nought = 0;
  one = 1;
  plus = ◌+◌;
  times = ◌*◌;
  plus_assoc = λ a b c. omega arith;
  plus_comm = λ a b. omega arith;
  plus_nought = λ a. omega arith;
  times_assoc = λ a b c. omega arith;
  times_comm = λ a b. omega arith;
  times_one = λ a. omega arith;
  times_nought = λ a. omega arith;
  times_plus = λ a b c. omega arith;
}

abbrev pub yes_no : Bool → YesNo
yes_no b = record { yes = b }

-- or for plus, and for times
abbrev pub yes_no_ring : Semiring YesNo
yes_no_ring = record {
  nought = yes_no false;
  one = yes_no true;
  plus = λ x y. yes_no (x.yes || y.yes);
  times = λ x y. yes_no (x.yes && y.yes);
  plus_assoc = λ x y z. ap yes_no (or_assoc x.yes y.yes z.yes);
  plus_comm = λ x y. ap yes_no (or_comm x.yes y.yes);
  plus_nought = λ x. ap yes_no (or_comm x.yes false);
  times_assoc = λ x y z. ap yes_no (and_assoc x.yes y.yes z.yes);
  times_comm = λ x y. ap yes_no (and_comm x.yes y.yes);
  times_one = λ x. ap yes_no (and_comm x.yes true);
  times_nought = λ x. ap yes_no (and_comm x.yes false);
  times_plus = λ x y z. ap yes_no (and-or_distrib_left x.yes y.yes z.yes);
}

abbrev made : (n : ℕ) → n ≤ max_count → Count
made n p = record { value = n; within = p }

-- a count is known by its value
same_made : (m n : ℕ) (p : m ≤ max_count) (q : n ≤ max_count) → m ≡ n → made m p ≡ made n q
same_made m n p q e =
    let P : ℕ → Type 0 = λ k. (r : k ≤ max_count) → made m p ≡ made k r in
    subst P e (λ r. ap (made m) (le_prop p r)) q

pub same_count : (x y : Count) → x.value ≡ y.value → x ≡ y
same_count x y e = same_made x.value y.value x.within y.within e

abbrev pub limit : ℕ → ℕ
limit n = min n max_count

pub cap_within : (n : ℕ) → limit n ≤ max_count
cap_within n = omega arith

-- n, or where a count stops if that is less
abbrev pub counted : ℕ → Count
counted n = record { value = limit n; within = cap_within n }

-- a factor may be capped before or after
pub cap_left : (a b : ℕ) → limit (limit a * b) ≡ limit (a * b)
cap_left a zero = simp mul-zero
cap_left a (suc b) = elim (cases_lt a max_count) [
  | inl lt ↦ let e : limit a ≡ a = omega arith in rw e
  | inr ge ↦
      let e : limit a ≡ max_count = omega arith in
      let x = mul-suc max_count b in
      let y = mul-suc a b in
      rw e (omega arith)
]

pub cap_right : (a b : ℕ) → limit (a * limit b) ≡ limit (a * b)
cap_right a b = ap limit (mul_comm a (limit b)) ∙ cap_left b a ∙ ap limit (mul_comm b a)

-- plus and times of numbers, capped
abbrev pub count_ring : Semiring Count
count_ring = record {
  nought = counted 0;
  one = counted 1;
  plus = λ x y. counted (x.value + y.value);
  times = λ x y. counted (x.value * y.value);
  plus_assoc = λ x y z. same_count _ _ (omega arith);
  plus_comm = λ x y. same_count _ _ (omega arith);
  plus_nought = λ x. let h = x.within in same_count _ _ (omega arith);
  times_assoc = λ x y z. same_count _ _ (cap_left (x.value * y.value) z.value ∙ ap limit (mul_assoc x.value y.value z.value) ∙ sym (cap_right x.value (y.value * z.value)));
  times_comm = λ x y. same_count _ _ (ap limit (mul_comm x.value y.value));
  times_one = λ x. let h = x.within in same_count _ _ (omega arith);
  times_nought = λ x. same_count _ _ (omega arith);
  times_plus = λ x y z. same_count _ _ (cap_right x.value (y.value + z.value) ∙ omega (arith, mul-add x.value y.value z.value));
}

-- what a number of ways is to each
abbrev pub is_some : ℕ → YesNo
is_some n = yes_no (nat_le 1 n)
