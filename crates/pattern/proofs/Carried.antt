-- A homomorphism of semirings carries the value of a pattern.
use Rattle.std.proofs.Common.{◌≡◌, ℕ, eqb, List, [], ◌∷◌, length, sym, refl, ap, ◌∙◌, ap₂}
use mathlib.Core.Path.{fun_ext}
use Rattle.record.specs.Records.{depth_at}
use Rattle.record.specs.declared.place.Place.{Place}
use Rattle.tally.specs.Semirings.{Semiring, Carries, sum}
use Rattle.tally.proofs.Carrying.{yes_follows_the_number, count_follows_the_number}
use Rattle.tally.proofs.Sums.{carries_bracket, carries_sum, carries_product}
use Rattle.pattern.specs.Laws.{YesIsAWay, CountIsTheWays}
use Rattle.pattern.specs.Questions.{label_at, pattern_of, test_gain, value_within, value_at, ways}
use Rattle.pattern.specs.Rows.{seats, row}
use Rattle.ways.specs.Ways.{upd, Weighted, link, is_way, sum_rows, gains, value, weighted, held}
use Rattle.pattern.specs.declared.base.Pattern.{Pattern}
use Rattle.ways.proofs.RowSums.{upd_carries}

module _ {T U : Type 0} {S : Semiring T} {R : Semiring U} {h : T → U} (c : Carries S R h) where
  carries_rows : (n : ℕ) (rs : List ℕ) (F : (ℕ → ℕ) → T) (a : ℕ → ℕ) → h (sum_rows S n rs F a) ≡ sum_rows R n rs (λ b. h (F b)) a
  unfolding sum_rows
  carries_rows n [] F a = refl
  carries_rows n (r ∷ rs) F a = carries_sum c n _ ∙ ap (sum R n) (fun_ext (λ p. carries_rows n rs F (upd a r p)))

  abbrev carried : Weighted T → Weighted U
  carried P = record { rows = P.rows; up = P.up; axis = P.axis; gain = λ r p. h (P.gain r p) }

  carries_value : (D : ℕ → ℕ) (n : ℕ) (P : Weighted T) → h (value S D n P) ≡ value R D n (carried P)
  unfolding value gains is_way link
  carries_value D n P =
      carries_rows n P.rows _ (λ _. 0)
      ∙ ap (λ F. sum_rows R n P.rows F (λ _. 0)) (fun_ext (λ a. c.times _ _ ∙ ap₂ R.times (carries_bracket c (is_way D P a)) (carries_product c (0 ∷ P.rows) (λ r. P.gain r (a r)))))

  -- the gain of a test, with the output held
  carries_held : (lab : ℕ → ℕ) (P : Pattern) (p r q : ℕ) →
      h ((held S (pattern_of (test_gain S lab) (seats P.rows)) P.output p).gain r q) ≡ (held R (pattern_of (test_gain R lab) (seats P.rows)) P.output p).gain r q
  unfolding held weighted pattern_of test_gain
  carries_held lab P p r q =
      upd_carries h _ _ P.output _ _ r q (carries_bracket c _) (c.times _ _ ∙ ap₂ R.times (carries_bracket c (eqb p q)) (carries_bracket c _))

  pub carries_value_at : (places : List Place) (P : Pattern) (p : ℕ) → h (value_at S places P p) ≡ value_at R places P p
  unfolding value_at value_within
  carries_value_at places P p =
      carries_value (depth_at places) (length places) _
      ∙ ap (value R (depth_at places) (length places)) (unfold held weighted pattern_of in
      ap (λ g. record { rows = (pattern_of (test_gain R (label_at places)) (seats P.rows)).rows; up = λ r. (row (seats P.rows) r).up; axis = λ r. (row (seats P.rows) r).axis; gain = g })
      (fun_ext (λ r. fun_ext (λ q. carries_held (label_at places) P p r q))))

pub yes_is_a_way : YesIsAWay
unfolding ways
yes_is_a_way places P p = sym (carries_value_at yes_follows_the_number places P p)

pub count_is_the_ways : CountIsTheWays
unfolding ways
count_is_the_ways places P p = sym (carries_value_at count_follows_the_number places P p)
