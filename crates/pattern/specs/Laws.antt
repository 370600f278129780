-- What holds of the value of every pattern, in every semiring and every record.
use Rattle.std.specs.Prelude.{◌≡◌, ℕ, ◌≤◌, List, ◌++◌, length}
use Rattle.record.specs.Records.{Record, depth_at}
use Rattle.record.specs.declared.axis.Axis.TheVariants.{Itself}
use Rattle.record.specs.declared.place.Place.{Place}
use Rattle.tally.specs.Semirings.{Semiring, sum}
use Rattle.tally.specs.Tallies.{yes_no_ring, count_ring, is_some, counted}
use Rattle.ways.specs.Merging.{Under, merged}
use Rattle.pattern.specs.Questions.{value_at, value_within, ways}
use Rattle.ways.specs.Ways.{upd, In, Apart, remove, Weighted, sum_rows, value}
use Rattle.pattern.specs.declared.base.Pattern.{Pattern}

-- a row that stands where its up-row does may be merged into it
abbrev pub MergingKeepsTheValue : {T : Type 0} → Semiring T → Type 0
MergingKeepsTheValue {T} S =
    (places : List Place) → Record places → (P : Weighted T) (W Z : ℕ) → Under P W Z → P.axis Z ≡ Itself →
    value S (depth_at places) (length places) P ≡ value S (depth_at places) (length places) (merged S P W Z)

-- any row may be summed over last, so that the order of the rows does not matter
abbrev pub AnyRowLast : {T : Type 0} → Semiring T → Type 0
AnyRowLast {T} S =
    (n z : ℕ) (rows : List ℕ) (F : (ℕ → ℕ) → T) (a : ℕ → ℕ) → In z rows → Apart rows →
    sum_rows S n rows F a ≡ sum_rows S n (remove z rows) (λ b. sum S n (λ p. F (upd b z p))) a

-- what the ways that use only the places of a record come to is the same in every record that begins with it
abbrev pub PrefixesKeepTheValue : {T : Type 0} → Semiring T → Type 0
PrefixesKeepTheValue {T} S =
    (places more : List Place) → Record places → (P : Pattern) (p : ℕ) →
    value_within S (length places) (places ++ more) P p ≡ value_at S places P p

-- so more places never lose a way
abbrev pub MorePlacesLoseNoWay : Type 0
MorePlacesLoseNoWay = (places more : List Place) → Record places → (P : Pattern) (p : ℕ) → ways places P p ≤ ways (places ++ more) P p

-- yes-or-no says whether there is a way, and the count how many there are, or where it stops
abbrev pub YesIsAWay : Type 0
YesIsAWay = (places : List Place) (P : Pattern) (p : ℕ) → value_at yes_no_ring places P p ≡ is_some (ways places P p)

abbrev pub CountIsTheWays : Type 0
CountIsTheWays = (places : List Place) (P : Pattern) (p : ℕ) → value_at count_ring places P p ≡ counted (ways places P p)

pub record ValueLaws {T : Type 0} (S : Semiring T) : Type 0 where
  pub merging : MergingKeepsTheValue S
  pub order : AnyRowLast S
  pub prefixes : PrefixesKeepTheValue S
