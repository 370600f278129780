-- Merging a row by self keeps the ways of a pattern.
use Rattle.std.proofs.Common.{◌≡◌, ℕ, ◌<◌, ◌≤◌, true, cond, eqb, List, length, Some, None, Option, sym, ap, ◌∙◌, MatchOption}
use Rattle.record.specs.Records.{Record, depth_at}
use Rattle.record.specs.declared.axis.Axis.TheVariants.{Itself}
use Rattle.record.specs.declared.place.Place.{Place}
use Rattle.tally.specs.Semirings.{bracket}
use Rattle.tally.specs.Tallies.{naturals}
use Rattle.pattern.specs.Questions.{label_at, pattern_of, test_gain, value_within, value_at, ways, ways_of_rest}
use Rattle.pattern.specs.Rows.{seats, row, Merged}
use Rattle.pattern.specs.Tests.{joined}
use Rattle.ways.specs.Ways.{value, weighted, held}
use Rattle.pattern.specs.declared.base.Pattern.{Pattern}
use Rattle.pattern.proofs.Kept.{self_kept, merged_kept, merged_dropped}

module _ (places : List Place) (rec : Record places) (P : Pattern) (len : length (seats P.rows) ≡ 16) (z : ℕ) (low : 1 ≤ z) (high : z < 16) (live_z : (row (seats P.rows) z).used ≡ true) (by_self : (row (seats P.rows) z).axis ≡ Itself) where
  pub merged_ways : (o : Option Pattern) → MatchOption o (joined (row (seats P.rows) (row (seats P.rows) z).up).test (row (seats P.rows) z).test ≡ None) (λ q. Merged (seats P.rows) z (seats q.rows) × (q.output ≡ cond (eqb P.output z) (row (seats P.rows) z).up P.output)) → (p : ℕ) → ways places P p ≡ ways_of_rest places o p
  unfolding ways ways_of_rest value_at value_within held naturals
  merged_ways None e p =
      self_kept naturals (depth_at places) (length places) rec.some_place (label_at places) (seats P.rows) len P.ok z low high live_z by_self P.output (λ q. bracket naturals (eqb p q))
      ∙ merged_dropped naturals (depth_at places) (length places) rec.some_place (label_at places) (seats P.rows) len P.ok z low high live_z e P.output (λ q. bracket naturals (eqb p q))
  merged_ways (Some q) m p =
      self_kept naturals (depth_at places) (length places) rec.some_place (label_at places) (seats P.rows) len P.ok z low high live_z by_self P.output (λ r. bracket naturals (eqb p r))
      ∙ merged_kept naturals (depth_at places) (length places) rec.some_place (label_at places) (seats P.rows) len P.ok z low high live_z (seats q.rows) m.0 P.output (λ r. bracket naturals (eqb p r))
      ∙ ap (λ o. value naturals (depth_at places) (length places) (weighted naturals (pattern_of (test_gain naturals (label_at places)) (seats q.rows)) o (λ r. bracket naturals (eqb p r)))) (sym m.1)
