-- Ways compute.
use Rattle.std.proofs.Common.{◌≡◌, ℕ, List, Option, map, refl, ◌∙◌, ap₂}
use Rattle.std.specs.List.{range_with_len}
use Rattle.record.specs.Axes.{last_before, parent_of, is_place, child, under, descendant, same_place, following_sibling, some_below, next, or_self, following, leads, reaches, holds}
use Rattle.record.specs.Example.{eleven}
use Rattle.record.specs.Records.{depth_at}
use Rattle.tally.specs.Semirings.{bracket, sum, total, product}
use Rattle.tally.specs.Tallies.{naturals}
use Rattle.pattern.specs.Example.{WayExamples, HasWays, ancestors_of_dust, parents_in_bags, all_by_star}
use Rattle.pattern.specs.Rows.{seats}
use Rattle.pattern.specs.declared.row.Row.{Row}
use Rattle.pattern.specs.Questions.{label_at, sift, pattern_of, test_gain, value_within, value_at, ways}
use Rattle.ways.specs.Ways.{upd, remove, all_rows, link, is_way, sum_rows, gains, value, weighted, held}

-- the ways of an array of rows
of_rows : List (Option Row) → ℕ → List ℕ
of_rows rows o =
    map (λ p. value naturals (depth_at eleven) 11 (held naturals (pattern_of (test_gain naturals (label_at eleven)) (seats rows)) o p)) (range_with_len 0 11)

by_rows : (rows : List (Option Row)) (o : ℕ) (numbers : List ℕ) → of_rows rows o ≡ numbers → HasWays rows o numbers
unfolding of_rows ways value_at value_within
by_rows rows o numbers e P r q = ap₂ of_rows r q ∙ e

open_all : ℕ
unfolding of_rows last_before parent_of is_place child under descendant same_place following_sibling some_below next or_self following leads reaches holds bracket sum total product naturals upd remove all_rows link is_way sum_rows gains value weighted held sift pattern_of test_gain
open_all = 0

pub way_examples : WayExamples
unfolding open_all
way_examples = record {
  ancestors = by_rows ancestors_of_dust 2 _ refl;
  parents = by_rows parents_in_bags 3 _ refl;
  stars = by_rows all_by_star 1 _ refl;
}
