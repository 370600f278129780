use Rattle.std.proofs.Common.{rules, drop, arith, ◌∙◌}
use borrow.Author.Tests.{tests}
use Rattle.std.proofs.lemmas.Iterator.{YieldsList-from_slice}
use Rattle.std.proofs.lemmas.Iterator.Adapters.{YieldsList-from_skip}
use Rattle.std.proofs.lemmas.Iterator.Consumers.{YieldsList-from_filter, count_from_yields_List}
use Rattle.std.proofs.lemmas.List.Sums.{length-filter}
use Rattle.pattern.specs.Rows.{seat}
use Rattle.pattern.proofs.SeatLists.{count_fifteen}
use Rattle.all_ends.specs.Ends.{to_open}
use Rattle.all_ends.proofs.fitting.openings.Goals as goal

-- as in `sizes` of `pattern`
pub returns-clause-value : goal.returns-clause-value
returns-clause-value c =
    count_from_yields_List _ _ c.count.ensures.ran
    (YieldsList-from_filter _ (λ x. to_open (seat x)) (YieldsList-from_skip 1 (YieldsList-from_slice c.args.rows.now (search rules)) (search rules)) c.filter.ensures.closure (λ x b q k. search (rules, tests)))
    ∙ length-filter (λ x. to_open (seat x)) (drop 1 c.args.rows.now) ∙ count_fifteen to_open c.args.rows.now (omega arith)
