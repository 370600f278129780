use Rattle.std.proofs.Common.{rules, drop, ◌&&◌, eqb, ◌∙◌, arith}
use borrow.Author.Tests.{tests}
use Rattle.std.proofs.lemmas.Iterator.{YieldsList-from_slice}
use Rattle.std.proofs.lemmas.Iterator.Adapters.{YieldsList-from_skip}
use Rattle.std.proofs.lemmas.Iterator.Consumers.{YieldsList-from_filter, count_from_yields_List}
use Rattle.std.proofs.lemmas.List.Sums.{length-filter}
use Rattle.pattern.specs.Rows.{Seat, seat}
use Rattle.pattern.proofs.SeatLists.{count_fifteen}
use Rattle.pattern.proofs.sizes.count_top.Goals as goal

pub returns : goal.returns
returns c =
    count_from_yields_List _ _ c.count.ensures.ran
    (YieldsList-from_filter _ (λ x. (seat x).used && eqb (seat x).up 0) (YieldsList-from_skip 1 (YieldsList-from_slice c.args.rows.now (search rules)) (search rules)) c.filter.ensures.closure (λ x b q k. search (rules, tests)))
    ∙ length-filter (λ x. (seat x).used && eqb (seat x).up 0) (drop 1 c.args.rows.now) ∙ count_fifteen (λ (s : Seat). s.used && eqb s.up 0) c.args.rows.now (omega arith)
