use Rattle.std.proofs.Common.{rules, refl, ◌∙◌}
use borrow.Author.Tests.{tests}
use Rattle.std.proofs.lemmas.Iterator.{YieldsList-from_range}
use Rattle.std.proofs.lemmas.Iterator.Search.{all_from_yields_List}
use Rattle.pattern.specs.Rows.{seats, row, well_hung, rooted}
use Rattle.pattern.proofs.SeatLists.{all_range}
use Rattle.pattern.proofs.making.is_rooted.Goals as goal

pub returns : goal.returns
unfolding rooted
returns c =
    all_from_yields_List (well_hung (λ i. (row (seats c.args.rows.now) i).used) (λ i. (row (seats c.args.rows.now) i).up)) _ _ _ c.all.ensures.ran (YieldsList-from_range 1 16 15 refl refl) (λ x b q k. search (rules, tests))
    ∙ all_range (well_hung (λ i. (row (seats c.args.rows.now) i).used) (λ i. (row (seats c.args.rows.now) i).up))
