use Rattle.std.proofs.Common.{rules, ◌∙◌, arith}
use borrow.Author.Tests.{tests}
use Rattle.std.proofs.lemmas.Iterator.{YieldsList-from_slice}
use Rattle.std.proofs.lemmas.Iterator.Adapters.{YieldsList-from_skip}
use Rattle.std.proofs.lemmas.Iterator.Search.{all_from_yields_List}
use Rattle.pattern.specs.Rows.{seat, ahead, all_along}
use Rattle.pattern.proofs.SeatLists.{all_fifteen}
use Rattle.pattern.proofs.looking.all_go_along.Goals as goal

-- as in `all_named`, twice in `sizes`, and in `openings` of `all_ends`: a lemma over the closure's type would be longer than what it saves
pub returns : goal.returns
unfolding all_along
returns c =
    all_from_yields_List (λ x. ahead (seat x)) _ _ _ c.all.ensures.ran (YieldsList-from_skip 1 (YieldsList-from_slice c.args.rows.now (search rules)) (search rules)) (λ x b q k. search (rules, tests))
    ∙ all_fifteen ahead c.args.rows.now (omega arith)
