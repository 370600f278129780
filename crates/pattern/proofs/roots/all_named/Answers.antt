use Rattle.std.proofs.Common.{rules, ◌∙◌, arith}
use borrow.Author.Tests.{tests}
use Rattle.std.proofs.lemmas.Iterator.{YieldsList-from_slice}
use Rattle.std.proofs.lemmas.Iterator.Adapters.{YieldsList-from_skip}
use Rattle.std.proofs.lemmas.Iterator.Search.{all_from_yields_List}
use Rattle.pattern.specs.Rows.{seat}
use Rattle.pattern.specs.Roots.{named}
use Rattle.pattern.proofs.SeatLists.{all_fifteen}
use Rattle.pattern.proofs.roots.all_named.Goals as goal

pub returns : goal.returns
returns c =
    all_from_yields_List (λ x. named (seat x)) _ _ _ c.all.ensures.ran (YieldsList-from_skip 1 (YieldsList-from_slice c.args.rows.now (search rules)) (search rules)) (λ x b q k. search (rules, tests))
    ∙ all_fifteen named c.args.rows.now (omega arith)
