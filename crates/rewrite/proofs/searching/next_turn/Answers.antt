use Rattle.std.proofs.Common.{rules, ◌∙◌, arith}
use Rattle.pattern.specs.Rows.{seats}
use Rattle.pattern.proofs.SeatLists.{seats_long}
use Rattle.rewrite.specs.Turns.{expanding, straying, shifting}
use Rattle.rewrite.proofs.Firsts.{found_by, turn_found}
use Rattle.rewrite.proofs.Telling.{told}
use Rattle.rewrite.proofs.searching.next_turn.Goals as goal

pub returns-clause-value : goal.returns-clause-value
returns-clause-value c =
    let e = c.rows-rows.ensures in
    c.unwrap_or.ensures
    ∙ turn_found (seats c.args.pattern.rows) c.first_want.result c.or_else.result c.or_else-2.result (search (rules, found_by expanding)) c.or_else.ensures (λ h. search (rules, found_by straying))
    c.or_else-2.ensures (λ h. search (rules, found_by (shifting (seats c.args.pattern.rows))))

pub returns-clause-told : goal.returns-clause-told
returns-clause-told c = let t = told c.args.pattern (seats_long c.args.pattern.rows ∙ omega arith) in let v = returns-clause-value c in search rules
