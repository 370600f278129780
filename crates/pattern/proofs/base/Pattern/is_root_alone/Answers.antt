use Rattle.std.proofs.Common.{Bool, ◌&&◌, ap, ◌∙◌, sym}
use Rattle.ways.specs.Ways.{all_rows}
use Rattle.pattern.specs.Roots.{is_root, named, root_alone}
use Rattle.pattern.specs.Rows.{Seat, seats, row, fifteen}
use Rattle.pattern.proofs.SeatLists.{row_seats}
use Rattle.pattern.proofs.base.Pattern.is_root_alone.Goals as goal

pub returns-then-asks_for_root : goal.returns-then-asks_for_root
unfolding root_alone
returns-then-asks_for_root c =
    let rest : Bool = all_rows fifteen (λ i. named (row (seats c.args.self.rows) i)) in
    c.all_named.ensures ∙ ap (λ (b : Bool). b && rest) (c.if-asks_for_root.ensures ∙ sym (ap (λ (s : Seat). is_root s.test) (row_seats c.args.self.rows 0)))

pub returns-else-asks_for_root : goal.returns-else-asks_for_root
unfolding root_alone
returns-else-asks_for_root c =
    let rest : Bool = all_rows fifteen (λ i. named (row (seats c.args.self.rows) i)) in
    c.if-asks_for_root.false ∙ ap (λ (b : Bool). b && rest) (c.if-asks_for_root.ensures ∙ sym (ap (λ (s : Seat). is_root s.test) (row_seats c.args.self.rows 0)))
