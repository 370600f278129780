use Rattle.std.proofs.Common.{true, sym, ◌∙◌, arith, ◌+◌}
use Rattle.pattern.proofs.Lookups.{used_at, free_low, free_high, free_first, free_pair}
use Rattle.pattern.proofs.base.Pattern.are_free.Goals as goal

pub returns-then-is_none : goal.returns-then-is_none
returns-then-is_none c =
    sym (free_pair c.args.self.rows c.args.n true c.is_none-then-is_none.result (omega arith) (omega arith)
    (used_at c.args.self.rows c.args.n c.row_at.result c.row_at.ensures ∙ c.if-is_none.ensures)
    (used_at c.args.self.rows (c.args.n + 1) c.row_at-then-is_none.result c.row_at-then-is_none.ensures ∙ c.is_none-then-is_none.ensures))

pub returns-else-is_none : goal.returns-else-is_none
returns-else-is_none c = c.if-is_none.false ∙ sym (free_first c.args.self.rows c.args.n (used_at c.args.self.rows c.args.n c.row_at.result c.row_at.ensures ∙ c.if-is_none.ensures))

pub returns-in_default : goal.returns-in_default
returns-in_default c = sym (free_low c.args.self.rows c.args.n (omega arith))

pub returns-in_default-2 : goal.returns-in_default-2
returns-in_default-2 c = sym (free_high c.args.self.rows c.args.n (omega arith))
