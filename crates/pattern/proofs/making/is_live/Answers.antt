use Rattle.std.proofs.Common.{Bool, ◌||◌, sym, ap, ◌∙◌}
use Rattle.std.proofs.lemmas.Bool.{eq-eqb, ne_eqb, or_left}
use Rattle.pattern.specs.Rows.{seats, row, live}
use Rattle.pattern.proofs.Lookups.{used_at}
use Rattle.pattern.proofs.making.is_live.Goals as goal

pub returns-then-r-eq0 : goal.returns-then-r-eq0
unfolding live
returns-then-r-eq0 c = eq-eqb _ _ c.if-r-eq0.true ∙ sym (or_left _ _ (eq-eqb _ _ c.if-r-eq0.true))

pub returns-else-r-eq0 : goal.returns-else-r-eq0
unfolding live
returns-else-r-eq0 c =
    c.is_some.ensures ∙ sym (used_at c.args.rows.now c.args.r c.row_at.result c.row_at.ensures)
    ∙ sym (ap (λ (b : Bool). b || (row (seats c.args.rows.now) c.args.r).used) (ne_eqb _ _ c.if-r-eq0.false))
