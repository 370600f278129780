use Rattle.std.proofs.Common.{Bool, not, ◌||◌, sym, ap, ◌∙◌}
use Rattle.std.proofs.lemmas.Bool.{or_left}
use Rattle.pattern.specs.Rows.{seats, row, climbs, well_hung}
use Rattle.pattern.proofs.Lookups.{used_at}
use Rattle.pattern.proofs.making.is_well_hung.Goals as goal

pub returns-then-is_none : goal.returns-then-is_none
unfolding well_hung
returns-then-is_none c =
    c.if-is_none.true ∙ sym (or_left _ _ (ap not (used_at c.args.rows.now c.args.r c.row_at.result c.row_at.ensures ∙ c.if-is_none.ensures)))

pub returns-else-is_none : goal.returns-else-is_none
unfolding well_hung
returns-else-is_none c =
    let rest : Bool = climbs (λ i. (row (seats c.args.rows.now) i).used) (λ i. (row (seats c.args.rows.now) i).up) 16 c.args.r in
    c.leads_to_root.ensures
    ∙ sym (ap (λ (b : Bool). not b || rest) (used_at c.args.rows.now c.args.r c.row_at.result c.row_at.ensures ∙ c.if-is_none.ensures))
