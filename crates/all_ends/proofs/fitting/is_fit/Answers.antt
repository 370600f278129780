use Rattle.std.proofs.Common.{ap, ◌∙◌, arith}
use Rattle.pattern.specs.Rows.{seats}
use Rattle.pattern.specs.Sizes.{how_many}
use Rattle.all_ends.specs.Ends.{next_number, to_open}
use Rattle.all_ends.proofs.Sources.{fits_numbers, fits_no_numbers}
use Rattle.all_ends.proofs.fitting.is_fit.Goals as goal

pub returns-then-from-more-le16 : goal.returns-then-from-more-le16
returns-then-from-more-le16 c =
    fits_numbers c.args.pattern (omega arith) c.from.result c.openings-more.result
    (c.from.ensures ∙ c.next_number.ensures.value ∙ ap (λ rows. next_number (seats rows)) c.rows-rows.ensures) (c.openings-more.ensures.value ∙ ap (λ rows. how_many to_open (seats rows)) c.rows-rows.ensures)
    c.from-then-from-more-le16.result (c.from-then-from-more-le16.ensures ∙ c.path_rows.ensures.value) c.if-from-more-le16.true

pub returns-else-from-more-le16 : goal.returns-else-from-more-le16
returns-else-from-more-le16 c =
    fits_no_numbers c.args.pattern (omega arith) c.from.result c.openings-more.result
    (c.from.ensures ∙ c.next_number.ensures.value ∙ ap (λ rows. next_number (seats rows)) c.rows-rows.ensures) (c.openings-more.ensures.value ∙ ap (λ rows. how_many to_open (seats rows)) c.rows-rows.ensures)
    c.if-from-more-le16.false
