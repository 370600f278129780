use Rattle.std.proofs.Common.{ap, ◌∙◌, arith}
use Rattle.pattern.specs.Rows.{seats}
use Rattle.all_ends.specs.Ends.{next_number}
use Rattle.all_ends.proofs.Shapes.{open_told}
use Rattle.all_ends.proofs.alternatives.open_at.Goals as goal

pub returns : goal.returns
returns c = open_told c.args.pattern (omega arith) c.args.z c.next_number.result c.args.aside c.opened.result c.ok.result (c.next_number.ensures.value ∙ ap (λ rows. next_number (seats rows)) c.rows.ensures) c.ok.ensures.value c.opened.ensures
