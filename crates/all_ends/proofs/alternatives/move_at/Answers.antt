use Rattle.std.proofs.Common.{rules, ap, ◌∙◌, arith}
use Rattle.std.specs.Option.{option_flatten}
use Rattle.all_ends.proofs.Shapes.{move_told}
use Rattle.all_ends.proofs.alternatives.move_at.Goals as goal

pub returns : goal.returns
returns c = move_told c.args.pattern (omega arith) c.args.z c.args.by c.moved.result c.flatten.result (c.flatten.ensures ∙ ap option_flatten c.ok.ensures.value) (search rules) c.moved.ensures
