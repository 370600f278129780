use Rattle.std.proofs.Common.{rules, ap, ◌∙◌, arith}
use Rattle.std.specs.Option.{option_flatten}
use Rattle.all_ends.proofs.Shapes.{merge_told}
use Rattle.all_ends.proofs.alternatives.merge_at.Goals as goal

pub returns : goal.returns
returns c = merge_told c.args.pattern (omega arith) c.args.z c.merge.result c.flatten.result (c.flatten.ensures ∙ ap option_flatten c.ok.ensures.value) (search rules) c.merge.ensures.cases
