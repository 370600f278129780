use Rattle.std.proofs.Common.{arith}
use Rattle.all_ends.proofs.Shapes.{axis_told}
use Rattle.all_ends.proofs.alternatives.axis_at.Goals as goal

pub returns : goal.returns
returns c = axis_told c.args.pattern (omega arith) c.args.z c.args.axis c.with_axis.result c.ok.result c.ok.ensures.value c.with_axis.ensures
