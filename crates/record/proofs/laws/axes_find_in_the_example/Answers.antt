use Rattle.record.proofs.Computed.{axis_examples}
use Rattle.record.proofs.laws.axes_find_in_the_example.Goals as goal

pub returns : goal.returns
returns c = axis_examples
