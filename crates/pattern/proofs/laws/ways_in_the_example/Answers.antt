use Rattle.pattern.proofs.Computed.{way_examples}
use Rattle.pattern.proofs.laws.ways_in_the_example.Goals as goal

pub returns : goal.returns
returns c = way_examples
