use Rattle.all_ends.proofs.Computed.{end_examples}
use Rattle.all_ends.proofs.laws.ends_in_the_examples.Goals as goal

pub returns : goal.returns
returns c = end_examples
