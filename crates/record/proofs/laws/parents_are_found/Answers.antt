use Rattle.record.proofs.Proved.{parents_found}
use Rattle.record.proofs.laws.parents_are_found.Goals as goal

pub returns : goal.returns
returns c = parents_found
