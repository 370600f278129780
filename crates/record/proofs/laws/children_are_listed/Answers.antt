use Rattle.record.proofs.Proved.{children_listed}
use Rattle.record.proofs.laws.children_are_listed.Goals as goal

pub returns : goal.returns
returns c = children_listed
