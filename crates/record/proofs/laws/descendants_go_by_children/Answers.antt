use Rattle.record.proofs.Proved.{descendants_by_children}
use Rattle.record.proofs.laws.descendants_go_by_children.Goals as goal

pub returns : goal.returns
returns c = descendants_by_children
