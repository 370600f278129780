use Rattle.record.proofs.Proved.{descendants_unbroken}
use Rattle.record.proofs.laws.descendants_are_unbroken.Goals as goal

pub returns : goal.returns
returns c = descendants_unbroken
