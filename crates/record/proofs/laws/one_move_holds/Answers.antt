use Rattle.record.proofs.Proved.{one_move_holds}
use Rattle.record.proofs.laws.one_move_holds.Goals as goal

pub returns : goal.returns
returns c = one_move_holds
