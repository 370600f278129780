use Rattle.record.proofs.Proved.{forward_is_later}
use Rattle.record.proofs.laws.forward_is_later.Goals as goal

pub returns : goal.returns
returns c = forward_is_later
