use Rattle.record.proofs.Proved.{axes_stay}
use Rattle.record.proofs.laws.axes_stay.Goals as goal

pub returns : goal.returns
returns c = axes_stay
