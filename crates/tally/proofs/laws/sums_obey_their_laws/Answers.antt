use Rattle.tally.proofs.Carrying.{sum_laws}
use Rattle.tally.proofs.laws.sums_obey_their_laws.Goals as goal

pub returns : goal.returns
returns g c = sum_laws g.T.Tally.ring
