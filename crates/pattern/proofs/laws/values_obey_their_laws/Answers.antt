use Rattle.pattern.proofs.Proved.{value_laws}
use Rattle.pattern.proofs.laws.values_obey_their_laws.Goals as goal

pub returns : goal.returns
returns g c = value_laws g.T.Tally.ring
