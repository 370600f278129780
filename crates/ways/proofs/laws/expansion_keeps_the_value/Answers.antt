use Rattle.ways.proofs.Proved.{expansion_laws}
use Rattle.ways.proofs.laws.expansion_keeps_the_value.Goals as goal

pub returns : goal.returns
returns g c = expansion_laws g.T.Tally.ring
