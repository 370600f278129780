use Rattle.ways.proofs.Proved.{rewriting_laws}
use Rattle.ways.proofs.laws.rewriting_keeps_the_value.Goals as goal

pub returns : goal.returns
returns g c = rewriting_laws g.T.Tally.ring
