use Rattle.ways.proofs.Proved.{change_laws}
use Rattle.ways.proofs.laws.changes_keep_the_value.Goals as goal

pub returns : goal.returns
returns g c = change_laws g.T.Tally.ring
