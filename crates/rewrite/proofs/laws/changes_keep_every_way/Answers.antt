use Rattle.rewrite.proofs.Proved.{change_laws}
use Rattle.rewrite.proofs.laws.changes_keep_every_way.Goals as goal

pub returns : goal.returns
returns g c = change_laws g.T.Tally.ring
