use Rattle.record.proofs.Proved.{inverses_lead_back}
use Rattle.record.proofs.laws.inverses_lead_back.Goals as goal

pub returns : goal.returns
returns c = inverses_lead_back
