use Rattle.tally.proofs.Carrying.{yes_follows_the_number}
use Rattle.tally.proofs.laws.yes_follows_the_number.Goals as goal

pub returns : goal.returns
returns c = yes_follows_the_number
