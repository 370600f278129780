use Rattle.tally.proofs.Carrying.{count_follows_the_number}
use Rattle.tally.proofs.laws.count_follows_the_number.Goals as goal

pub returns : goal.returns
returns c = count_follows_the_number
