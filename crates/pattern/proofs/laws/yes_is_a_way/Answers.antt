use Rattle.pattern.proofs.Carried.{yes_is_a_way}
use Rattle.pattern.proofs.laws.yes_is_a_way.Goals as goal

pub returns : goal.returns
returns c = yes_is_a_way
