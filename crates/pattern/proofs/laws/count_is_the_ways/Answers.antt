use Rattle.pattern.proofs.Carried.{count_is_the_ways}
use Rattle.pattern.proofs.laws.count_is_the_ways.Goals as goal

pub returns : goal.returns
returns c = count_is_the_ways
