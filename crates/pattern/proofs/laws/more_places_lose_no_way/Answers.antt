use Rattle.pattern.proofs.Growth.{more_places_lose_no_way}
use Rattle.pattern.proofs.laws.more_places_lose_no_way.Goals as goal

pub returns : goal.returns
returns c = more_places_lose_no_way
