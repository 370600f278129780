use Rattle.record.proofs.Proved.{following_by_one_pair}
use Rattle.record.proofs.laws.following_goes_by_one_pair.Goals as goal

pub returns : goal.returns
returns c = following_by_one_pair
