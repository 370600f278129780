use Rattle.all_ends.proofs.Faithfulness.{values_kept}
use Rattle.all_ends.proofs.laws.alternatives_keep_the_value.Goals as goal

pub returns : goal.returns
returns g c = λ places rec sources alternatives f e p. values_kept g.T.Tally.ring places rec p sources alternatives f e
