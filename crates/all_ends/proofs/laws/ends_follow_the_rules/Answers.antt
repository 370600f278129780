use Rattle.all_ends.specs.Ends.{shape_of}
use Rattle.all_ends.proofs.Changed.{good_pattern}
use Rattle.all_ends.proofs.Rules.{by_the_rules}
use Rattle.all_ends.proofs.laws.ends_follow_the_rules.Goals as goal

pub returns : goal.returns
returns c = λ P len. by_the_rules (shape_of P) (good_pattern P len)
