use Rattle.std.proofs.Common.{rules}
use Rattle.all_ends.proofs.Numbers.{next_after, next_first}
use Rattle.all_ends.proofs.alternatives.next_number.Goals as goal

pub returns-in-Some-clause-value : goal.returns-in-Some-clause-value
returns-in-Some-clause-value c = next_after c.args.rows.now c.in-Some.highest (search rules) (search rules) (λ k l m. search rules)

pub returns-in-None-clause-value : goal.returns-in-None-clause-value
returns-in-None-clause-value c = next_first c.args.rows.now (λ k l. search rules)
