use Rattle.std.proofs.Common.{sym, subst}
use Rattle.pattern.specs.Tests.{JoinTold}
use Rattle.pattern.proofs.Joined.{join_told}
use Rattle.pattern.proofs.row.Test.join.Goals as goal

pub returns-clause-told : goal.returns-clause-told
returns-clause-told c = subst (JoinTold c.args.self c.args.other) (sym c.narrower.ensures) (join_told c.args.self c.args.other)
