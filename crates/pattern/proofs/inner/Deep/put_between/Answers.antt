use Rattle.std.proofs.Common.{refl, arith}
use Rattle.record.specs.declared.rules.Move.TheVariants.{Between}
use Rattle.pattern.proofs.Known.{as_between, left}
use Rattle.pattern.proofs.inner.Deep.put_between.Goals as goal

pub invariant_of-result : goal.invariant_of-result
invariant_of-result c =
    let l = left c.args.self (omega arith) (Between c.args.first c.args.then) _ (as_between c.args.self (omega arith) c.args.first c.args.then) in
    record { root = l.0; ok = l.1.0; shown = l.1.1 }

pub returns : goal.returns
returns c = (as_between c.args.self (omega arith) c.args.first c.args.then, refl)
