use Rattle.std.proofs.Common.{refl, arith}
use Rattle.record.specs.declared.rules.Move.TheVariants.{Up}
use Rattle.pattern.proofs.Known.{as_up, left}
use Rattle.pattern.proofs.inner.Deep.raised.Goals as goal

pub invariant_of-result : goal.invariant_of-result
invariant_of-result c =
    let l = left c.args.self (omega arith) Up _ (as_up c.args.self (omega arith)) in
    record { root = l.0; ok = l.1.0; shown = l.1.1 }

pub returns : goal.returns
returns c = (as_up c.args.self (omega arith), refl)
