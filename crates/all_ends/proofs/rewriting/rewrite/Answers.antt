use Rattle.std.proofs.Common.{Err, sym, subst}
use Rattle.std.proofs.lemmas.Result.{err_from_is_err_and}
use Rattle.pattern.specs.declared.base.Pattern.{Pattern}
use Rattle.all_ends.specs.Ends.{shape_of, ends_of}
use Rattle.all_ends.specs.Reached.{Grown, Reached}
use Rattle.all_ends.proofs.Faithfulness.{faithful}
use Rattle.all_ends.proofs.Sources.{finished_none, finished_more, finished_fails, finished_all, outcome_fails}
use Rattle.all_ends.proofs.rewriting.rewrite.Goals as goal

pub loop-source-init : goal.loop-source-init
loop-source-init c = finished_none c.args.sources.now c.none-ends.result c.none-ends.ensures.number c.none-ends.ensures.kept

pub returns-in_err-follow-clause-exact : goal.returns-in_err-follow-clause-exact
returns-in_err-follow-clause-exact c =
    let p = err_from_is_err_and c.from_residual.result c.from_residual.ensures.1 in
    outcome_fails c.args.sources.now _ _ _ (sym c.if-not-all_fit.ensures) p.1 p.2
    (finished_fails c.args.sources.now c.loop-source.source-index c.source-item.result c.loop-source-test.true c.loop-source.ends c.follow.new.ends _ c.loop-source.invariant
    (subst (λ (P : Pattern). Reached c.loop-source.ends (ends_of (shape_of P)) (Err c.in_err-follow.field-0.0) c.follow.new.ends) c.source-item.is c.in_err-follow.ensures))

pub loop-source-preserved : goal.loop-source-preserved
loop-source-preserved c =
    finished_more c.args.sources.now c.loop-source.source-index c.source-item.result c.loop-source-test.true c.loop-source.ends c.follow.new.ends c.loop-source.invariant
    (subst (λ (P : Pattern). Grown c.loop-source.ends (ends_of (shape_of P)) c.follow.new.ends) c.source-item.is c.in_ok-follow.ensures)

pub returns-clause-faithful : goal.returns-clause-faithful
returns-clause-faithful c =
    faithful c.args.sources.now c.loop-source.ends (sym c.if-not-all_fit.ensures)
    (finished_all c.args.sources.now c.loop-source.source-index c.loop-source.ends c.loop-source-test.false c.loop-source.invariant)
