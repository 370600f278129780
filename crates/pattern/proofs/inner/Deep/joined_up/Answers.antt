use Rattle.std.proofs.Common.{◌≡◌, ℕ, true, cond, eqb, sym, ap, ◌∙◌, subst, arith}
use Rattle.record.specs.declared.rules.Move.TheVariants.{Join}
use Rattle.pattern.specs.Rows.{seats, live}
use Rattle.pattern.proofs.Known.{second_is, over_other, still_used, as_join, no_join, left}
use Rattle.pattern.proofs.inner.Deep.joined_up.Goals as goal

pub returns-in_err-test : goal.returns-in_err-test
returns-in_err-test c = rw c.from_residual.ensures (no_join c.args.self (omega arith) c.args.step (sym c.join.ensures.value ∙ c.in_err-test.was))

pub merge_into-rows-requires-clause-two : goal.merge_into-rows-requires-clause-two
merge_into-rows-requires-clause-two c = over_other c.args.self (omega arith)

pub merge_into-rows-requires-clause-live : goal.merge_into-rows-requires-clause-live
merge_into-rows-requires-clause-live c = still_used c.args.self (omega arith) c.args.step

pub invariant_of-result : goal.invariant_of-result
invariant_of-result c =
    let m = as_join c.args.self (omega arith) c.args.step c.in_ok-test.test (seats c.merge_into-rows.result) (sym c.join.ensures.value ∙ c.in_ok-test.was) c.merge_into-rows.ensures in
    let l = left c.args.self (omega arith) (Join c.args.step) (seats c.merge_into-rows.result) m in
    record {
      root = l.0;
      ok = l.1.0;
      shown = subst (λ (o : ℕ). live (seats c.merge_into-rows.result) o ≡ true) (sym (c.redirect-output.ensures ∙ ap (λ w. cond (eqb c.args.self.inner.pattern.output c.args.self.inner.z) w c.args.self.inner.pattern.output) (sym (second_is c.args.self (omega arith))))) l.1.1;
    }

pub returns : goal.returns
returns c = (
  as_join c.args.self (omega arith) c.args.step c.in_ok-test.test (seats c.merge_into-rows.result) (sym c.join.ensures.value ∙ c.in_ok-test.was) c.merge_into-rows.ensures,
  c.redirect-output.ensures ∙ ap (λ w. cond (eqb c.args.self.inner.pattern.output c.args.self.inner.z) w c.args.self.inner.pattern.output) (sym (second_is c.args.self (omega arith))),
)
