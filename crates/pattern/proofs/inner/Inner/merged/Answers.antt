use Rattle.std.proofs.Common.{◌≡◌, ℕ, true, cond, eqb, sym, ap, ◌∙◌, subst, arith}
use Rattle.pattern.specs.Rows.{seats, live}
use Rattle.pattern.proofs.Known.{whole, used, high, ups, up_other, up_lives, tests, into_up, gone_up}
use Rattle.pattern.proofs.MergedRows.{merged_top, merged_rooted, into_live}
use Rattle.pattern.proofs.inner.Inner.merged.Goals as goal

pub returns-in_err-test : goal.returns-in_err-test
returns-in_err-test c = rw c.from_residual.ensures (tests c.args.self (omega arith) ∙ sym c.join.ensures.value ∙ c.in_err-test.was)

pub merge_into-rows-requires-clause-two : goal.merge_into-rows-requires-clause-two
merge_into-rows-requires-clause-two c = up_other c.args.self (omega arith)

pub invariant_of-result : goal.invariant_of-result
invariant_of-result c =
    let i = c.args.self in
    let w = whole c.args.self (omega arith) in
    let m = into_up c.args.self (omega arith) c.in_ok-test.test (seats c.merge_into-rows.result) (sym c.join.ensures.value ∙ c.in_ok-test.was) c.merge_into-rows.ensures in
    record {
      root = merged_top (seats i.pattern.rows) (seats c.merge_into-rows.result) i.z i.row.up m i.low i.pattern.root;
      ok = merged_rooted (seats i.pattern.rows) (omega arith) i.pattern.ok i.z i.low (high c.args.self (omega arith)) (used c.args.self (omega arith)) (seats c.merge_into-rows.result) (gone_up c.args.self (omega arith) (seats c.merge_into-rows.result) m);
      shown = subst (λ (o : ℕ). live (seats c.merge_into-rows.result) o ≡ true) (sym c.redirect-output.ensures)
          (into_live (seats i.pattern.rows) (seats c.merge_into-rows.result) i.z i.row.up m (up_other c.args.self (omega arith)) (up_lives c.args.self (omega arith)) i.pattern.output i.pattern.shown);
    }

pub returns : goal.returns
returns c = (
  gone_up c.args.self (omega arith) (seats c.merge_into-rows.result) (into_up c.args.self (omega arith) c.in_ok-test.test (seats c.merge_into-rows.result) (sym c.join.ensures.value ∙ c.in_ok-test.was) c.merge_into-rows.ensures),
  c.redirect-output.ensures ∙ ap (λ u. cond (eqb c.args.self.pattern.output c.args.self.z) u c.args.self.pattern.output) (sym (ups c.args.self (omega arith))),
)
