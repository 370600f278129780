use Rattle.std.proofs.Common.{sym, refl, ◌∙◌, arith}
use Rattle.pattern.proofs.Lookups.{inner_zero, inner_missing, inner_here, up_found}
use Rattle.pattern.proofs.base.Pattern.inner.Goals as goal

pub unwrap-requires : goal.unwrap-requires
unwrap-requires c =
    up_found c.args.self.rows c.args.z c.in-Some.row (omega arith) (sym c.row_at.ensures ∙ c.in-Some.is) (omega arith) c.args.self.root c.args.self.ok c.row_at-in-Some.result c.row_at-in-Some.ensures

pub returns-in-Some : goal.returns-in-Some
returns-in-Some c = (refl, refl, inner_here c.args.self.rows c.args.z c.in-Some.row (omega arith) (sym c.row_at.ensures ∙ c.in-Some.is))

pub returns-in_default : goal.returns-in_default
returns-in_default c = inner_zero c.args.self.rows c.args.z c.if-z-ne0.false

pub returns-in_default-2 : goal.returns-in_default-2
returns-in_default-2 c = inner_missing c.args.self.rows c.args.z (sym c.row_at.ensures ∙ c.in_default.is)
