use Rattle.std.proofs.Common.{arith}
use Rattle.std.proofs.lemmas.Result.{err_from_is_err_and}
use Rattle.std.proofs.lemmas.Bool.{and_left}
use Rattle.pattern.specs.Rows.{deep}
use Rattle.pattern.specs.declared.inner.Inner.{Inner}
use Rattle.pattern.proofs.Lookups.{deep_here, shallow, up_found, low_moved, here_moved, above_moved}
use Rattle.pattern.proofs.base.Pattern.deep.Goals as goal

pub returns-in_err-inner : goal.returns-in_err-inner
unfolding deep
returns-in_err-inner c =
    let p = err_from_is_err_and c.from_residual.result c.from_residual.ensures.1 in rw p.1 (and_left _ _ c.in_err-inner.ensures)

pub returns-then-inner-eq0 : goal.returns-then-inner-eq0
returns-then-inner-eq0 c =
    let i : Inner = c.in_ok-inner.inner in
    let e = c.in_ok-inner.ensures in
    shallow c.args.self.rows c.args.z i.row (low_moved i c.args.self c.args.z e.0 e.1) (here_moved i c.args.self c.args.z e.0 e.1) c.if-inner-eq0.true

pub unwrap-over-requires : goal.unwrap-over-requires
unwrap-over-requires c =
    let i : Inner = c.in_ok-inner.inner in
    let e = c.in_ok-inner.ensures in
    up_found c.args.self.rows i.row.up i.upper (omega arith) (above_moved i c.args.self c.args.z e.0 e.1) (omega arith) c.args.self.root c.args.self.ok c.row_at.result c.row_at.ensures

pub returns : goal.returns
returns c =
    let i : Inner = c.in_ok-inner.inner in
    let e = c.in_ok-inner.ensures in
    (e.0, e.1, deep_here c.args.self.rows c.args.z i.row (low_moved i c.args.self c.args.z e.0 e.1) (here_moved i c.args.self c.args.z e.0 e.1) c.if-inner-eq0.false)
