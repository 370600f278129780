use Rattle.std.proofs.Common.{ℕ, ◌+◌, sym, ap, ◌∙◌, ap₂}
use Rattle.std.proofs.lemmas.Result.{err_from_is_err_and}
use Rattle.std.proofs.lemmas.Bool.{and_left, and_right, and_from}
use Rattle.pattern.specs.Rows.{seats, room, spread}
use Rattle.pattern.specs.declared.base.Pattern.{Pattern}
use Rattle.pattern.proofs.base.Pattern.opened.Goals as goal

pub returns-in_err-row : goal.returns-in_err-row
unfolding room
returns-in_err-row c =
    let p = err_from_is_err_and c.from_residual.result c.from_residual.ensures.1 in rw p.1 (and_left _ _ c.in_err-row.ensures)

pub returns-then-not-are_free : goal.returns-then-not-are_free
unfolding room
returns-then-not-are_free c = and_right _ _ (sym c.if-not-are_free.ensures)

pub returns : goal.returns
unfolding room
returns c =
    let e = c.in_ok-row.ensures in (
      and_from _ _ e.2 (sym c.if-not-are_free.ensures),
      c.spread_over.ensures.0 ∙ ap₂ (λ (P : Pattern) (z : ℕ). spread (seats P.rows) z c.args.n (c.args.n + 1) c.args.aside) e.0 e.1,
      c.spread_over.ensures.1 ∙ ap (λ (P : Pattern). P.output) e.0,
    )
