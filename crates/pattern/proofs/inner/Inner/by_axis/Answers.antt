use Rattle.std.proofs.Common.{◌≡◌, true, List, sym, refl, ap, ◌∙◌, subst, arith}
use Rattle.pattern.specs.Rows.{Seat, seats, rehung, has_root, rooted, live}
use Rattle.pattern.proofs.Known.{whole, high, ups, hang_row}
use Rattle.pattern.proofs.Moved.{hung_used, hung_live, axed_rooted}
use Rattle.pattern.proofs.inner.Inner.by_axis.Goals as goal

pub invariant_of-result : goal.invariant_of-result
invariant_of-result c =
    let i = c.args.self in
    let w = whole c.args.self (omega arith) in
    let h = high c.args.self (omega arith) in
    let x = c.args.axis in
    let e = hang_row i.pattern.rows i.z i.row i.row.up x i.here ∙ ap (λ u. rehung (seats i.pattern.rows) i.z u x) (sym (ups c.args.self (omega arith))) in
    record {
      root = subst (λ (rs : List Seat). has_root rs ≡ true) (sym e) (hung_used (seats i.pattern.rows) i.z _ x (omega arith) 0 ∙ i.pattern.root);
      ok = subst (λ (rs : List Seat). rooted rs ≡ true) (sym e) (axed_rooted (seats i.pattern.rows) i.z x w h i.pattern.ok);
      shown = subst (λ (rs : List Seat). live rs i.pattern.output ≡ true) (sym e) (hung_live (seats i.pattern.rows) i.z _ x (omega arith) i.pattern.output ∙ i.pattern.shown);
    }

pub returns : goal.returns
returns c =
    let i = c.args.self in
    (hang_row i.pattern.rows i.z i.row i.row.up c.args.axis i.here ∙ ap (λ u. rehung (seats i.pattern.rows) i.z u c.args.axis) (sym (ups c.args.self (omega arith))), refl)
