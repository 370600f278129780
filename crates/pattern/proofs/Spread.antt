-- The three writes by which a row is reached over two new rows.
use Rattle.std.proofs.Common.{◌≡◌, ℕ, ◌+◌, set, Some, Option, sym, ap, ◌∙◌}
use Rattle.record.specs.declared.axis.Reach.TheVariants.{DescendantOrSelf, AncestorOrSelf}
use Rattle.record.specs.declared.axis.Axis.{Axis}
use Rattle.record.specs.declared.axis.Axis.TheVariants.{Wide}
use Rattle.pattern.specs.Rows.{Seat, seat, seats, row, hung, fresh, spread}
use Rattle.pattern.specs.declared.inner.Inner.{Inner}
use Rattle.pattern.specs.declared.row.Row.{Row}
use Rattle.pattern.specs.declared.row.Test.TheVariants.{Star}
use Rattle.pattern.proofs.Known.{there}
use Rattle.pattern.proofs.SeatLists.{seats_set}

module _ (i : Inner) (n : ℕ) (x : Axis) where
  abbrev pub first : Option Row
  first = Some (record { up = i.row.up; axis = Wide AncestorOrSelf; test = Star })

  abbrev pub next : Option Row
  next = Some (record { up = n; axis = x; test = Star })

  abbrev pub last : Option Row
  last = Some (record { up = n + 1; axis = Wide DescendantOrSelf; test = i.row.test })

  pub spread_seats : seats (set (set (set i.pattern.rows n first) (n + 1) next) i.z last) ≡ spread (seats i.pattern.rows) i.z n (n + 1) x
  spread_seats =
      let found : row (seats i.pattern.rows) i.z ≡ seat (Some i.row) = there i.pattern.rows i.z i.row i.here in
      seats_set (set (set i.pattern.rows n first) (n + 1) next) i.z last
      ∙ ap (λ o. set o i.z (seat last)) (seats_set (set i.pattern.rows n first) (n + 1) next ∙ ap (λ o. set o (n + 1) (seat next)) (seats_set i.pattern.rows n first))
      ∙ ap (λ (s : Seat). set (set (set (seats i.pattern.rows) n (fresh s.up (Wide AncestorOrSelf))) (n + 1) (fresh n x)) i.z (hung s (n + 1) (Wide DescendantOrSelf))) (sym found)
