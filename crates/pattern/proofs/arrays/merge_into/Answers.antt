use Rattle.std.proofs.Common.{rules, slice_index_or, None, sym, ap, ◌∙◌, arith}
use Rattle.pattern.specs.Rows.{Seat, seats, retested}
use Rattle.pattern.proofs.Hanging.{hung_at, each_retested, made}
use Rattle.pattern.proofs.SeatLists.{row_seats, seats_long}
use Rattle.pattern.proofs.arrays.merge_into.Goals as goal

pub returns : goal.returns
returns c =
    let u = ap (λ (s : Seat). s.used) (sym (row_seats c.rehang-out.result c.args.w) ∙ hung_at (seats c.args.rows) c.rehang-out.result c.args.z c.args.w c.rehang-out.ensures c.requires.low c.args.w) ∙ c.requires.live in
    made (seats c.args.rows) c.rehang-out.result c.args.z c.args.w c.args.test c.map.result c.rehang-out.ensures (seats_long c.args.rows ∙ omega arith) c.requires.low c.requires.high c.requires.within c.requires.two
    (each_retested c.args.test _ (slice_index_or c.rehang-out.result c.args.w None) c.map.result u (λ r q k. search rules) c.map.ensures.cases
    ∙ ap (λ (s : Seat). retested s c.args.test) (sym (row_seats c.rehang-out.result c.args.w)))
