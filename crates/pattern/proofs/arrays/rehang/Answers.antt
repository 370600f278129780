use Rattle.std.proofs.Common.{rules, slice_index_or, None, arith}
use Rattle.pattern.proofs.Hanging.{each_redirected, rehung_more}
use Rattle.pattern.proofs.arrays.rehang.Goals as goal

pub loop-row-preserved : goal.loop-row-preserved
loop-row-preserved c = rehung_more c.args.z c.args.w c.loop-row.row-index c.args.rows c.loop-row.row-items c.map.result (omega arith) c.loop-row.invariant (each_redirected c.args.z c.args.w _ (slice_index_or c.loop-row.row-items c.loop-row.row-index None) c.map.result c.requires (λ r q k. search rules) c.map.ensures.cases)
