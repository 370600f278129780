-- The laws of values, put together.
use Rattle.tally.specs.Semirings.{Semiring}
use Rattle.std.proofs.Common.{length}
use Rattle.record.specs.Records.{depth_at}
use Rattle.pattern.specs.Laws.{ValueLaws}
use Rattle.pattern.proofs.Growth.{prefixes_keep_the_value}
use Rattle.ways.proofs.Merges.{merge_kept}
use Rattle.ways.proofs.RowSums.{pull}

pub value_laws : {T : Type 0} (S : Semiring T) → ValueLaws S
value_laws S = record {
  merging = λ places rec P W Z u e. merge_kept S (depth_at places) (length places) rec.some_place P W Z u e;
  order = λ n z rows F a i d. pull S n z rows F a i d;
  prefixes = prefixes_keep_the_value S;
}
