-- The laws, of the places of a record.
use Rattle.std.proofs.Common.{length, arith}
use Rattle.record.specs.Records.{depth_at}
use Rattle.record.proofs.Proved.{root_depth, all_steps, all_nested}
use Rattle.tally.specs.Semirings.{Semiring}
use Rattle.ways.specs.Laws.{ChangeLaws, ExpansionLaws, RewritingLaws}
use Rattle.ways.proofs.Ends.{ends, lsum_bound}
use Rattle.ways.proofs.Expansion.{expansion_kept, expansion_ends, cost, cost_le}
use Rattle.ways.proofs.Openings.{below_kept, above_kept, following_kept, preceding_kept}
use Rattle.ways.proofs.Steps.{step}
use Rattle.ways.proofs.Whole.{kept}

pub expansion_laws : {T : Type 0} (S : Semiring T) → ExpansionLaws S
expansion_laws S = record {
  descendant_or_self = λ places rec P W Z u e. below_kept S (depth_at places) (root_depth places rec) (all_steps places rec) (length places) rec.some_place (all_nested places rec) P W Z u e;
  ancestor_or_self = λ places rec P W Z u e. above_kept S (depth_at places) (root_depth places rec) (all_steps places rec) (length places) rec.some_place (all_nested places rec) P W Z u e;
  following = λ places rec P W Z N M L u g e. following_kept S (depth_at places) (root_depth places rec) (all_steps places rec) (length places) rec.some_place (all_nested places rec) P W Z N M L u g e;
  preceding = λ places rec P W Z N M L u g e. preceding_kept S (depth_at places) (root_depth places rec) (all_steps places rec) (length places) rec.some_place (all_nested places rec) P W Z N M L u g e;
  whole = λ places rec P rank tree f k p low. expansion_kept S (depth_at places) (root_depth places rec) (all_steps places rec) (length places) rec.some_place (all_nested places rec) f k P rank tree p low;
  ends = λ P rank tree l k p low. expansion_ends S 76 k P rank tree p low (let b = lsum_bound P.rows (λ r. cost (P.axis r)) 5 (λ r _. cost_le (P.axis r)) in omega arith);
}

pub rewriting_laws : {T : Type 0} (S : Semiring T) → RewritingLaws S
rewriting_laws S = record {
  moves = λ places rec P W Y Z sY sZ at. step S (depth_at places) (root_depth places rec) (all_steps places rec) (length places) rec.some_place P W Y Z sY sZ at;
  whole = λ places rec P rank tree k. kept S (depth_at places) (root_depth places rec) (all_steps places rec) (length places) rec.some_place k P rank tree;
  ends = λ P rank tree l h. ends S P rank tree l h;
}

pub change_laws : {T : Type 0} (S : Semiring T) → ChangeLaws S
change_laws S =
    let e : ExpansionLaws S = expansion_laws S in
    record {
      moves = (rewriting_laws S).moves;
      descendant_or_self = e.descendant_or_self;
      ancestor_or_self = e.ancestor_or_self;
      following = e.following;
      preceding = e.preceding;
    }
