use Rattle.std.proofs.Common.{take}
use Rattle.all_ends.specs.Rewritten.{Finished}
use Rattle.all_ends.proofs.rewriting.rewrite.Given as goal

abbrev pub invariant-loop-source : goal.invariant-loop-source
invariant-loop-source l = Finished (take l.source-index l.sources) l.ends
