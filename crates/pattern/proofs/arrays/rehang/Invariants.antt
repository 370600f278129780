use Rattle.pattern.proofs.Hanging.{Rehung}
use Rattle.pattern.proofs.arrays.rehang.Given as goal

abbrev pub invariant-loop-row : goal.invariant-loop-row
invariant-loop-row l = Rehung l.z l.w l.fn.rows l.row-index l.row-items
