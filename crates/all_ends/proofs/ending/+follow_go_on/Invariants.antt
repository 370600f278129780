use Rattle.std.proofs.Common.{◌+◌, ◌*◌, take}
use Rattle.pattern.specs.Rows.{seats}
use Rattle.all_ends.specs.Ends.{shape_of}
use Rattle.all_ends.specs.Reached.{Grown}
use Rattle.all_ends.proofs.Measures.{turns_left}
use Rattle.all_ends.proofs.Followed.{by_moves, left_of}
use Rattle.all_ends.proofs.ending.+follow_go_on.Given as goal

abbrev pub decreases-follow : goal.decreases-follow
decreases-follow l = 2 * turns_left (seats l.pattern.rows) + 1

abbrev pub decreases-go_on : goal.decreases-go_on
decreases-go_on l = left_of l.alternative

abbrev pub invariant-follow-loop-by : goal.invariant-follow-loop-by
invariant-follow-loop-by l = Grown l.initial.ends (by_moves (shape_of l.pattern) l.z (take l.by-index l.by-items)) l.ends
