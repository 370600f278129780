-- Rows at the root: which ask for it, and which lead on from it.
use Rattle.std.specs.Prelude.{Bool, true, false, not, ◌&&◌, ◌||◌, ◌==◌, List}
use Rattle.record.specs.declared.axis.Axis.{Axis}
use Rattle.record.specs.declared.axis.Axis.TheVariants.{Along, Against, Itself, Wide}
use Rattle.record.specs.declared.axis.Step.TheVariants.{Child, Descendant, Next, FollowingSibling}
use Rattle.ways.specs.Ways.{all_rows}
use Rattle.pattern.specs.Rows.{Seat, row, fifteen}
use Rattle.pattern.specs.declared.row.Test.{Test}
use Rattle.pattern.specs.declared.row.Test.TheVariants.{Any, Star, Label, Root}

abbrev pub is_root : Test → Bool
is_root Any = false
is_root Star = false
is_root (Label n) = false
is_root Root = true

-- a row that is not in use, or does not ask for the root
abbrev pub named : Seat → Bool
named r = not r.used || not (is_root r.test)

-- row 0 asks for the root, and no other row in use does
unfoldable pub root_alone : List Seat → Bool
root_alone rs = is_root (row rs 0).test && all_rows fifteen (λ i. named (row rs i))

-- by child or descendant, which are all that leads on from the root
abbrev pub is_down : Axis → Bool
is_down (Along Child) = true
is_down (Along Descendant) = true
is_down (Along Next) = false
is_down (Along FollowingSibling) = false
is_down (Against s) = false
is_down Itself = false
is_down (Wide x) = false

-- a row that is not in use, or not right under row 0, or goes by such an axis
abbrev pub leads_down : Seat → Bool
leads_down r = not r.used || (not (r.up == 0) || is_down r.axis)

-- every row is such
unfoldable pub all_down : List Seat → Bool
all_down rs = all_rows fifteen (λ i. leads_down (row rs i))
