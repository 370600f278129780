use Rattle.std.proofs.Common.{◌≡◌, vec_items}
use Rattle.std.specs.List.{flat_map}
use Rattle.name_list.proofs.Texts.{numbered_row, with_bytes}
use Rattle.name_list.proofs.showing.all_rows.Given as goal

abbrev pub invariant-loop-k : goal.invariant-loop-k
invariant-loop-k l = vec_items l.text ≡ flat_map (λ p. numbered_row (with_bytes p)) l.yielded
