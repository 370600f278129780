-- Ends compute.
use Rattle.std.proofs.Common.{ℕ, refl}
use Rattle.pattern.specs.Rows.{inner, deep, room, free_two}
use Rattle.all_ends.specs.Ends.{merged_shape, merge_into, merge_at, axis_at, highest, next_number, open_at, by_move, move_at, alternatives, by_turn, ends_within, ends_of, kept_of}
use Rattle.all_ends.specs.Example.{EndExamples}
use Rattle.rewrite.specs.Turns.{first_some}

open_all : ℕ
unfolding inner deep room free_two first_some merged_shape merge_into merge_at axis_at highest next_number open_at by_move move_at alternatives by_turn ends_within ends_of kept_of
open_all = 0

pub end_examples : EndExamples
unfolding open_all
end_examples = record { ancestors = (refl, refl); preceding = (refl, refl); many = (refl, refl) }
