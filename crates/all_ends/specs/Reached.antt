-- What has been reached of the ends of a question, and what a call that goes on answers.
use Rattle.std.specs.Prelude.{◌≡◌, ℕ, ◌+◌, ◌<◌, ◌⊎◌, List, ◌++◌, map, length, Ok, Err, vec_items, Option, Result}
use Rattle.refusal.specs.Memory.{no_memory}
use Rattle.refusal.specs.declared.cause.Cause.TheVariants.{TooManyEnds}
use Rattle.refusal.specs.declared.refusing.Refusal.{Refusal}
use Rattle.pattern.specs.declared.forward.Forward.{Forward}
use Rattle.all_ends.specs.Ends.{Shape, shape_of, kept_of}
use Rattle.all_ends.specs.declared.base.Ends.{Ends}

-- no more ends than this
abbrev pub max_ends : ℕ
max_ends = 64

abbrev pub too_many_ends : Refusal
too_many_ends = record { cause = TooManyEnds; position = 0 }

abbrev pub forward_shape : Forward → Shape
forward_shape f = shape_of f.pattern

-- the kept ends, as they stand in the list
abbrev pub shapes : Ends → List Shape
shapes ends = map forward_shape (vec_items ends.kept)

-- these ends have come to those before
pub record Grown (before : Ends) (more : List (Option Shape)) (after : Ends) : Type 0 where
  pub number : after.number ≡ before.number + length more
  pub kept : shapes after ≡ shapes before ++ kept_of more

-- they came to those before; or memory failed; or there are too many
abbrev pub Reached : Ends → List (Option Shape) → Result (Unit {0}) Refusal → Ends → Type 0
Reached before more (Ok u) after = Grown before more after
Reached before more (Err e) after = (e ≡ no_memory) ⊎ ((e ≡ too_many_ends) × (max_ends < before.number + length more))
